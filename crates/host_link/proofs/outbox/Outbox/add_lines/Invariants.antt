use Rattle.std.proofs.Common.{◌≡◌, ◌++◌, map}
use Rattle.std.specs.Vec.Iter.{into_iter_items}
use Rattle.host_link.specs.Outbox.{logged}
use Rattle.host_link.proofs.outbox.Outbox.add_lines.Given as goal

-- what is there, and then what is left, are the whole
abbrev pub invariant-loop-line : goal.invariant-loop-line
invariant-loop-line l = record {
  parcels : l.self.parcels ≡ l.fn.self.parcels;
  lines : l.self.lines.items ++ map (logged l.key) (into_iter_items l.line-iterator) ≡ l.fn.self.lines.items ++ map (logged l.key) l.fn.lines.items;
  outputs : l.self.outputs ≡ l.fn.self.outputs;
}
