use Rattle.std.specs.Vec.Iter.{into_iter_items}
use Rattle.schedule_tests.proofs.Hosts.{IsOpening}
use Rattle.schedule_tests.proofs.beginning.open_hosts.Given as goal

abbrev pub invariant-loop-row : goal.invariant-loop-row
invariant-loop-row l = IsOpening l.fn.rows.items (into_iter_items l.row-iterator) l.hosts.items
