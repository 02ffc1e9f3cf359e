use Rattle.std.proofs.Common.{◌≡◌, ◌≤◌, ◌-◌, vec_len}
use Rattle.run_outside.specs.Source.{HasRead}
use Rattle.run_outside.proofs.loops.read_all.Given as goal

abbrev pub invariant-loop-filled : goal.invariant-loop-filled
invariant-loop-filled g l = record {
  read : HasRead (g.S.Source.held l.initial.source) l.name l.filled l.read.items;
  room : vec_len l.read ≡ l.size;
  within : l.filled ≤ l.size;
  held : g.S.Source.held l.source ≡ g.S.Source.held l.initial.source;
  faults : g.S.Source.faults l.source ≡ g.S.Source.faults l.initial.source;
}

abbrev pub decreases-loop-filled : goal.decreases-loop-filled
decreases-loop-filled g l = l.size - l.filled
