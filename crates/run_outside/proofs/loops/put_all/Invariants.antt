use Rattle.std.proofs.Common.{◌≡◌, length}
use Rattle.run_outside.proofs.Putting.{HasPut}
use Rattle.run_outside.proofs.loops.put_all.Given as goal

abbrev pub invariant-loop-taken : goal.invariant-loop-taken
invariant-loop-taken g l = record {
  put : HasPut l.target l.piece l.rest (g.S.Sink.content l.initial.sink) (g.S.Sink.content l.sink);
  faults : (g.S.Sink.tally l.sink).faults ≡ (g.S.Sink.tally l.initial.sink).faults;
  errors : (g.S.Sink.tally l.sink).errors ≡ (g.S.Sink.tally l.initial.sink).errors;
}

abbrev pub decreases-loop-taken : goal.decreases-loop-taken
decreases-loop-taken g l = length l.rest
