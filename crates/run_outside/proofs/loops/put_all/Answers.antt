use Rattle.std.proofs.Common.{rules}
use Rattle.run_outside.proofs.Putting.{HasPut_more}
use Rattle.run_outside.proofs.loops.put_all.Goals as goal

pub loop-taken-preserved : goal.loop-taken-preserved
loop-taken-preserved g c = record {
  put = rw c.split_at.ensures.back (HasPut_more _ _ _ _ _ _ _ c.in_ok-taken.ensures.fits c.in_ok-taken.ensures.added c.loop-taken.invariant.put);
  faults = search rules;
  errors = search rules;
}
