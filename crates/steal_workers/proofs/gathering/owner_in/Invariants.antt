use Rattle.std.proofs.Common.{◌≡◌, ◌<◌, ℕ, get_or, false}
use Rattle.steal_workers.specs.declared.share.Share.{Share}
use Rattle.steal_workers.specs.inside.Handles.{is_own}
use Rattle.steal_workers.proofs.gathering.owner_in.Given as goal

abbrev pub invariant-loop-place : goal.invariant-loop-place
invariant-loop-place g l = (k : ℕ) (e : Share g.row.T.Denot) → k < l.place → is_own (get_or l.column k e).handle ≡ false
