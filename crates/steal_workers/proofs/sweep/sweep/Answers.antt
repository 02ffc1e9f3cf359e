use Rattle.std.proofs.Common.{◌≡◌, ℕ, get_or, refl, arith}
use Rattle.steal_workers.specs.inside.Shares.{taken_weight}
use Rattle.steal_workers.proofs.ShareLists.{stays_all, moves_sound, moves_trans, moves_set, none_set, none_trans, found_set, found_after}
use Rattle.steal_workers.proofs.sweep.sweep.Goals as goal
use Rattle.steal_workers.proofs.sweep.sweep.Goals.{in-Marked, in-Lost}

pub loop-deque-init : goal.loop-deque-init
loop-deque-init g c = (stays_all _ c.requires.sound, λ h. refl)

pub take-requires : goal.take-requires
take-requires g c = moves_sound _ _ c.loop-deque.invariant.0 _ _ (omega arith)

pub returns-in-Task-clause-same : goal.returns-in-Task-clause-same
returns-in-Task-clause-same g c =
    moves_trans _ _ _ c.loop-deque.invariant.0 (moves_set _ _ c.index-shares-deque.result _ (moves_sound _ _ c.loop-deque.invariant.0) (omega arith) c.in-Task.ensures.same)

pub returns-in-Task-clause-found : goal.returns-in-Task-clause-found
returns-in-Task-clause-found g c =
    found_after _ _ _ _ _ c.loop-deque.invariant.0 c.loop-deque.invariant.1 (found_set _ _ c.index-shares-deque.result _ _ _ (omega arith) c.in-Task.ensures.finding)

pub loop-deque-preserved : goal.loop-deque-preserved
loop-deque-preserved g c =
    let none : (h : ℕ → ℕ) → taken_weight h c.take.new.self ≡ taken_weight h (get_or c.loop-deque.shares c.loop-deque.deque c.index-shares-deque.result) = elim c.match-take.branch [ in-Marked w ↦ w.in-Marked.ensures.finding.1 | in-Lost w ↦ w.in-Lost.ensures.finding.1 ] in (
      moves_trans _ _ _ c.loop-deque.invariant.0 (moves_set _ _ c.index-shares-deque.result _ (moves_sound _ _ c.loop-deque.invariant.0) (omega arith) c.take.ensures.same),
      none_trans _ _ _ c.loop-deque.invariant.1 (none_set _ _ c.index-shares-deque.result _ (omega arith) none),
    )
