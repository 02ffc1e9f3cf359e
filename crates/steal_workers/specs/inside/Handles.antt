-- What is said of one deque of a deal, as a seat holds it.
use Rattle.std.specs.Prelude.{◌≡◌, ◌<◌, Bool, true, false}
use Rattle.std.specs.declared.alloc.Global.{Global}
use Rattle.atomic_blocks.specs.Lent.{RowsId}
use Rattle.crossbeam_deque.specs.Handles.{view, IsPassOf, worker_deque, worker_flavor, worker_view, stealer_deque, stealer_flavor}
use Rattle.steal_workers.specs.declared.hand.Hand.{Hand}
use Rattle.steal_workers.specs.declared.handle.Handle.{Handle}
use Rattle.steal_workers.specs.declared.handle.Handle.TheVariants.{Own, Other}
use Rattle.steal_workers.specs.inside.Items.{marks}

module _ {T : Type 0} where
  -- which deque it is
  abbrev pub deque_of : Handle T → RowsId × Global
  deque_of (Own deque) = worker_deque deque
  deque_of (Other thief claim) = stealer_deque thief

  -- what the seat knows of it
  abbrev pub hand_of : Handle T → Hand T
  hand_of (Own deque) = worker_view deque
  hand_of (Other thief claim) = view claim

  abbrev pub is_own : Handle T → Bool
  is_own (Own deque) = true
  is_own (Other thief claim) = false

  -- the deque is first in first out, its owner has the dealer's pass, and a thief's pass is of that deque
  abbrev pub IsFit : Handle T → Type 0
  IsFit (Own deque) = (worker_flavor deque ≡ 0) × ((worker_view deque).deals ≡ true)
  IsFit (Other thief claim) = (stealer_flavor thief ≡ 0) × IsPassOf (stealer_deque thief) claim

  -- the seat hasn't all its marks of it
  abbrev pub CanTake : Handle T → Type 0
  CanTake e = IsFit e × (marks (hand_of e).taken < (hand_of e).share)

  abbrev pub IsSameHandle : Handle T → Handle T → Type 0
  IsSameHandle old new = IsFit new × (deque_of new ≡ deque_of old) × (is_own new ≡ is_own old)
