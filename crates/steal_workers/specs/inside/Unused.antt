-- A seat that has taken nothing.
use Rattle.std.specs.Prelude.{◌≡◌, ℕ, ◌==◌, false, List, [], map}
use Rattle.list_weights.specs.Places.{EachAt}
use Rattle.steal_workers.specs.declared.share.Share.{Share}
use Rattle.steal_workers.specs.inside.Handles.{deque_of, is_own}
use Rattle.steal_workers.specs.inside.Shares.{IsShare, dealt_to, taken_from, is_marked}
use Rattle.steal_workers.specs.SeatViews.{SeatView}

module _ {T : Type 0} where
  -- of no deque was anything taken, and the one at the seat's place is its own
  abbrev pub IsUnused : ℕ → List (Share T) → Type 0
  IsUnused place shares = EachAt (λ j share. IsShare share × (taken_from share ≡ []) × (share.marked ≡ false) × (is_own share.handle ≡ (j == place))) shares

  abbrev pub unused_view : ℕ → List (Share T) → List T → SeatView T
  unused_view place shares tasks = record {
    deal = record { deques = map (λ (share : Share T). deque_of share.handle) shares; queues = map dealt_to shares; tasks = tasks };
    place = place;
    numbers = [];
    marked = map is_marked shares;
  }
