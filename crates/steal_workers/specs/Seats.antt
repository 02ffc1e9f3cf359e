-- A seat's fields, as contracts see them, and how many seats there are.
use Rattle.std.specs.Prelude.{◌≡◌, ℕ, ◌<◌, ◌≤◌, ◌==◌, false, map, length, slice_index_or, All}
use Rattle.steal_workers.specs.declared.share.Share.{Share}
use Rattle.steal_workers.specs.declared.seat.Seat.TheInside.{Inside}
use Rattle.list_weights.specs.Weights.{weigh}
use Rattle.steal_workers.specs.inside.Handles.{deque_of}
use Rattle.steal_workers.specs.inside.Shares.{dealt_to, is_own_share, is_marked, IsShare, taken_weights}
use Rattle.steal_workers.specs.Deals.{Deal, IsDealt}
use Rattle.steal_workers.specs.SeatViews.{SeatView}

-- of a deal: a deque for each, in which each seat has a share
abbrev pub most_seats : ℕ
most_seats = 64

module _ {T : Type 0} where
  abbrev pub deal_of : Inside T → Deal T
  deal_of s = record { deques = map (λ (share : Share T). deque_of share.handle) s.shares.items; queues = map dealt_to s.shares.items; tasks = s.tasks.value.items }

  abbrev pub seat_view : Inside T → SeatView T
  seat_view s = record { deal = deal_of s; place = s.place; numbers = s.trail; marked = map is_marked s.shares.items }

  -- Each share is sound, the one at the seat's place is of its own deque, and the numbers are those of the tasks that were taken.
  pub record IsSound (s : Inside T) : Type 0 where
    pub shares : All IsShare s.shares.items
    pub place : s.place < length s.shares.items
    pub own : (d : ℕ) → d < length s.shares.items → slice_index_or (map is_own_share s.shares.items) d false ≡ (d == s.place)
    pub dealt : IsDealt (map dealt_to s.shares.items) s.tasks.value.items
    pub count : s.dealt ≡ length s.tasks.value.items
    pub numbers : (h : ℕ → ℕ) → weigh h s.trail ≡ taken_weights h s.shares.items
    pub few : length s.shares.items ≤ most_seats
