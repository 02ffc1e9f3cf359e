-- What contracts see of a seat.
use Rattle.std.specs.Prelude.{◌≡◌, ℕ, ◌<◌, Bool, false, List, length, slice_index_or, IsTrue}
use Rattle.steal_workers.specs.Deals.{Deal}

-- The deal and the seat's place in it, the numbers (places in the dealt list) of the tasks that it took, in the order in which it took them,
-- and for each deque whether it took its end mark.
pub record SeatView (T : Type 0) : Type 0 where
  pub deal : Deal T
  pub place : ℕ
  pub numbers : List ℕ
  pub marked : List Bool

module _ {T : Type 0} where
  abbrev pub seat_count : Deal T → ℕ
  seat_count deal = length deal.deques

  -- it took an end mark of that deque, behind which no task is left
  abbrev pub HasMark : SeatView T → ℕ → Type 0
  HasMark seat deque = IsTrue (slice_index_or seat.marked deque false)

  abbrev pub HasEveryMark : SeatView T → Type 0
  HasEveryMark seat = (deque : ℕ) → deque < seat_count seat.deal → HasMark seat deque

  -- the same seat, later: no mark was lost
  pub record IsSameSeat (old new : SeatView T) : Type 0 where
    pub deal : new.deal ≡ old.deal
    pub place : new.place ≡ old.place
    pub marks : (deque : ℕ) → HasMark old deque → HasMark new deque

  -- the same seats, later
  abbrev pub AreSameSeats : List (SeatView T) → List (SeatView T) → Type 0
  AreSameSeats old new = (length new ≡ length old) × ((k : ℕ) (e : SeatView T) → k < length old → IsSameSeat (slice_index_or old k e) (slice_index_or new k e))
