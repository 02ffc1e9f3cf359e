-- All seats of one deal.
use Rattle.std.specs.Prelude.{◌≡◌, ℕ, List, [], ◌∷◌, map, length, All, IsPermutation}
use Rattle.list_weights.specs.Weights.{numbers_below}
use Rattle.steal_workers.specs.Deals.{Deal}
use Rattle.steal_workers.specs.SeatViews.{SeatView, seat_count, HasMark}

module _ {T : Type 0} where
  -- the deal that the first seat is of
  abbrev pub common_deal : List (SeatView T) → Deal T
  common_deal [] = record { deques = []; queues = []; tasks = [] }
  common_deal (seat ∷ seats) = seat.deal

  -- All seats of one deal, each once, in whatever order.
  pub record IsWholeDeal (seats : List (SeatView T)) : Type 0 where
    pub one_deal : All (λ seat. seat.deal ≡ common_deal seats) seats
    pub each_once : IsPermutation (map (λ seat. seat.place) seats) (numbers_below (seat_count (common_deal seats)))

  -- a seat that has taken nothing
  abbrev pub IsNewSeat : SeatView T → Type 0
  IsNewSeat seat = (seat.numbers ≡ []) × ((deque : ℕ) → ¬ HasMark seat deque)

  -- The tasks are dealt over so many seats, which have taken nothing yet.
  pub record IsNewDeal (tasks : List T) (workers : ℕ) (seats : List (SeatView T)) : Type 0 where
    pub count : length seats ≡ workers
    pub deques : seat_count (common_deal seats) ≡ workers
    pub whole : IsWholeDeal seats
    pub tasks_dealt : (common_deal seats).tasks ≡ tasks
    pub fresh : All IsNewSeat seats
