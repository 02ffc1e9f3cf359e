-- The deques of a deal while they are emptied, the last first.
use Rattle.std.specs.Prelude.{◌≡◌, ℕ, ◌+◌, ◌<◌, ◌≤◌, ◌==◌, List, [], take, length, slice_get, Some, All}
use Rattle.steal_workers.specs.declared.item.Item.{Item}
use Rattle.steal_workers.specs.declared.item.Numbered.{Numbered}
use Rattle.steal_workers.specs.declared.seat.Stack.{Stack}
use Rattle.list_weights.specs.Weights.{weigh, numbers_below, only}
use Rattle.steal_workers.specs.inside.Items.{number_weight}
use Rattle.steal_workers.specs.SeatViews.{SeatView, seat_count}
use Rattle.steal_workers.specs.WholeDeals.{common_deal}
use Rattle.steal_workers.specs.inside.TookBack.{numbers_of}
use Rattle.steal_workers.specs.Gathers.{IsStack, AreOwnMarked, all_taken, places}

module _ {T : Type 0} where
  abbrev pub queue_weights : (ℕ → ℕ) → List (List (Item T)) → ℕ
  queue_weights h queues = weigh (λ queue. weigh (number_weight h) queue) queues

  abbrev pub seat_weights : (ℕ → ℕ) → List (SeatView T) → ℕ
  seat_weights h seats = weigh (λ seat. weigh h seat.numbers) seats

  -- The first m deques are still to be emptied.
  pub record IsEmptying (seats : List (SeatView T)) (m : ℕ) (stacks : List (Stack T)) (left : List (Numbered T)) : Type 0 where
    pub once : (d : ℕ) → d < length stacks → weigh (λ p. only (d == p) 1) (places stacks) ≡ 1
    pub stacks_left : All (IsStack (AreOwnMarked seats) (common_deal seats) m) stacks
    pub counts : (length stacks ≡ seat_count (common_deal seats)) × (length (common_deal seats).queues ≡ seat_count (common_deal seats))
    pub taken : (h : ℕ → ℕ) → weigh h (numbers_of left) + seat_weights h seats + queue_weights h (take m (common_deal seats).queues) ≡ all_taken (number_weight h) stacks + weigh h (numbers_below (length (common_deal seats).tasks))
    pub numbered : All (λ entry. slice_get (common_deal seats).tasks entry.number ≡ Some entry.task) left
    pub none_left : AreOwnMarked seats → left ≡ []
    pub room : length left + queue_weights (λ _. 1) (take m (common_deal seats).queues) ≤ length (common_deal seats).tasks
