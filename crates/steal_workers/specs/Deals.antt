-- A deal of tasks over the deques of seats.
use Rattle.std.specs.Prelude.{◌≡◌, ℕ, ◌<◌, List, [], length, slice_get, slice_index_or, Some}
use Rattle.std.specs.declared.alloc.Global.{Global}
use Rattle.atomic_blocks.specs.Lent.{RowsId}
use Rattle.steal_workers.specs.declared.item.Item.{Item}
use Rattle.steal_workers.specs.declared.item.Item.TheVariants.{Task}
use Rattle.list_weights.specs.Weights.{weigh, numbers_below}
use Rattle.steal_workers.specs.inside.Items.{marks, number_weight, Stands, MarksLast}

-- Which deal it is: its deques, one for each seat, and what was dealt to each. And the dealt tasks, in their order.
pub record Deal (T : Type 0) : Type 0 where
  pub deques : List (RowsId × Global)
  pub queues : List (List (Item T))
  pub tasks : List T

module _ {T : Type 0} where
  -- Each task stands once, with its place in the dealt list, in one of the queues.
  -- Behind a queue's tasks stand as many end marks as there are queues.
  pub record IsDealt (queues : List (List (Item T))) (tasks : List T) : Type 0 where
    pub marks_of_each : (d : ℕ) → d < length queues → marks (slice_index_or queues d []) ≡ length queues
    pub marks_last : (d : ℕ) → MarksLast (slice_index_or queues d [])
    pub numbered : (d number : ℕ) (task : T) → Stands (slice_index_or queues d []) (Task number task) → slice_get tasks number ≡ Some task
    pub once : (h : ℕ → ℕ) → weigh (λ queue. weigh (number_weight h) queue) queues ≡ weigh h (numbers_below (length tasks))
