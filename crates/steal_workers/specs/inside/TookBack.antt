-- What the dealer takes back where it has all shares.
use Rattle.std.specs.Prelude.{◌≡◌, ℕ, ◌+◌, ◌<◌, List, [], ◌∷◌, ◌++◌, map, All}
use Rattle.steal_workers.specs.declared.item.Item.{Item}
use Rattle.steal_workers.specs.declared.item.Item.TheVariants.{Task, Mark}
use Rattle.steal_workers.specs.declared.item.Numbered.{Numbered}
use Rattle.steal_workers.specs.declared.hand.Hand.{Hand}
use Rattle.list_weights.specs.Weights.{weigh}
use Rattle.steal_workers.specs.inside.Items.{marks, number_weight, Stands}

module _ {T : Type 0} where
  -- a task as it is left, and no mark
  abbrev pub kept : Item T → List (Numbered T)
  kept (Task number task) = record { number = number; task = task } ∷ []
  kept Mark = []

  abbrev pub numbers_of : List (Numbered T) → List ℕ
  numbers_of left = map (λ entry. entry.number) left

  -- What is left of the deque joins the list: with what was taken it is what was dealt, and where a mark was taken it is nothing.
  pub record Drains (v : Hand T) (old new : List (Numbered T)) : Type 0 where
    pub more : List (Numbered T)
    pub joins : new ≡ old ++ more
    pub all : (h : ℕ → ℕ) → weigh (number_weight h) v.taken + weigh h (numbers_of more) ≡ weigh (number_weight h) v.dealt
    pub dealt : All (λ entry. Stands v.dealt (Task entry.number entry.task)) more
    pub none : 0 < marks v.taken → more ≡ []
