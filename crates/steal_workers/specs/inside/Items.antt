-- What is said of the items of a deque.
use Rattle.std.specs.Prelude.{◌≡◌, ℕ, List, [], ◌∷◌}
use mathlib.Core.Option.{some}
use lib.ListN.{get_elem?}
use Rattle.list_weights.specs.Weights.{weigh}
use Rattle.steal_workers.specs.declared.item.Item.{Item}
use Rattle.steal_workers.specs.declared.item.Item.TheVariants.{Task, Mark}

module _ {T : Type 0} where
  abbrev pub mark_weight : Item T → ℕ
  mark_weight (Task number task) = 0
  mark_weight Mark = 1

  -- how many end marks a list has
  abbrev pub marks : List (Item T) → ℕ
  marks items = weigh mark_weight items

  -- a task weighs what its number does, and a mark nothing
  abbrev pub number_weight : (ℕ → ℕ) → Item T → ℕ
  number_weight h (Task number task) = h number
  number_weight h Mark = 0

  -- it stands in the list
  abbrev pub Stands : List (Item T) → Item T → Type 0
  Stands items item = (i : ℕ) × (get_elem? items i ≡ some item)

  -- behind an end mark there are only end marks
  abbrev pub IsAllMarks : List (Item T) → Type 0
  IsAllMarks [] = Unit {0}
  IsAllMarks (x ∷ xs) = (x ≡ Mark) × IsAllMarks xs

  abbrev pub MarksLast : List (Item T) → Type 0
  MarksLast [] = Unit {0}
  MarksLast (Task number task ∷ xs) = MarksLast xs
  MarksLast (Mark ∷ xs) = IsAllMarks xs
