-- Things by number: a new thing gets the least number that is free, and its number is free again when it ends.
use Rattle.std.specs.Prelude.{ℕ, List, ◌++◌, ◌∷◌, [], length, slice_get, slice_set, is_none, Option, Some, None, nat_lt, if◌then◌else◌}
use Rattle.std.specs.List.{position_or_len}
use Rattle.std.specs.Option.{option_flatten}

-- what has a number, if it is taken
abbrev pub at : {A : Type 0} → ℕ → List (Option A) → Option A
at place slots = option_flatten (slice_get slots place)

-- the least free number
abbrev pub free_place : {A : Type 0} → List (Option A) → ℕ
free_place slots = position_or_len is_none slots

-- the things with one at a number
abbrev pub with_at : {A : Type 0} → ℕ → Option A → List (Option A) → List (Option A)
with_at place thing slots = if nat_lt place (length slots) then slice_set slots place thing else slots ++ thing ∷ []

-- the things with a new one, at the least free number
abbrev pub added : {A : Type 0} → A → List (Option A) → List (Option A)
added thing slots = with_at (free_place slots) (Some thing) slots

-- the things without the one at a number
abbrev pub without : {A : Type 0} → ℕ → List (Option A) → List (Option A)
without place slots = slice_set slots place None

-- what is left of a thing after an act, where None means that it ended
abbrev pub after : {A : Type 0} → (A → Option A) → Option A → Option A
after act None = None
after act (Some thing) = act thing

-- the things after an act of the one at a number
abbrev pub acts : {A : Type 0} → (A → Option A) → ℕ → List (Option A) → List (Option A)
acts act place slots = slice_set slots place (after act (at place slots))
