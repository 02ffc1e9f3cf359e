-- The descriptors of a process: a finite map from numbers to the open files that they name.
use Rattle.std.specs.Prelude.{◌≡◌, ℕ, ◌+◌, ◌<◌, List, [], ◌∷◌, Option, Some, None, IsSome, refl}
use Rattle.std.specs.Ordering.{nat_cmp}
use Rattle.std.specs.FinMap.{FinMap, get, from_entries}
use Rattle.std.specs.FinMap as map
use Rattle.std.specs.Coded.{Coded, code_by, coded_ℕ}
use Rattle.host_fds.specs.declared.file_id.FileId.{FileId}

abbrev pub Descriptors : Type 0
Descriptors = FinMap nat_cmp FileId

-- how such a map is stored, part by part
abbrev pub file_code : Coded FileId
file_code = code_by ℕ coded_ℕ (λ o. o.number) (λ n. record { number = n }) (λ _. refl)

abbrev pub descriptors_code : Coded Descriptors
descriptors_code = map.code coded_ℕ file_code

-- how many descriptors there may be: numbers 0 to 255
abbrev pub limit : ℕ
limit = 256

-- the least free number
pub record IsLowestFree (fds : Descriptors) (fd : ℕ) : Type 0 where
  pub in_range : fd < limit
  pub is_free : get fds fd ≡ None
  pub below : (lower : ℕ) → lower < fd → IsSome (get fds lower)

-- every number is taken
abbrev pub IsFull : Descriptors → Type 0
IsFull fds = (fd : ℕ) → fd < limit → IsSome (get fds fd)

-- what stands at each number from one on, as entries
abbrev pub entries_from : ℕ → List (Option FileId) → List (ℕ × FileId)
entries_from fd [] = []
entries_from fd (None ∷ slots) = entries_from (fd + 1) slots
entries_from fd (Some file ∷ slots) = (fd, file) ∷ entries_from (fd + 1) slots

-- the descriptors that a table of slots stands for: slot n is that of number n
unfoldable pub descriptors_of : List (Option FileId) → Descriptors
descriptors_of slots = from_entries (entries_from 0 slots)
