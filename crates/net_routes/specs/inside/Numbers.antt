-- Costs under numbers.
use Rattle.std.specs.Prelude.{◌≡◌, ◌⊎◌, ℕ, ◌==◌, ◌&&◌, Bool, List, [], ◌∷◌, ◌++◌, Option, Some, All, Contains, slice_get}
use Rattle.net_routes.specs.declared.cost.Cost.{Cost}

-- whether two costs are the same
abbrev pub same_cost : Cost → Cost → Bool
same_cost a b = (a.latency == b.latency) && (a.reliability == b.reliability)

-- under the number of a cost is that cost
abbrev pub AreNumbers : List (Option Cost) → (Option Cost → Option ℕ) → Type 0
AreNumbers costs number = (c : Option Cost) (n : ℕ) → number c ≡ Some n → slice_get costs n ≡ Some c

-- each number stays that of its cost
abbrev pub KeepNumbers : List (Option Cost) → List (Option Cost) → Type 0
KeepNumbers old new = (n : ℕ) (c : Option Cost) → slice_get old n ≡ Some c → slice_get new n ≡ Some c

-- a cost gets the next number, or none
abbrev pub GetsNumberIf : Option Cost → List (Option Cost) → List (Option Cost) → Type 0
GetsNumberIf c old new = (new ≡ old) ⊎ (new ≡ old ++ c ∷ [])

-- costs of a row get the next numbers: each cost whose number is new is one of the row
pub record GetNumbers (row old new : List (Option Cost)) : Type 0 where
  pub more : List (Option Cost)
  pub behind : new ≡ old ++ more
  pub of_row : All (Contains row) more
