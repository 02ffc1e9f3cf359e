-- which calls of an outside in memory fail
use Rattle.std.specs.Prelude.{◌≡◌, ℕ, ◌+◌, min, Bool, List, [], Contains, MatchBool}
use Rattle.sim_base.specs.Units.{max_u64}
use Rattle.run_outside.specs.Faults.{Rose}

-- how many calls were made, the numbers of those that fail, and how many have failed
pub record CallCount : Type 0 where
  pub made : ℕ
  pub failing : List ℕ
  pub faults : ℕ

abbrev pub no_calls : CallCount
no_calls = record { made = 0; failing = []; faults = 0 }

-- the number of the next call, from 1
abbrev pub next_number : CallCount → ℕ
next_number c = min (c.made + 1) max_u64

-- the next call is to fail
abbrev pub Fails : CallCount → Type 0
Fails c = Contains c.failing (next_number c)

-- a call was made, and is a fault where it failed
pub record Makes (failed : Bool) (old new : CallCount) : Type 0 where
  pub made : new.made ≡ next_number old
  pub failing : new.failing ≡ old.failing
  pub faults : MatchBool failed (Rose old.faults new.faults) (new.faults ≡ old.faults)
