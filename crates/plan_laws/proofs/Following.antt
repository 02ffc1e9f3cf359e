-- Which parts of a reading have an answer.
use Rattle.std.proofs.Common.{ℕ, List, Result, Ok, Err, refl, inl, inr}
use Rattle.run_plan.specs.File.{reads}
use Rattle.run_plan.specs.Reading.{Reading, gives, some_that, ◌>>=◌}
use Rattle.run_plan.specs.declared.fault.Fault.{Fault}

-- there is a value, or a first fault
abbrev pub HasAnswer : {A : Type 0} → Reading A → Type 0
HasAnswer {A} reading = (answer : Result A Fault) × reading.answers answer

-- a part that is a function
pub given : {A : Type 0} (defined : Result A Fault) → HasAnswer (gives defined)
given defined = (defined, refl)

-- such a part that reads a file
pub read_once : {A : Type 0} (name : List ℕ) (defined : Result A Fault) → HasAnswer (reads name defined)
read_once name defined = (defined, refl)

-- a value of which something holds
pub found : {A : Type 0} (P : A → Type 0) → ((a : A) × P a) → HasAnswer (some_that P)
found P (a, h) = (Ok a, h)

-- a part, and what follows each of its values
pub followed : {A B : Type 0} (first : Reading A) (next : A → Reading B) → HasAnswer first → ((a : A) → first.answers (Ok a) → HasAnswer (next a)) → HasAnswer (first >>= next)
followed {A} {B} first next (Ok a, h) k = behind (k a h)
  where
    behind : HasAnswer (next a) → HasAnswer (first >>= next)
    behind (Ok b, m) = (Ok b, (a, h, m))
    behind (Err fault, m) = (Err fault, inr (a, h, m))
followed first next (Err fault, h) k = (Err fault, inl h)
