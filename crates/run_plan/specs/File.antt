-- The files that are read.
use Rattle.std.specs.Prelude.{◌≡◌, ℕ, ◌*◌, ◌^◌, List, length, Result, Ok, Err, if◌then◌else◌, nat_le}
use Rattle.run_outside.specs.Files.{Held}
use Rattle.sim_base.specs.Refusals.{◌>>=◌, or_refuse}
use Rattle.run_plan.specs.Reading.{Reading}
use Rattle.run_plan.specs.declared.fault.Fault.{Fault}
use Rattle.run_plan.specs.declared.fault.Fault.TheVariants.{NotFound, TooLong}
use Rattle.run_plan.specs.declared.fault.ReadStop.{ReadStop}
use Rattle.run_plan.specs.declared.fault.ReadStop.TheVariants.{Refused, ReadFailed, NoMemory}

-- the most bytes of a file, 16 MiB
abbrev pub max_file : ℕ
max_file = 16 * 2 ^ 20

abbrev pub at_most_16_mib : List ℕ → List ℕ → Result (List ℕ) Fault
at_most_16_mib name bytes = if nat_le (length bytes) max_file then Ok bytes else Err (TooLong name)

-- the bytes of a file that is there and isn't too long
abbrev pub file : Held → List ℕ → Result (List ℕ) Fault
file held name = do
  bytes ← or_refuse (held name) (NotFound name)
  at_most_16_mib name bytes

-- its length alone
abbrev pub size_of : Held → List ℕ → Result ℕ Fault
size_of held name = do
  bytes ← file held name
  Ok (length bytes)

-- a part that reads this file, and gives this
abbrev pub reads : {A : Type 0} → List ℕ → Result A Fault → Reading A
reads name defined = record { answers = λ answer. defined ≡ answer; reaches = λ reached. reached ≡ name }

-- a file is read
abbrev pub read : Held → List ℕ → Reading (List ℕ)
read held name = reads name (file held name)

-- the read of this file failed, or memory ran out
abbrev pub IsReadStop : List ℕ → ReadStop → Type 0
IsReadStop name (Refused fault) = ⊥
IsReadStop name (ReadFailed failed) = failed ≡ name
IsReadStop name NoMemory = Unit {0}
