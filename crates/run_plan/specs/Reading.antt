-- What a part of the reading of an input answers, over the bytes of files by name: a value, or the first fault. Some parts are
-- functions, and have one answer; others are told by a relation. Beside the answers stands which files the reading comes to.
use Rattle.std.specs.Prelude.{◌≡◌, ℕ, ◌⊎◌, List, Result, Ok, Err}
use Rattle.run_outside.specs.Faults.{Rose}
use Rattle.run_plan.specs.declared.fault.Fault.{Fault}
use Rattle.run_plan.specs.declared.fault.ReadStop.{ReadStop}
use Rattle.run_plan.specs.declared.fault.ReadStop.TheVariants.{Refused, ReadFailed, NoMemory}

-- what is answered; and the files that the reading comes to, with no fault before them
pub record Reading (A : Type 0) : Type 1 where
  pub answers : Result A Fault → Type 0
  pub reaches : List ℕ → Type 0

-- no file is read
abbrev pub no_file : List ℕ → Type 0
no_file name = ⊥

-- a part that is a function
abbrev pub gives : {A : Type 0} → Result A Fault → Reading A
gives defined = record { answers = λ answer. defined ≡ answer; reaches = no_file }

-- some value of which this holds, and no fault
abbrev pub IsSuch : {A : Type 0} → (A → Type 0) → Result A Fault → Type 0
IsSuch P (Ok a) = P a
IsSuch P (Err fault) = ⊥

abbrev pub some_that : {A : Type 0} → (A → Type 0) → Reading A
some_that P = record { answers = IsSuch P; reaches = no_file }

-- the value of the first part goes to the next one; a fault of the first one is that of both
abbrev pub FollowedBy : {A B : Type 0} → Reading A → (A → Reading B) → Result B Fault → Type 0
FollowedBy {A} first next (Ok b) = (a : A) × first.answers (Ok a) × (next a).answers (Ok b)
FollowedBy {A} first next (Err fault) = first.answers (Err fault) ⊎ ((a : A) × first.answers (Ok a) × (next a).answers (Err fault))

-- the first part comes to the file, or the next one, behind a value of the first
abbrev pub ReachedBy : {A B : Type 0} → Reading A → (A → Reading B) → List ℕ → Type 0
ReachedBy {A} first next name = first.reaches name ⊎ ((a : A) × first.answers (Ok a) × (next a).reaches name)

infixl 10 ◌>>=◌
abbrev pub ◌>>=◌ : {A B : Type 0} → Reading A → (A → Reading B) → Reading B
first >>= next = record { answers = FollowedBy first next; reaches = ReachedBy first next }

-- ---- what calls answer

-- a call stops so: by the fault that is answered, by a failed read of a file that the reading comes to, or as memory ran out
abbrev pub Stops : {A : Type 0} → Reading A → ReadStop → Type 0
Stops reading (Refused fault) = reading.answers (Err fault)
Stops reading (ReadFailed name) = reading.reaches name
Stops reading NoMemory = Unit {0}

-- a call answers what is answered, where contracts see `view a` of a value; or it stops
abbrev pub Meets : {A B : Type 0} → (A → B) → Reading B → Result A ReadStop → Type 0
Meets view reading (Ok a) = reading.answers (Ok (view a))
Meets view reading (Err stop) = Stops reading stop

-- the source's count of faults rises where a read failed, and stays at every other answer
abbrev pub CountsSource : {A : Type 0} → Result A ReadStop → ℕ → ℕ → Type 0
CountsSource (Ok a) before now = now ≡ before
CountsSource (Err (Refused fault)) before now = now ≡ before
CountsSource (Err (ReadFailed name)) before now = Rose before now
CountsSource (Err NoMemory) before now = now ≡ before

-- the stop is this refusal, or want of memory in making it
abbrev pub IsRefusal : Fault → ReadStop → Type 0
IsRefusal fault (Refused told) = told ≡ fault
IsRefusal fault (ReadFailed name) = ⊥
IsRefusal fault NoMemory = Unit {0}
