-- what a sink counts of its calls
use Rattle.std.specs.Prelude.{◌≡◌, ◌⊎◌, ℕ, ◌+◌, min, Result, Ok, Err}
use Rattle.run_outside.specs.declared.sink.WriteError.{WriteError}
use Rattle.run_outside.specs.declared.sink.WriteError.TheVariants.{Failed, NoMemory}
use Rattle.run_outside.specs.declared.tally.Tally.{Tally}
use Rattle.run_outside.specs.Faults.{Rose}
use Rattle.sim_base.specs.Units.{max_u64}

abbrev pub no_calls_yet : Tally
no_calls_yet = record { faults = 0; errors = 0; since = 0 }

-- a count goes up by one, and stays at the end of a u64
abbrev pub one_more : ℕ → ℕ
one_more count = min (count + 1) max_u64

-- the last call answered an error, and no other one did since so many had
pub record EndsByError (before : ℕ) (now : Tally) : Type 0 where
  pub errors : now.errors ≡ one_more before
  pub since : now.since ≡ 0

-- no call was made after one that answered an error: none did since so many had, or the last did
abbrev pub StopsAtError : ℕ → Tally → Type 0
StopsAtError before now = (now.errors ≡ before) ⊎ EndsByError before now

-- a call was made: it answered an error, and a fault where the outside failed, or it is one more since the last error
abbrev pub CountsCall : {T : Type 0} → Result T WriteError → Tally → Tally → Type 0
CountsCall (Ok x) before now = (now.faults ≡ before.faults) × (now.errors ≡ before.errors) × (now.since ≡ one_more before.since)
CountsCall (Err Failed) before now = Rose before.faults now.faults × EndsByError before.errors now
CountsCall (Err NoMemory) before now = (now.faults ≡ before.faults) × EndsByError before.errors now

-- the count of faults rises where the answer is that the outside failed, and stays at every other
abbrev pub CountsFaults : {T : Type 0} → Result T WriteError → ℕ → ℕ → Type 0
CountsFaults (Ok x) before now = now ≡ before
CountsFaults (Err Failed) before now = Rose before now
CountsFaults (Err NoMemory) before now = now ≡ before

-- no call answered an error where the answer is none; the last did, and no other, where the outside failed; and where
-- memory was wanted it is one of these
abbrev pub CountsErrors : {T : Type 0} → Result T WriteError → ℕ → Tally → Type 0
CountsErrors (Ok x) before now = now.errors ≡ before
CountsErrors (Err Failed) before now = EndsByError before now
CountsErrors (Err NoMemory) before now = StopsAtError before now

-- calls were made one by one, and none after one that answered an error
abbrev pub CountsWrites : {T : Type 0} → Result T WriteError → Tally → Tally → Type 0
CountsWrites result before now = CountsFaults result before.faults now.faults × CountsErrors result before.errors now
