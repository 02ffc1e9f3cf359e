-- What was counted of source and sink when a run stops.
use Rattle.std.specs.Prelude.{◌≡◌, ℕ, Result, Err}
use Rattle.run_outside.specs.Faults.{Rose}
use Rattle.run_outside.specs.Tally.{EndsByError, StopsAtError}
use Rattle.run_outside.specs.declared.tally.Tally.{Tally}
use Rattle.run_answers.specs.declared.answer.Stop.{Stop}
use Rattle.run_answers.specs.declared.answer.Stop.TheVariants.{ReadFailed, WriteFailed, NoMemory}

-- the source's count of faults rises where a read failed, and stays at every other answer
abbrev pub CountsSource : {A : Type 0} → Result A Stop → ℕ → ℕ → Type 0
CountsSource (Err (ReadFailed file)) before now = Rose before now
CountsSource _ before now = now ≡ before

-- calls of the sink were made one by one, and none after one that answered an error: where a write failed the last call did,
-- and it alone; where memory was wanted it is that, or none did; at every other answer none did
abbrev pub CountsSink : {A : Type 0} → Result A Stop → Tally → Tally → Type 0
CountsSink (Err WriteFailed) before now = Rose before.faults now.faults × EndsByError before.errors now
CountsSink (Err NoMemory) before now = (now.faults ≡ before.faults) × StopsAtError before.errors now
CountsSink _ before now = (now.faults ≡ before.faults) × (now.errors ≡ before.errors)
