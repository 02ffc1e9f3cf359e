-- What a plan comes to, and why a run stops before its end.
use Rattle.std.specs.Prelude.{ℕ, ◌≤◌, Result, Ok, Err}
use Rattle.run_outside.specs.declared.sink.WriteError.{WriteError}
use Rattle.run_outside.specs.declared.sink.WriteError.TheVariants as write
use Rattle.run_plan.specs.declared.fault.Fault.TheVariants.{Exists}
use Rattle.run_plan.specs.declared.fault.ReadStop.{ReadStop}
use Rattle.run_plan.specs.declared.fault.ReadStop.TheVariants as read
use Rattle.run_answers.specs.declared.answer.Answer.{Answer}
use Rattle.run_answers.specs.declared.answer.Answer.TheVariants as answer
use Rattle.run_answers.specs.declared.answer.Stop.{Stop}
use Rattle.run_answers.specs.declared.answer.Stop.TheVariants.{Refused, ReadFailed, WriteFailed, NoMemory}

-- a status, where there is one, is 0 or 1
abbrev pub IsSmall : Answer → Type 0
IsSmall (answer.Status status) = status ≤ 1
IsSmall (answer.Exists directory) = Unit {0}

-- a stop of the reading
abbrev pub of_reading : ReadStop → Stop
of_reading (read.Refused fault) = Refused fault
of_reading (read.ReadFailed file) = ReadFailed file
of_reading read.NoMemory = NoMemory

-- the status of what was carried out, or why it stopped
abbrev pub ended : Result Answer WriteError → Result ℕ Stop
ended (Ok (answer.Status status)) = Ok status
ended (Ok (answer.Exists directory)) = Err (Refused (Exists directory))
ended (Err write.Failed) = Err WriteFailed
ended (Err write.NoMemory) = Err NoMemory
