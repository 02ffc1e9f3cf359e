-- What is put of an answer or a stop where nothing is run.
use Rattle.std.specs.Prelude.{◌≡◌, ℕ, ◌⊎◌, List, Option, Some, option_map, Result, Ok, Err}
use Rattle.run_outside.specs.Faults.{Rose}
use Rattle.run_outside.specs.Sink.{Content, add, AddsFront}
use Rattle.run_outside.specs.Tally.{EndsByError, StopsAtError}
use Rattle.run_outside.specs.declared.sink.SinkTarget.TheVariants as target
use Rattle.run_outside.specs.declared.sink.WriteError.{WriteError}
use Rattle.run_outside.specs.declared.tally.Tally.{Tally}
use Rattle.pcap_text.specs.declared.capture.Capture.{Capture}
use Rattle.run_plan.specs.Line.{line_of}
use Rattle.config_lines.specs.Shown.{shown}
use Rattle.shd_config.specs.declared.config.Config.{Config}
use Rattle.run_answers.specs.Captured.{AreLinesOf}
use Rattle.run_answers.specs.ReadFailed.{read_failed_line}
use Rattle.run_answers.specs.declared.answer.Answer.{Answer}
use Rattle.run_answers.specs.declared.answer.Answer.TheVariants.{Status}
use Rattle.run_answers.specs.declared.answer.Stop.{Stop}
use Rattle.run_answers.specs.declared.answer.Stop.TheVariants.{Refused, ReadFailed, WriteFailed, NoMemory}

-- ---- behind an accepted plan: where it stops, a write failed or memory ran out

-- what showing a configuration leaves
abbrev pub ShowsConfig : Config → Content → Option Content → Result Answer WriteError → Type 0
ShowsConfig config c new (Ok answer) = (new ≡ Some (add target.Out (shown config) c)) × (answer ≡ Status 0)
ShowsConfig config c new (Err error) = AddsFront target.Out (shown config) (Some c) new

-- nothing was put, or a front of the lines of a capture
abbrev pub ListsFront : Capture → Content → Option Content → Type 0
ListsFront capture c new = (new ≡ Some c) ⊎ ((lines : List ℕ) × AreLinesOf capture.records lines × AddsFront target.Out lines (Some c) new)

-- what listing a capture leaves
abbrev pub ListsCapture : Capture → Content → Option Content → Result Answer WriteError → Type 0
ListsCapture capture c new (Ok answer) = (lines : List ℕ) × AreLinesOf capture.records lines × (new ≡ Some (add target.Out lines c)) × (answer ≡ Status 0)
ListsCapture capture c new (Err error) = ListsFront capture c new

-- ---- the telling of a stop

-- a line was told, or its write failed, or memory ran out; after an error of the sink it was not called again
abbrev pub TellsLine : List ℕ → ℕ → Option Content → Option Content → Tally → Tally → ℕ → Type 0
TellsLine line meant old new before now status =
    ((status ≡ meant) × (new ≡ option_map (add target.Err line) old) × (now.faults ≡ before.faults) × (now.errors ≡ before.errors))
    ⊎ (((status ≡ 4) × AddsFront target.Err line old new × Rose before.faults now.faults × EndsByError before.errors now)
    ⊎ ((status ≡ 5) × AddsFront target.Err line old new × (now.faults ≡ before.faults) × StopsAtError before.errors now))

-- what telling a stop leaves: after a write that failed, and where memory ran out, the sink was not called
abbrev pub Tells : Stop → Option Content → Option Content → Tally → Tally → ℕ → Type 0
Tells (Refused fault) old new before now status = TellsLine (line_of fault) 2 old new before now status
Tells (ReadFailed file) old new before now status = TellsLine (read_failed_line file) 3 old new before now status
Tells WriteFailed old new before now status = (status ≡ 4) × (new ≡ old) × (now ≡ before)
Tells NoMemory old new before now status = (status ≡ 5) × (new ≡ old) × (now ≡ before)
