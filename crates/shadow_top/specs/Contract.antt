-- What the program promises of its status and of what stands where after it.
use Rattle.std.specs.Prelude.{◌≡◌, ℕ, ◌⊎◌, List, Option, Some}
use Rattle.run_outside.specs.Sink.{Content, add}
use Rattle.run_outside.specs.declared.sink.SinkTarget.TheVariants as target
use Rattle.run_files.specs.LinesFit.{AllFit}
use Rattle.host_link.specs.Logs.{lines_of}
use Rattle.host_state.specs.World.{World}
use Rattle.net_run.specs.Parts.{IsPart}
use Rattle.run_plan.specs.declared.planned.Run.{Run}
use Rattle.run_answers.specs.ReadFailed.{read_failed_line}
use Rattle.shadow_top.specs.Input.{Input, IsReached, IsToRun}
use Rattle.shadow_top.specs.Shown.{IsShown, IsRunTo}

-- all lines that are logged where the input is run are of packets whose numbers fit their types
abbrev pub LogFits : Input → Type 0
LogFits input = (run : Run) (w : World) → IsToRun input run → IsRunTo run w → AllFit (lines_of w.log)

-- what is shown stands there now, and this is its status: this and nothing else is shown of the input
pub record Shows (input : Input) (old : Content) (new : Option Content) (status : ℕ) : Type 0 where
  pub whole : Content
  pub new_is : new ≡ Some whole
  pub shown : IsShown input old whole status
  pub only : (other : Content) (another : ℕ) → IsShown input old other another → (other ≡ whole) × (another ≡ status)
  pub log : LogFits input

-- the line of a file that the order comes to with no fault before it was added, and nothing else
pub record TellsReadFailed (input : Input) (old : Content) (new : Option Content) : Type 0 where
  pub file : List ℕ
  pub reached : IsReached input file
  pub new_is : new ≡ Some (add target.Err (read_failed_line file) old)

-- each target holds what it held and a front of what is shown adds there
pub record ShowsFront (input : Input) (old : Content) (new : Option Content) : Type 0 where
  pub now : Content
  pub whole : Content
  pub status : ℕ
  pub new_is : new ≡ Some now
  pub shown : IsShown input old whole status
  pub part : IsPart old now whole

-- nothing was put, or that
abbrev pub ShowsPart : Input → Content → Option Content → Type 0
ShowsPart input old new = (new ≡ Some old) ⊎ ShowsFront input old new

-- the error stream holds what it held and a front of the line of a file that could not be read; the rest is as it was
pub record TellsPart (input : Input) (old : Content) (new : Option Content) : Type 0 where
  pub now : Content
  pub file : List ℕ
  pub new_is : new ≡ Some now
  pub reached : IsReached input file
  pub part : IsPart old now (add target.Err (read_failed_line file) old)

-- a line was added to the error stream, and all else stands as it stood
pub record AddsLine (old : Content) (new : Option Content) : Type 0 where
  pub line : List ℕ
  pub new_is : new ≡ Some (add target.Err line old)
