-- What the program shows for an input.
use Rattle.std.specs.Prelude.{◌≡◌, ℕ, List}
use Rattle.run_outside.specs.Sink.{Content, add, begun}
use Rattle.run_outside.specs.declared.sink.SinkTarget.TheVariants as target
use Rattle.host_state.specs.World.{World, IsResult, opening_world}
use Rattle.run_files.specs.Files.{Put}
use Rattle.net_run.specs.Pieces.{with_pieces}
use Rattle.net_run.specs.Shown.{pieces, status_of}
use Rattle.run_plan.specs.Line.{line_of}
use Rattle.run_plan.specs.declared.fault.Fault.{Fault}
use Rattle.run_plan.specs.declared.planned.Run.{Run}
use Rattle.run_answers.specs.Captured.{AreLinesOf}
use Rattle.shadow_top.specs.Input.{Input, IsFirstFault, IsToShow, IsToRun, IsToList, directory_of}
use Rattle.plan_rows.specs.Rows.{rows_of, net_of}
use Rattle.config_lines.specs.Shown.{shown}
use Rattle.shd_config.specs.declared.config.Config.{Config}
use Rattle.pcap_text.specs.declared.capture.Capture.{Capture}

-- a refused input gets the line of its first fault on the error stream
pub record IsRefused (i : Input) (old new : Content) (status : ℕ) : Type 0 where
  pub fault : Fault
  pub first : IsFirstFault i fault
  pub line : new ≡ add target.Err (line_of fault) old
  pub status_is : status ≡ 2

-- a configuration that is to be shown is put on the output
pub record IsConfigShown (i : Input) (old new : Content) (status : ℕ) : Type 0 where
  pub config : Config
  pub asked : IsToShow i config
  pub text : new ≡ add target.Out (shown config) old
  pub status_is : status ≡ 0

-- the lines of a capture that is to be listed are put on the output
pub record IsCaptureListed (i : Input) (old new : Content) (status : ℕ) : Type 0 where
  pub capture : Capture
  pub asked : IsToList i capture
  pub lines : List ℕ
  pub lines_are : AreLinesOf capture.records lines
  pub text : new ≡ add target.Out lines old
  pub status_is : status ≡ 0

-- the result of a run: the world that its hosts reach when no event is due before the stop
abbrev pub IsRunTo : Run → World → Type 0
IsRunTo run w = IsResult (net_of run) w (opening_world (rows_of run))

abbrev pub pieces_of : Run → World → List Put
pieces_of run w = pieces run.plan.settings.notes run.is_self_load run.streams w

-- one that is run has the pieces of its result in the new data directory and on the console
pub record IsRun (i : Input) (old new : Content) (status : ℕ) : Type 0 where
  pub run : Run
  pub asked : IsToRun i run
  pub world : World
  pub result : IsRunTo run world
  pub content : new ≡ with_pieces (pieces_of run world) (begun (directory_of run) old)
  pub status_is : status ≡ status_of world

-- what stands where after the program, and its status
pub data IsShown (i : Input) (old new : Content) (status : ℕ) : Type 0 where
  refused : IsRefused i old new status → IsShown i old new status
  configured : IsConfigShown i old new status → IsShown i old new status
  listed : IsCaptureListed i old new status → IsShown i old new status
  ran : IsRun i old new status → IsShown i old new status
