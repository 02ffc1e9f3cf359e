-- What is given to the program, and what is asked of it.
use Rattle.std.specs.Prelude.{◌≡◌, ℕ, ◌⊎◌, List, Result, Ok, Err, Bool, true, false}
use Rattle.run_outside.specs.Files.{Held}
use Rattle.run_outside.specs.Sink.{Content}
use Rattle.run_plan.specs.Planned.{planned}
use Rattle.run_plan.specs.declared.fault.Fault.{Fault}
use Rattle.run_plan.specs.declared.fault.Fault.TheVariants.{Exists}
use Rattle.run_plan.specs.declared.planned.Planned.{Planned}
use Rattle.run_plan.specs.declared.planned.Planned.TheVariants.{Shows, Runs, Lists}
use Rattle.run_plan.specs.declared.planned.Run.{Run}
use Rattle.shd_config.specs.declared.config.Config.{Config}
use Rattle.pcap_text.specs.declared.capture.Capture.{Capture}

-- its words, the files by name, and which directories are there
pub record Input : Type 0 where
  pub words : List (List ℕ)
  pub held : Held
  pub there : List ℕ → Bool

abbrev pub input : List (List ℕ) → Held → Content → Input
input words held c = record { words = words; held = held; there = c.there }

-- what the words ask for, read step by step: what is planned, or the first fault of the reading
abbrev pub IsPlanned : Input → Result Planned Fault → Type 0
IsPlanned i = (planned i.words i.held).answers

-- the directory that a run writes to
abbrev pub directory_of : Run → List ℕ
directory_of run = run.plan.settings.data_directory

-- a run is asked for, and its directory is there
pub record IsInTheWay (i : Input) (fault : Fault) : Type 0 where
  pub run : Run
  pub asked : IsPlanned i (Ok (Runs run))
  pub there : i.there (directory_of run) ≡ true
  pub fault_is : fault ≡ Exists (directory_of run)

-- the first fault: that of the first step of the reading that has one, or else that the directory of the run is there
abbrev pub IsFirstFault : Input → Fault → Type 0
IsFirstFault i fault = IsPlanned i (Err fault) ⊎ IsInTheWay i fault

-- the input is accepted, and its configuration is shown
abbrev pub IsToShow : Input → Config → Type 0
IsToShow i config = IsPlanned i (Ok (Shows config))

-- the input is accepted, and the records of its capture are listed
abbrev pub IsToList : Input → Capture → Type 0
IsToList i capture = IsPlanned i (Ok (Lists capture))

-- the input is accepted, and run
pub record IsToRun (i : Input) (run : Run) : Type 0 where
  pub asked : IsPlanned i (Ok (Runs run))
  pub free : i.there (directory_of run) ≡ false

-- the reading comes to this file with no fault before it
abbrev pub IsReached : Input → List ℕ → Type 0
IsReached i file = (planned i.words i.held).reaches file
