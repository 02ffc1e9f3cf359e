-- What is asked by the words of a call, read step by step: the first fault is that of the first step that has one.
use Rattle.std.specs.Prelude.{ℕ, List, Result, Ok, Err, Bool, true, false, codes}
use Rattle.run_outside.specs.Files.{Held}
use Rattle.command_line.specs.Asked.{asked}
use Rattle.command_line.specs.declared.asked.Asked.{Asked}
use Rattle.command_line.specs.declared.asked.Subject.{Subject}
use Rattle.command_line.specs.declared.asked.Subject.TheVariants.{File, SelfLoad, Capture}
use Rattle.command_line.specs.declared.fault.WordsFault.{WordsFault}
use Rattle.shd_config.specs.declared.config.Config.{Config}
use Rattle.run_plan.specs.Captured.{captured}
use Rattle.run_plan.specs.Configured.{configured}
use Rattle.run_plan.specs.InRange.{overrides_of}
use Rattle.run_plan.specs.File.{read}
use Rattle.run_plan.specs.Reading.{Reading, gives, ◌>>=◌}
use Rattle.run_plan.specs.Plan.{plan_of, run_of}
use Rattle.run_plan.specs.Ring.{ring_files}
use Rattle.run_plan.specs.SelfLoad.{self_load_config, self_load_graph}
use Rattle.run_plan.specs.declared.fault.Fault.{Fault}
use Rattle.run_plan.specs.declared.fault.Fault.TheVariants.{Words}
use Rattle.run_plan.specs.declared.plan.Plan.{Plan}
use Rattle.run_plan.specs.declared.planned.Manner.{Manner}
use Rattle.run_plan.specs.declared.planned.Planned.{Planned}
use Rattle.run_plan.specs.declared.planned.Planned.TheVariants.{Shows, Runs, Lists}

abbrev pub or_words_fault : Result Asked WordsFault → Result Asked Fault
or_words_fault (Ok a) = Ok a
or_words_fault (Err f) = Err (Words f)

-- what the words override, and how a configuration is used
abbrev pub manner_of : Asked → Manner
manner_of a = record {
  overrides = overrides_of a;
  budget = a.budget;
  streams = a.streams;
  shows_config = a.shows_config;
}

-- to run a plan, with this budget of instructions between two calls; a self-load tells its summary at the end, and its streams are told if they are asked for
abbrev pub runs : Manner → Bool → Plan → Planned
runs m is_self_load plan = Runs (record { plan = plan; budget = m.budget; is_self_load = is_self_load; streams = m.streams })

-- a configuration is shown, or its plan goes on
abbrev pub shown_or_run : Bool → Config → Reading Plan → (Plan → Planned) → Reading Planned
shown_or_run true config plan run = gives (Ok (Shows config))
shown_or_run false config plan run = plan >>= λ p. gives (Ok (run p))

-- the configuration in a file
unfoldable pub file_planned : Manner → Held → List ℕ → Reading Planned
file_planned m held name = do
  text ← read held name
  config ← configured name text m.overrides
  shown_or_run m.shows_config config (plan_of held name config) (runs m false)

-- the configuration, the graph and the guest of a self-load stand for those that are read
unfoldable pub self_load_planned : Manner → ℕ → Reading Planned
self_load_planned m hosts =
    let config = self_load_config m.overrides hosts in
    shown_or_run m.shows_config config (run_of ring_files (codes "self-load") (self_load_graph hosts) config) (runs m true)

-- the capture in a file, whatever else is asked
unfoldable pub capture_planned : Held → List ℕ → Reading Planned
capture_planned held name = do
  bytes ← read held name
  capture ← gives (captured name bytes)
  gives (Ok (Lists capture))

abbrev pub planned_of : Held → Manner → Subject → Reading Planned
planned_of held m (File name) = file_planned m held name
planned_of held m (SelfLoad hosts) = self_load_planned m hosts
planned_of held m (Capture name) = capture_planned held name

-- the plan of a call with these words, or its first fault, or the file that it comes to with no fault before it
unfoldable pub planned : List (List ℕ) → Held → Reading Planned
planned words held = do
  a ← gives (or_words_fault (asked words))
  planned_of held (manner_of a) a.subject
