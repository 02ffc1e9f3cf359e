-- Each input shows something.
use Rattle.std.proofs.Common.{◌≡◌, ℕ, Bool, true, false, List, Result, Ok, Err, inl, inr, refl}
use Rattle.run_outside.specs.Files.{Held}
use Rattle.run_outside.specs.Sink.{Content, add, begun}
use Rattle.run_outside.specs.declared.sink.SinkTarget.TheVariants as target
use Rattle.net_run.specs.Pieces.{with_pieces}
use Rattle.net_run.specs.Shown.{status_of}
use Rattle.pcap_text.specs.declared.capture.Record.{Record}
use Rattle.run_plan.specs.Line.{line_of}
use Rattle.run_plan.specs.Planned.{planned}
use Rattle.run_plan.specs.declared.fault.Fault.{Fault}
use Rattle.run_plan.specs.declared.fault.Fault.TheVariants.{Exists}
use Rattle.run_plan.specs.declared.planned.Planned.{Planned}
use Rattle.run_plan.specs.declared.planned.Planned.TheVariants as plan
use Rattle.run_plan.specs.declared.planned.Run.{Run}
use Rattle.config_lines.specs.Shown.{shown}
use Rattle.run_answers.specs.Captured.{AreLinesOf}
use Rattle.shadow_top.specs.Input.{Input, IsPlanned, IsToRun, directory_of}
use Rattle.shadow_top.specs.Shown.{IsShown, pieces_of, refused, configured, listed, ran}
use Rattle.shown_laws.proofs.Worlds.{some_result}

-- ---- what is told of plans and captures

abbrev pub SomePlan : Type 0
SomePlan = (words : List (List ℕ)) (held : Held) → (answer : Result Planned Fault) × (planned words held).answers answer

abbrev pub SomeLines : Type 0
SomeLines = (records : List Record) → (lines : List ℕ) × AreLinesOf records lines

-- ---- what is shown

module _ (i : Input) (old : Content) where
  abbrev Shows : Type 0
  Shows = (new : Content) × (status : ℕ) × IsShown i old new status

  -- a run whose directory is there is refused, and each other one has a result
  run_shows : (run : Run) → IsPlanned i (Ok (plan.Runs run)) → (b : Bool) → i.there (directory_of run) ≡ b → Shows
  run_shows run asked true there =
      let fault : Fault = Exists (directory_of run) in
      (add target.Err (line_of fault) old, 2, refused (record { fault = fault; first = inr (record { run = run; asked = asked; there = there; fault_is = refl }); line = refl; status_is = refl }))
  run_shows run asked false free =
      let is : IsToRun i run = record { asked = asked; free = free } in
      let (world, result) = some_result i run is in (
        with_pieces (pieces_of run world) (begun (directory_of run) old),
        status_of world,
        ran (record { run = run; asked = is; world = world; result = result; content = refl; status_is = refl }),
      )

  answer_shows : SomeLines → (answer : Result Planned Fault) → IsPlanned i answer → Shows
  answer_shows lines (Err fault) is =
      (add target.Err (line_of fault) old, 2, refused (record { fault = fault; first = inl is; line = refl; status_is = refl }))
  answer_shows lines (Ok (plan.Shows config)) is =
      (add target.Out (shown config) old, 0, configured (record { config = config; asked = is; text = refl; status_is = refl }))
  answer_shows lines (Ok (plan.Lists capture)) is =
      let (text, are) = lines capture.records in
      (add target.Out text old, 0, listed (record { capture = capture; asked = is; lines = text; lines_are = are; text = refl; status_is = refl }))
  answer_shows lines (Ok (plan.Runs run)) is = run_shows run is (i.there (directory_of run)) refl

-- each input shows something, whatever stood before
pub some_shown : SomePlan → SomeLines → (i : Input) (old : Content) → (new : Content) × (status : ℕ) × IsShown i old new status
some_shown plans lines i old = let (answer, is) = plans i.words i.held in answer_shows i old lines answer is
