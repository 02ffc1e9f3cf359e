-- What the steps of the program leave.
use Rattle.std.specs.Prelude.{◌≡◌, ℕ, ◌⊎◌, Option, Some, Result, Ok, Err, Bool, true, false}
use Rattle.run_outside.specs.Sink.{Content, begun}
use Rattle.run_outside.specs.declared.sink.WriteError.{WriteError}
use Rattle.run_files.specs.LinesFit.{AllFit}
use Rattle.host_link.specs.Logs.{lines_of}
use Rattle.host_state.specs.World.{World, IsResult, opening_world}
use Rattle.net_run.specs.Parts.{Between}
use Rattle.net_run.specs.Pieces.{with_pieces}
use Rattle.net_run.specs.Shown.{pieces, all_pieces, status_of}
use Rattle.run_plan.specs.declared.planned.Planned.{Planned}
use Rattle.run_plan.specs.declared.planned.Planned.TheVariants as plan
use Rattle.run_plan.specs.declared.planned.Run.{Run}
use Rattle.run_answers.specs.Puts.{ShowsConfig, ListsCapture}
use Rattle.run_answers.specs.declared.answer.Answer.{Answer}
use Rattle.run_answers.specs.declared.answer.Answer.TheVariants.{Status, Exists}
use Rattle.run_answers.specs.declared.answer.Stop.{Stop}
use Rattle.run_answers.specs.declared.answer.Stop.TheVariants.{Refused, ReadFailed, WriteFailed, NoMemory}
use Rattle.shadow_top.specs.Contract.{Shows, ShowsPart}
use Rattle.shadow_top.specs.Input.{Input, IsFirstFault, IsReached, directory_of}
use Rattle.shadow_top.specs.Shown.{IsRunTo, pieces_of}
use Rattle.opened_run.specs.declared.opened.Opened.{Opened}

-- ---- before a stop is told

-- a refusal or a read that failed leaves all as it stood
abbrev pub Keeps : Content → Option Content → Result ℕ Stop → Type 0
Keeps old new (Err (Refused fault)) = new ≡ Some old
Keeps old new (Err (ReadFailed file)) = new ≡ Some old
Keeps old new _ = Unit {0}

-- what a run leaves
abbrev pub Runs : Input → Content → Option Content → Result ℕ Stop → Type 0
Runs input old new (Ok status) = Shows input old new status
Runs input old new (Err (Refused fault)) = IsFirstFault input fault × (new ≡ Some old)
Runs input old new (Err (ReadFailed file)) = IsReached input file × (new ≡ Some old)
Runs input old new (Err WriteFailed) = ShowsPart input old new
Runs input old new (Err NoMemory) = ShowsPart input old new

-- ---- behind an accepted plan: where it stops, a write failed or memory ran out

-- what stands is what a world shows, and its log's lines fit; or each target holds a front of that
abbrev pub Reports : Bool → Bool → World → Content → Option Content → Result ℕ WriteError → Type 0
Reports load streams w c new (Ok status) = (new ≡ Some (with_pieces (all_pieces load streams w) c)) × (status ≡ status_of w) × AllFit (lines_of w.log)
Reports load streams w c new (Err error) = Between c new (with_pieces (all_pieces load streams w) c)

-- what a run leaves whose notes were put
abbrev pub RunsNoted : Opened → Content → Option Content → Result ℕ WriteError → Type 0
RunsNoted opened c new r = (w : World) × IsResult opened.net w (opening_world opened.rows.items) × Reports opened.is_self_load opened.streams w c new r

-- a front of the pieces of an opened run's result was put, target by target
abbrev pub PutsSome : Opened → Content → Option Content → Type 0
PutsSome opened c new =
    (w : World) × IsResult opened.net w (opening_world opened.rows.items) × Between c new (with_pieces (pieces opened.notes opened.is_self_load opened.streams w) c)

-- what a run leaves whose data directory was made
abbrev pub RunsOpened : Opened → Content → Option Content → Result ℕ WriteError → Type 0
RunsOpened opened c new (Ok status) =
    (w : World) × IsResult opened.net w (opening_world opened.rows.items)
    × (new ≡ Some (with_pieces (pieces opened.notes opened.is_self_load opened.streams w) c)) × (status ≡ status_of w) × AllFit (lines_of w.log)
RunsOpened opened c new (Err error) = PutsSome opened c new

-- nothing was put; or the directory was made, and a front of the pieces of the run's result was put, target by target
abbrev pub RunsInPart : Run → Content → Option Content → Type 0
RunsInPart run c new = (new ≡ Some c)
    ⊎ ((c.there (directory_of run) ≡ false) × (w : World) × IsRunTo run w
    × Between (begun (directory_of run) c) new (with_pieces (pieces_of run w) (begun (directory_of run) c)))

-- what a run leaves
abbrev pub RunsPlan : Run → Content → Option Content → Result Answer WriteError → Type 0
RunsPlan run c new (Ok (Status status)) =
    (c.there (directory_of run) ≡ false) × (w : World) × IsRunTo run w
    × (new ≡ Some (with_pieces (pieces_of run w) (begun (directory_of run) c))) × (status ≡ status_of w) × AllFit (lines_of w.log)
RunsPlan run c new (Ok (Exists directory)) = (c.there (directory_of run) ≡ true) × (directory ≡ directory_of run) × (new ≡ Some c)
RunsPlan run c new (Err error) = RunsInPart run c new

-- what carrying out what was planned leaves
abbrev pub CarriesOut : Planned → Content → Option Content → Result Answer WriteError → Type 0
CarriesOut (plan.Shows config) c new r = ShowsConfig config c new r
CarriesOut (plan.Runs run) c new r = RunsPlan run c new r
CarriesOut (plan.Lists capture) c new r = ListsCapture capture c new r
