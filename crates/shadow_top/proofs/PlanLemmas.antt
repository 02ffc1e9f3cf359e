-- What a plan's run leaves, from what its steps leave.
use Rattle.std.proofs.Common.{◌≡◌, ℕ, Bool, true, false, not, List, Option, Some, None, option_map, Result, Ok, Err, IfSome, sym, ap, subst, ◌∙◌, inl, inr}
use Rattle.run_outside.specs.Sink.{Content, begun}
use Rattle.run_outside.specs.declared.sink.WriteError.{WriteError}
use Rattle.host_state.specs.World.{World, IsResult, opening_world}
use Rattle.host_link.specs.Net.{Net}
use Rattle.host_rows.specs.declared.row.Row.{Row}
use Rattle.net_run.specs.Parts.{Between}
use Rattle.run_files.specs.Files.{Put}
use Rattle.net_run.specs.Pieces.{with_pieces}
use Rattle.net_run.specs.Shown.{pieces}
use Rattle.run_plan.specs.declared.planned.Run.{Run}
use Rattle.shadow_top.specs.Input.{directory_of}
use Rattle.opened_run.specs.Opened.{Opens}
use Rattle.plan_rows.specs.Rows.{rows_of}
use Rattle.shadow_top.specs.Shown.{IsRunTo, pieces_of}
use Rattle.shadow_top.specs.inside.Steps.{RunsOpened, RunsPlan}
use Rattle.opened_run.specs.declared.opened.Opened.{Opened}
use Rattle.run_answers.specs.declared.answer.Answer.{Answer}
use Rattle.run_answers.specs.declared.answer.Answer.TheVariants.{Status, Exists}

-- the status of a run that was made is the answer of its plan
abbrev pub answered : Result ℕ WriteError → Result Answer WriteError
answered (Ok status) = Ok (Status status)
answered (Err error) = Err error

-- the result of an opened run is the run's
run_to : (run : Run) (opened : Opened) (w : World) → Opens run opened → IsResult opened.net w (opening_world opened.rows.items) → IsRunTo run w
run_to run opened w opens result =
    subst (λ (net : Net). IsResult net w (opening_world (rows_of run))) opens.net (subst (λ (rows : List Row). IsResult opened.net w (opening_world rows)) opens.rows result)

-- its pieces are the run's
same_pieces : (run : Run) (opened : Opened) (w : World) → Opens run opened → pieces opened.notes opened.is_self_load opened.streams w ≡ pieces_of run w
same_pieces run opened w opens =
    ap (λ (notes : List (List ℕ)). pieces notes opened.is_self_load opened.streams w) opens.notes
    ∙ ap (λ (load : Bool). pieces run.plan.settings.notes load opened.streams w) opens.self_load
    ∙ ap (λ (streams : Bool). pieces run.plan.settings.notes run.is_self_load streams w) opens.streams

ran_by : (run : Run) (opened : Opened) (c : Content) (new : Option Content) (r : Result ℕ WriteError) → Opens run opened → c.there (directory_of run) ≡ false
    → RunsOpened opened (begun (directory_of run) c) new r → RunsPlan run c new (answered r)
ran_by run opened c new (Ok status) opens free (w, result, new_is, status_is, fit) = (
  free,
  w,
  run_to run opened w opens result,
  new_is ∙ ap (λ (ps : List Put). Some (with_pieces ps (begun (directory_of run) c))) (same_pieces run opened w opens),
  status_is,
  fit,
)
ran_by run opened c new (Err error) opens free (w, result, some) =
    inr (free, w, run_to run opened w opens result, subst (λ (ps : List Put). Between (begun (directory_of run) c) new (with_pieces ps (begun (directory_of run) c))) (same_pieces run opened w opens) some)

-- whether the directory is there, by whether it was made
from_not : (made there : Bool) → made ≡ not there → there ≡ not made
from_not made true is = ap not (sym is)
from_not made false is = ap not (sym is)

module _ (run : Run) (opened : Opened) (directory : List ℕ) (opens : Opens run opened) (same : directory ≡ opened.directory) where
  named : directory ≡ directory_of run
  named = same ∙ opens.directory

  there_by : (made : Bool) (c : Content) → made ≡ not (c.there directory) → c.there (directory_of run) ≡ not made
  there_by made c is = ap (λ (d : List ℕ). c.there d) (sym named) ∙ from_not made (c.there directory) is

  -- the directory was made, and the run
  pub plan_ran : (old mid new : Option Content) (r : Result ℕ WriteError) → IfSome old (λ c. true ≡ not (c.there directory)) → mid ≡ option_map (begun directory) old
      → IfSome mid (λ d. RunsOpened opened d new r) → IfSome old (λ c. RunsPlan run c new (answered r))
  plan_ran None mid new r made mid_is ran = tt
  plan_ran (Some c) mid new r made mid_is ran =
      let here : mid ≡ Some (begun (directory_of run) c) = mid_is ∙ ap (λ (d : List ℕ). Some (begun d c)) named in
      ran_by run opened c new r opens (there_by true c made) (subst (λ (o : Option Content). IfSome o (λ d. RunsOpened opened d new r)) here ran)

  -- it was there
  pub plan_refused : (old new : Option Content) → IfSome old (λ c. false ≡ not (c.there directory)) → new ≡ old
      → IfSome old (λ c. RunsPlan run c new (let r : Result Answer WriteError = Ok (Exists directory) in r))
  plan_refused None new made is = tt
  plan_refused (Some c) new made is = (there_by false c made, named, is)

-- there was no memory to begin, or no directory was made
pub plan_not_begun : (run : Run) (old new : Option Content) (error : WriteError) → new ≡ old → IfSome old (λ c. RunsPlan run c new (let r : Result Answer WriteError = Err error in r))
plan_not_begun run None new error same = tt
plan_not_begun run (Some c) new error same = inl same
