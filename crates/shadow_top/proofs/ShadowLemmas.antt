-- What the steps of the program leave, put together.
use Rattle.std.proofs.Common.{◌≡◌, ◌≢◌, ℕ, ◌+◌, ◌<◌, ◌≤◌, ◌⊎◌, inl, inr, ⊎_elim, Bool, false, List, Option, Some, None, option_map, Result, Ok, Err, IfOk, IfSome, refl, sym, ap, subst, ◌∙◌, arith}
use Rattle.run_outside.specs.Faults.{Rose}
use Rattle.run_outside.specs.Files.{Held}
use Rattle.run_outside.specs.Sink.{Content, add, begun, AddsFront}
use Rattle.run_outside.specs.Tally.{EndsByError, StopsAtError, CountsWrites, one_more}
use Rattle.run_outside.specs.declared.sink.SinkTarget.TheVariants as target
use Rattle.run_outside.specs.declared.sink.WriteError.{WriteError}
use Rattle.run_outside.specs.declared.sink.WriteError.TheVariants as write
use Rattle.run_outside.specs.declared.tally.Tally.{Tally}
use Rattle.net_run.specs.Parts.{Between}
use Rattle.net_run.specs.Pieces.{with_pieces}
use Rattle.net_run.specs.Shown.{status_of}
use Rattle.net_run.specs.World.{World}
use Rattle.run_plan.specs.Line.{line_of}
use Rattle.run_plan.specs.Reading.{Meets}
use Rattle.run_plan.specs.Planned.{planned}
use Rattle.run_plan.specs.declared.fault.Fault.{Fault}
use Rattle.run_plan.specs.declared.fault.Fault.TheVariants as refusal
use Rattle.run_plan.specs.declared.fault.ReadStop.{ReadStop}
use Rattle.run_plan.specs.declared.fault.ReadStop.TheVariants as read
use Rattle.run_plan.specs.declared.planned.Planned.{Planned}
use Rattle.run_plan.specs.declared.planned.Planned.TheVariants as plan
use Rattle.run_plan.specs.declared.planned.Run.{Run}
use Rattle.config_lines.specs.Shown.{shown}
use Rattle.shd_config.specs.declared.config.Config.{Config}
use Rattle.pcap_text.specs.declared.capture.Capture.{Capture}
use Rattle.run_answers.specs.Answers.{IsSmall, of_reading, ended}
use Rattle.run_answers.specs.Captured.{AreLinesOf}
use Rattle.run_answers.specs.Puts.{ShowsConfig, ListsFront, ListsCapture, TellsLine, Tells}
use Rattle.run_answers.specs.ReadFailed.{read_failed_line}
use Rattle.run_answers.specs.declared.answer.Answer.{Answer}
use Rattle.run_answers.specs.declared.answer.Answer.TheVariants.{Status, Exists}
use Rattle.run_answers.specs.declared.answer.Stop.{Stop}
use Rattle.run_answers.specs.declared.answer.Stop.TheVariants.{Refused, ReadFailed, WriteFailed, NoMemory}
use Rattle.shadow_top.specs.Contract.{LogFits, Shows, TellsReadFailed, ShowsPart, TellsPart}
use Rattle.shadow_top.specs.Input.{Input, input, IsFirstFault, IsToShow, IsToRun, IsToList, IsReached, IsPlanned, directory_of}
use Rattle.shadow_top.specs.inside.Outcome.{Told, Outcome, showed, failed_reading, failed_writing, wanted_memory}
use Rattle.shadow_top.specs.Shown.{IsShown, IsRunTo, pieces_of, refused, configured, listed, ran}
use Rattle.shadow_top.specs.inside.Steps.{Runs, CarriesOut, RunsPlan, RunsInPart}
use Rattle.shadow_top.specs.inside.Stop.{CountsSource, CountsSink}
use Rattle.shadow_top.proofs.FitLemmas.{refused_fit, config_fit, list_fit, run_fit}
use Rattle.shadow_top.proofs.OneShown.{OnePlan, OneResult}
use Rattle.shadow_top.proofs.PartLemmas.{part_begun, part_line, part_text}

-- ---- what is shown

pub refused_shown : (i : Input) (old : Content) (fault : Fault) → IsFirstFault i fault → IsShown i old (add target.Err (line_of fault) old) 2
refused_shown i old fault first = refused (record { fault = fault; first = first; line = refl; status_is = refl })

pub config_shown : (i : Input) (old : Content) (config : Config) → IsToShow i config → IsShown i old (add target.Out (shown config) old) 0
config_shown i old config asked = configured (record { config = config; asked = asked; text = refl; status_is = refl })

pub list_shown : (i : Input) (old : Content) (capture : Capture) (lines : List ℕ) → IsToList i capture → AreLinesOf capture.records lines → IsShown i old (add target.Out lines old) 0
list_shown i old capture lines asked are = listed (record { capture = capture; asked = asked; lines = lines; lines_are = are; text = refl; status_is = refl })

pub run_shown : (i : Input) (old : Content) (run : Run) (w : World) → IsToRun i run → IsRunTo run w
    → IsShown i old (with_pieces (pieces_of run w) (begun (directory_of run) old)) (status_of w)
run_shown i old run w asked result = ran (record { run = run; asked = asked; world = w; result = result; content = refl; status_is = refl })

-- what is told of outcomes: an input has one
abbrev pub OneShown : Type 0
OneShown = (i : Input) (old one other : Content) (status another : ℕ) → IsShown i old one status → IsShown i old other another → (one ≡ other) × (status ≡ another)

-- with what makes it so: an input has one plan, and a run one result
abbrev pub AreOne : Type 0
AreOne = OneShown × OnePlan × OneResult

-- nothing else is
shows : AreOne → (i : Input) (old whole : Content) (new : Option Content) (status : ℕ) → new ≡ Some whole → IsShown i old whole status → LogFits i → Shows i old new status
shows one i old whole new status is shown_is fit =
    record { whole = whole; new_is = is; shown = shown_is; only = λ other another also. one.0 i old other whole another status also shown_is; log = fit }

-- a front of the line of a refusal
pub part_of_line : (i : Input) (old : Content) (fault : Fault) (new : Option Content) → IsFirstFault i fault → AddsFront target.Err (line_of fault) (Some old) new → ShowsPart i old new
part_of_line i old fault new first front =
    let (now, now_is, part) = part_line old (line_of fault) new front in
    inr (record { now = now; whole = add target.Err (line_of fault) old; status = 2; new_is = now_is; shown = refused_shown i old fault first; part = part })

-- a front of a configuration
pub part_of_config : (i : Input) (old : Content) (config : Config) (new : Option Content) → IsToShow i config → AddsFront target.Out (shown config) (Some old) new → ShowsPart i old new
part_of_config i old config new asked front =
    let (now, now_is, part) = part_text old (shown config) new front in
    inr (record { now = now; whole = add target.Out (shown config) old; status = 0; new_is = now_is; shown = config_shown i old config asked; part = part })

-- a front of the lines of a capture
part_of_list : (i : Input) (old : Content) (capture : Capture) (new : Option Content) → IsToList i capture → ListsFront capture old new → ShowsPart i old new
part_of_list i old capture new asked told =
    ⊎_elim
    (λ (same : new ≡ Some old). inl same)
    (λ (some : (lines : List ℕ) × AreLinesOf capture.records lines × AddsFront target.Out lines (Some old) new).
    let (now, now_is, part) = part_text old some.0 new some.2 in
    inr (record { now = now; whole = add target.Out some.0 old; status = 0; new_is = now_is; shown = list_shown i old capture some.0 asked some.1; part = part }))
    told

-- a front of the pieces of a run, target by target
pub part_of_pieces : (i : Input) (old : Content) (run : Run) (w : World) (new : Option Content) → IsToRun i run → IsRunTo run w
    → Between (begun (directory_of run) old) new (with_pieces (pieces_of run w) (begun (directory_of run) old)) → ShowsPart i old new
part_of_pieces i old run w new asked result b =
    inr (record {
      now = b.now;
      whole = with_pieces (pieces_of run w) (begun (directory_of run) old);
      status = status_of w;
      new_is = b.now_is;
      shown = run_shown i old run w asked result;
      part = part_begun (directory_of run) old b.now _ b.grown b.rest;
    })

-- ---- the steps of a run

-- the reading stopped
pub runs_stopped : (words : List (List ℕ)) (held : Option Held) (old : Option Content) (stop : ReadStop)
    → IfSome held (λ h. Meets (λ (p : Planned). p) (planned words h) (let r : Result Planned ReadStop = Err stop in r))
    → IfSome held (λ h. IfSome old (λ c. Runs (input words h c) c old (Err (of_reading stop))))
runs_stopped words None old stop met = tt
runs_stopped words (Some h) None stop met = tt
runs_stopped words (Some h) (Some c) (read.Refused fault) met = (inl met, refl)
runs_stopped words (Some h) (Some c) (read.ReadFailed file) met = (met, refl)
runs_stopped words (Some h) (Some c) read.NoMemory met = inl refl

-- a write failed, or memory ran out
runs_in_part : (i : Input) (c : Content) (new : Option Content) (error : WriteError) → ShowsPart i c new → Runs i c new (ended (Err error))
runs_in_part i c new write.Failed part = part
runs_in_part i c new write.NoMemory part = part

-- a configuration was shown
shows_by : AreOne → (i : Input) (c : Content) (new : Option Content) (config : Config) (r : Result Answer WriteError) → IsToShow i config → ShowsConfig config c new r → Runs i c new (ended r)
shows_by one i c new config (Ok answer) asked (new_is, answer_is) =
    subst (λ (a : Answer). Runs i c new (ended (Ok a))) (sym answer_is)
    (shows one i c (add target.Out (shown config) c) new 0 new_is (config_shown i c config asked) (config_fit one.1 i config asked))
shows_by one i c new config (Err error) asked front = runs_in_part i c new error (part_of_config i c config new asked front)

runs_shown : AreOne → (words : List (List ℕ)) (held : Option Held) (old new : Option Content) (config : Config) (r : Result Answer WriteError)
    → IfSome held (λ h. Meets (λ (p : Planned). p) (planned words h) (let r : Result Planned ReadStop = Ok (plan.Shows config) in r))
    → IfSome old (λ c. ShowsConfig config c new r)
    → IfSome held (λ h. IfSome old (λ c. Runs (input words h c) c new (ended r)))
runs_shown one words None old new config r asked told = tt
runs_shown one words (Some h) None new config r asked told = tt
runs_shown one words (Some h) (Some c) new config r asked told = shows_by one (input words h c) c new config r asked told

-- a capture was listed
lists_by : AreOne → (i : Input) (c : Content) (new : Option Content) (capture : Capture) (r : Result Answer WriteError) → IsToList i capture → ListsCapture capture c new r → Runs i c new (ended r)
lists_by one i c new capture (Ok answer) asked (lines, are, new_is, answer_is) =
    subst (λ (a : Answer). Runs i c new (ended (Ok a))) (sym answer_is)
    (shows one i c (add target.Out lines c) new 0 new_is (list_shown i c capture lines asked are) (list_fit one.1 i capture asked))
lists_by one i c new capture (Err error) asked front = runs_in_part i c new error (part_of_list i c capture new asked front)

runs_listed : AreOne → (words : List (List ℕ)) (held : Option Held) (old new : Option Content) (capture : Capture) (r : Result Answer WriteError)
    → IfSome held (λ h. Meets (λ (p : Planned). p) (planned words h) (let r : Result Planned ReadStop = Ok (plan.Lists capture) in r))
    → IfSome old (λ c. ListsCapture capture c new r)
    → IfSome held (λ h. IfSome old (λ c. Runs (input words h c) c new (ended r)))
runs_listed one words None old new capture r asked told = tt
runs_listed one words (Some h) None new capture r asked told = tt
runs_listed one words (Some h) (Some c) new capture r asked told = lists_by one (input words h c) c new capture r asked told

-- a plan was run
in_part : (i : Input) (c : Content) (new : Option Content) (run : Run) → IsPlanned i (Ok (plan.Runs run)) → i.there ≡ c.there → RunsInPart run c new → ShowsPart i c new
in_part i c new run asked there told =
    ⊎_elim
    (λ (same : new ≡ Some c). inl same)
    (λ (some : (c.there (directory_of run) ≡ false) × (w : World) × IsRunTo run w × Between (begun (directory_of run) c) new (with_pieces (pieces_of run w) (begun (directory_of run) c))).
    part_of_pieces i c run some.1 new (record { asked = asked; free = ap (λ (t : List ℕ → Bool). t (directory_of run)) there ∙ some.0 }) some.2 some.3)
    told

runs_by : AreOne → (i : Input) (c : Content) (new : Option Content) (run : Run) (r : Result Answer WriteError) → IsPlanned i (Ok (plan.Runs run)) → i.there ≡ c.there → RunsPlan run c new r → Runs i c new (ended r)
runs_by one i c new run (Ok (Status status)) asked there (free, w, result, new_is, status_is, fit) =
    let to_run : IsToRun i run = record { asked = asked; free = ap (λ (t : List ℕ → Bool). t (directory_of run)) there ∙ free } in
    shows one i c (with_pieces (pieces_of run w) (begun (directory_of run) c)) new status new_is
    (subst (IsShown i c (with_pieces (pieces_of run w) (begun (directory_of run) c))) (sym status_is) (run_shown i c run w to_run result))
    (run_fit one.1 one.2 i run w to_run result fit)
runs_by one i c new run (Ok (Exists directory)) asked there (is_there, directory_is, new_is) =
    (inr (record { run = run; asked = asked; there = ap (λ (t : List ℕ → Bool). t (directory_of run)) there ∙ is_there; fault_is = ap (λ (d : List ℕ). refusal.Exists d) directory_is }), new_is)
runs_by one i c new run (Err error) asked there told = runs_in_part i c new error (in_part i c new run asked there told)

runs_planned : AreOne → (words : List (List ℕ)) (held : Option Held) (old new : Option Content) (run : Run) (r : Result Answer WriteError)
    → IfSome held (λ h. Meets (λ (p : Planned). p) (planned words h) (let r : Result Planned ReadStop = Ok (plan.Runs run) in r))
    → IfSome old (λ c. RunsPlan run c new r)
    → IfSome held (λ h. IfSome old (λ c. Runs (input words h c) c new (ended r)))
runs_planned one words None old new run r asked told = tt
runs_planned one words (Some h) None new run r asked told = tt
runs_planned one words (Some h) (Some c) new run r asked told = runs_by one (input words h c) c new run r asked refl told

-- what was planned was done
pub runs_carried : AreOne → (words : List (List ℕ)) (held : Option Held) (old new : Option Content) (p : Planned) (r : Result Answer WriteError)
    → IfSome held (λ h. Meets (λ (x : Planned). x) (planned words h) (let o : Result Planned ReadStop = Ok p in o))
    → IfSome old (λ c. CarriesOut p c new r)
    → IfSome held (λ h. IfSome old (λ c. Runs (input words h c) c new (ended r)))
runs_carried one words held old new (plan.Shows config) r asked told = runs_shown one words held old new config r asked told
runs_carried one words held old new (plan.Runs run) r asked told = runs_planned one words held old new run r asked told
runs_carried one words held old new (plan.Lists capture) r asked told = runs_listed one words held old new capture r asked told

-- with what was counted, and its status
pub reads_carried : (r : Result Answer WriteError) (before now : ℕ) → now ≡ before → CountsSource (ended r) before now
reads_carried (Ok (Status status)) before now same = same
reads_carried (Ok (Exists directory)) before now same = same
reads_carried (Err write.Failed) before now same = same
reads_carried (Err write.NoMemory) before now same = same

pub writes_carried : (r : Result Answer WriteError) (before now : Tally) → CountsWrites r before now → CountsSink (ended r) before now
writes_carried (Ok (Status status)) before now counts = counts
writes_carried (Ok (Exists directory)) before now counts = counts
writes_carried (Err write.Failed) before now counts = counts
writes_carried (Err write.NoMemory) before now counts = counts

pub small_carried : (r : Result Answer WriteError) → IfOk r IsSmall → IfOk (ended r) (λ status. status ≤ 1)
small_carried (Ok (Status status)) small = small
small_carried (Ok (Exists directory)) small = tt
small_carried (Err write.Failed) small = tt
small_carried (Err write.NoMemory) small = tt

-- ---- the whole, by its status

told_map : {P Q : Input → Content → Type 0} (words : List (List ℕ)) (held : Option Held) (old : Option Content) → ((i : Input) (c : Content) → P i c → Q i c) → Told words held old P → Told words held old Q
told_map words None old f h = tt
told_map words (Some x) None f h = tt
told_map words (Some x) (Some c) f h = f (input words x c) c h

pub outcome_ran : (words : List (List ℕ)) (held : Option Held) (old new : Option Content) (r r' : ℕ) (w w' : Tally) (status : ℕ) → status ≤ 1 → r' ≡ r → CountsSink (let x : Result ℕ Stop = Ok status in x) w w'
    → IfSome held (λ h. IfSome old (λ c. Runs (input words h c) c new (Ok status))) → Outcome words held old new r r' w w' status
outcome_ran words held old new r r' w w' status small reads writes did = showed (omega arith) reads writes.0 writes.1 did

-- a line that was meant for a refusal
refused_line : AreOne → (words : List (List ℕ)) (held : Option Held) (old mid new : Option Content) (r r' : ℕ) (w m w' : Tally) (status : ℕ) (fault : Fault)
    → IfSome held (λ h. IfSome old (λ c. IsFirstFault (input words h c) fault × (mid ≡ Some c))) → r' ≡ r → m.faults ≡ w.faults → m.errors ≡ w.errors
    → TellsLine (line_of fault) 2 mid new m w' status → Outcome words held old new r r' w w' status
refused_line one words held old mid new r r' w m w' status fault did reads faults errors told =
    ⊎_elim
    (λ (all : (status ≡ 2) × (new ≡ option_map (add target.Err (line_of fault)) mid) × (w'.faults ≡ m.faults) × (w'.errors ≡ m.errors)).
    showed (omega arith) reads (all.2 ∙ faults) (all.3 ∙ errors)
    (told_map {P = λ i c. IsFirstFault i fault × (mid ≡ Some c)} {Q = λ i c. Shows i c new status} words held old
    (λ i c h. shows one i c (add target.Err (line_of fault) c) new status (all.1 ∙ ap (option_map (add target.Err (line_of fault))) h.1)
    (subst (IsShown i c (add target.Err (line_of fault) c)) (sym all.0) (refused_shown i c fault h.0))
    (refused_fit one.1 i fault h.0)) did))
    (λ (rest : ((status ≡ 4) × AddsFront target.Err (line_of fault) mid new × Rose m.faults w'.faults × EndsByError m.errors w') ⊎ ((status ≡ 5) × AddsFront target.Err (line_of fault) mid new × (w'.faults ≡ m.faults) × StopsAtError m.errors w')).
    ⊎_elim
    (λ (failed : (status ≡ 4) × AddsFront target.Err (line_of fault) mid new × Rose m.faults w'.faults × EndsByError m.errors w').
    failed_writing failed.0 (subst (λ (x : ℕ). Rose x w'.faults) faults failed.2) (subst (λ (x : ℕ). EndsByError x w') errors failed.3)
    (told_map {P = λ i c. IsFirstFault i fault × (mid ≡ Some c)} {Q = λ i c. ShowsPart i c new ⊎ (Rose r r' × TellsPart i c new)} words held old
    (λ i c h. inl (part_of_line i c fault new h.0 (subst (λ (o : Option Content). AddsFront target.Err (line_of fault) o new) h.1 failed.1))) did))
    (λ (wanted : (status ≡ 5) × AddsFront target.Err (line_of fault) mid new × (w'.faults ≡ m.faults) × StopsAtError m.errors w').
    wanted_memory wanted.0 (wanted.2 ∙ faults) (subst (λ (x : ℕ). StopsAtError x w') errors wanted.3)
    (told_map {P = λ i c. IsFirstFault i fault × (mid ≡ Some c)} {Q = λ i c. ShowsPart i c new ⊎ (Rose r r' × TellsPart i c new)} words held old
    (λ i c h. inl (part_of_line i c fault new h.0 (subst (λ (o : Option Content). AddsFront target.Err (line_of fault) o new) h.1 wanted.1))) did))
    rest)
    told

-- a line that was meant for a read that failed
part_of_failure : (i : Input) (old : Content) (file : List ℕ) (new : Option Content) → IsReached i file → AddsFront target.Err (read_failed_line file) (Some old) new → TellsPart i old new
part_of_failure i old file new reached front =
    let (now, now_is, part) = part_line old (read_failed_line file) new front in
    record { now = now; file = file; new_is = now_is; reached = reached; part = part }

failed_line : (words : List (List ℕ)) (held : Option Held) (old mid new : Option Content) (r r' : ℕ) (w m w' : Tally) (status : ℕ) (file : List ℕ)
    → IfSome held (λ h. IfSome old (λ c. IsReached (input words h c) file × (mid ≡ Some c))) → Rose r r' → m.faults ≡ w.faults → m.errors ≡ w.errors
    → TellsLine (read_failed_line file) 3 mid new m w' status → Outcome words held old new r r' w w' status
failed_line words held old mid new r r' w m w' status file did rose faults errors told =
    ⊎_elim
    (λ (all : (status ≡ 3) × (new ≡ option_map (add target.Err (read_failed_line file)) mid) × (w'.faults ≡ m.faults) × (w'.errors ≡ m.errors)).
    failed_reading all.0 rose (all.2 ∙ faults) (all.3 ∙ errors)
    (told_map {P = λ i c. IsReached i file × (mid ≡ Some c)} {Q = λ i c. TellsReadFailed i c new} words held old
    (λ i c h. record { file = file; reached = h.0; new_is = all.1 ∙ ap (option_map (add target.Err (read_failed_line file))) h.1 }) did))
    (λ (rest : ((status ≡ 4) × AddsFront target.Err (read_failed_line file) mid new × Rose m.faults w'.faults × EndsByError m.errors w') ⊎ ((status ≡ 5) × AddsFront target.Err (read_failed_line file) mid new × (w'.faults ≡ m.faults) × StopsAtError m.errors w')).
    ⊎_elim
    (λ (failed : (status ≡ 4) × AddsFront target.Err (read_failed_line file) mid new × Rose m.faults w'.faults × EndsByError m.errors w').
    failed_writing failed.0 (subst (λ (x : ℕ). Rose x w'.faults) faults failed.2) (subst (λ (x : ℕ). EndsByError x w') errors failed.3)
    (told_map {P = λ i c. IsReached i file × (mid ≡ Some c)} {Q = λ i c. ShowsPart i c new ⊎ (Rose r r' × TellsPart i c new)} words held old
    (λ i c h. inr (rose, part_of_failure i c file new h.0 (subst (λ (o : Option Content). AddsFront target.Err (read_failed_line file) o new) h.1 failed.1))) did))
    (λ (wanted : (status ≡ 5) × AddsFront target.Err (read_failed_line file) mid new × (w'.faults ≡ m.faults) × StopsAtError m.errors w').
    wanted_memory wanted.0 (wanted.2 ∙ faults) (subst (λ (x : ℕ). StopsAtError x w') errors wanted.3)
    (told_map {P = λ i c. IsReached i file × (mid ≡ Some c)} {Q = λ i c. ShowsPart i c new ⊎ (Rose r r' × TellsPart i c new)} words held old
    (λ i c h. inr (rose, part_of_failure i c file new h.0 (subst (λ (o : Option Content). AddsFront target.Err (read_failed_line file) o new) h.1 wanted.1))) did))
    rest)
    told

pub outcome_stopped : AreOne → (words : List (List ℕ)) (held : Option Held) (old mid new : Option Content) (r r' : ℕ) (w m w' : Tally) (status : ℕ) (stop : Stop)
    → IfSome held (λ h. IfSome old (λ c. Runs (input words h c) c mid (Err stop)))
    → CountsSource (let x : Result ℕ Stop = Err stop in x) r r' → CountsSink (let x : Result ℕ Stop = Err stop in x) w m
    → Tells stop mid new m w' status → Outcome words held old new r r' w w' status
outcome_stopped one words held old mid new r r' w m w' status (Refused fault) did reads writes told = refused_line one words held old mid new r r' w m w' status fault did reads writes.0 writes.1 told
outcome_stopped one words held old mid new r r' w m w' status (ReadFailed file) did reads writes told = failed_line words held old mid new r r' w m w' status file did reads writes.0 writes.1 told
outcome_stopped one words held old mid new r r' w m w' status WriteFailed did reads writes (is, same, count) =
    failed_writing is (subst (λ (x : Tally). Rose w.faults x.faults) (sym count) writes.0) (subst (EndsByError w.errors) (sym count) writes.1) (told_map {P = λ i c. ShowsPart i c mid} {Q = λ i c. ShowsPart i c new ⊎ (Rose r r' × TellsPart i c new)} words held old (λ i c h. inl (subst (ShowsPart i c) (sym same) h)) did)
outcome_stopped one words held old mid new r r' w m w' status NoMemory did reads writes (is, same, count) =
    wanted_memory is (ap (λ (x : Tally). x.faults) count ∙ writes.0) (subst (StopsAtError w.errors) (sym count) writes.1) (told_map {P = λ i c. ShowsPart i c mid} {Q = λ i c. ShowsPart i c new ⊎ (Rose r r' × TellsPart i c new)} words held old (λ i c h. inl (subst (ShowsPart i c) (sym same) h)) did)

-- where neither count rose, and memory sufficed, what stands there is what is shown
told_shows : (words : List (List ℕ)) (held : Option Held) (old new : Option Content) (r r' : ℕ) (w w' : Tally) (status : ℕ) → Told words held old (λ i c. Shows i c new status)
    → IfSome held (λ h. IfSome old (λ c. ¬ (Rose r r') → ¬ (Rose w.faults w'.faults) → status ≢ 5 → Shows (input words h c) c new status))
told_shows words None old new r r' w w' status told = tt
told_shows words (Some h) None new r r' w w' status told = tt
told_shows words (Some h) (Some c) new r r' w w' status told = λ reads writes memory. told

not_told : (words : List (List ℕ)) (held : Option Held) (old new : Option Content) (r r' : ℕ) (w w' : Tally) (status : ℕ) → (¬ (Rose r r') → ¬ (Rose w.faults w'.faults) → status ≢ 5 → ⊥)
    → IfSome held (λ h. IfSome old (λ c. ¬ (Rose r r') → ¬ (Rose w.faults w'.faults) → status ≢ 5 → Shows (input words h c) c new status))
not_told words None old new r r' w w' status never = tt
not_told words (Some h) None new r r' w w' status never = tt
not_told words (Some h) (Some c) new r r' w w' status never = λ reads writes memory. absurd (never reads writes memory)

pub headline_of : (words : List (List ℕ)) (held : Option Held) (old new : Option Content) (r r' : ℕ) (w w' : Tally) (status : ℕ) → Outcome words held old new r r' w w' status
    → IfSome held (λ h. IfSome old (λ c. ¬ (Rose r r') → ¬ (Rose w.faults w'.faults) → status ≢ 5 → Shows (input words h c) c new status))
headline_of words held old new r r' w w' status (showed small reads faults errors told) = told_shows words held old new r r' w w' status told
headline_of words held old new r r' w w' status (failed_reading is rose faults errors told) = not_told words held old new r r' w w' status (λ reads writes' memory. reads rose)
headline_of words held old new r r' w w' status (failed_writing is rose ends told) = not_told words held old new r r' w w' status (λ reads writes memory. writes rose)
headline_of words held old new r r' w w' status (wanted_memory is faults stops told) = not_told words held old new r r' w w' status (λ reads writes' memory. memory is)

-- a call that answered an error was the last, and the status says so
by_error : (w w' : Tally) (status : ℕ) → 4 ≤ status → EndsByError w.errors w' → w.errors < w'.errors → (w'.errors ≡ w.errors + 1) × (w'.since ≡ 0) × (4 ≤ status)
by_error w w' status says ends more = let e : w'.errors ≡ one_more w.errors = ends.errors in (omega (arith, e), ends.since, says)

pub quiet_of : (words : List (List ℕ)) (held : Option Held) (old new : Option Content) (r r' : ℕ) (w w' : Tally) (status : ℕ) → Outcome words held old new r r' w w' status
    → w.errors < w'.errors → (w'.errors ≡ w.errors + 1) × (w'.since ≡ 0) × (4 ≤ status)
quiet_of words held old new r r' w w' status (showed small reads faults errors told) more = absurd (omega arith)
quiet_of words held old new r r' w w' status (failed_reading is rose faults errors told) more = absurd (omega arith)
quiet_of words held old new r r' w w' status (failed_writing is rose ends told) more = by_error w w' status (omega arith) ends more
quiet_of words held old new r r' w w' status (wanted_memory is faults (inl same) told) more = absurd (omega arith)
quiet_of words held old new r r' w w' status (wanted_memory is faults (inr ends) told) more = by_error w w' status (omega arith) ends more
