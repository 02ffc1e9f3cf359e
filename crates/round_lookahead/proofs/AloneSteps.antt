-- Hosts that one worker runs, each in its place, and rounds whose packets are in no inbox.
use Rattle.std.proofs.Common.{◌≡◌, ◌≢◌, ℕ, zero, suc, ◌<◌, ◌^◌, ◌⊎◌, inl, inr, ⊎_elim, List, [], ◌∷◌, ◌++◌, Some, None, map, flat_map, length, replicate, slice_get, slice_set, get_or, take, ◌+◌, refl, sym, ap, subst, ◌∙◌, append-nil, append_assoc, Vec, arith, IsPermutation, All, length-set}
use Rattle.std.specs.Prelude.{Contains, Box}
use Rattle.std.specs.declared.alloc.Global.{Global}
use Rattle.std.proofs.lemmas.List.{length_push, take_more}
use Rattle.std.proofs.lemmas.List.Elements.{All-append, Contains-get_or}
use Rattle.std.proofs.lemmas.List.Sorted.{IsPermutation-refl}
use Rattle.sim_base.specs.declared.event.Event.{Event}
use Rattle.sim_base.specs.declared.event.Parcel.{Parcel}
use Rattle.sim_base.specs.declared.host.HostId.{HostId}
use Rattle.event_order.specs.Events.{IsLeastDue}
use Rattle.list_weights.specs.Weights.{weigh, numbers_below}
use Rattle.list_weights.proofs.Weights.{weigh_append}
use Rattle.steal_workers.specs.Gathers.{joined}
use Rattle.file_calls.specs.declared.task.Output.{Output}
use Rattle.host_state.specs.declared.host.Host.{Host}
use Rattle.host_link.specs.declared.line.Logged.{Logged}
use Rattle.host_link.specs.Net.{Net}
use Rattle.host_link.specs.declared.outbox.Outbox.{Outbox}
use Rattle.run_files.specs.Written.{written_in}
use Rattle.host_state.specs.HostRecord.{HostRecord}
use Rattle.world_order.proofs.Homes.{some_is, get_set_same, get_set_other, below_get}
use Rattle.round_lookahead.specs.declared.workers.host_task.HostTask.{HostTask}
use Rattle.round_lookahead.specs.declared.workers.worked.Done.{Done}
use Rattle.round_lookahead.specs.declared.workers.worked.Worked.{Worked}
use Rattle.round_lookahead.specs.declared.world.in_place.Alone.{Alone}
use Rattle.round_lookahead.specs.inside.Alone.{HasRunAll, IsOwn, IsPlaced, IsPlacedIn, HasKept, HasPassed, AreRunInPlace, held_by, task_ids, task_numbers}
use Rattle.round_parts.specs.Arrivals.{Boxed}
use Rattle.round_lookahead.specs.inside.Backs.{all_spilled, lists_of, lines_done}
use Rattle.round_parts.specs.Dues.{lesser_due}
use Rattle.round_lookahead.specs.inside.Idles.{IsIdle}
use Rattle.round_lookahead.specs.inside.Rounds.{AreWorks, AreRows, IsRound, all_parcels}
use Rattle.round_lookahead.specs.Tasks.{IsTask}
use Rattle.round_lookahead.specs.Works.{HostJob, IsDone, AreDone, numbers, parcels_made}
use Rattle.round_lookahead.specs.inside.Works.{HasRun, done_of}
use Rattle.round_parts.proofs.ListFacts.{flat_append}
use Rattle.round_parts.proofs.DueSteps.{least_more}
use Rattle.round_lookahead.proofs.IdleSteps.{idle_run, least_of}
use Rattle.round_lookahead.proofs.WorkSteps.{done_more, made_more}

-- ---- lists

numbers-more : (jobs : List HostJob) (job : HostJob) → numbers (jobs ++ job ∷ []) ≡ numbers jobs ++ job.number ∷ []
numbers-more [] job = refl
numbers-more (j ∷ jobs) job = ap (λ (l : List ℕ). j.number ∷ l) (numbers-more jobs job)

-- one more at the end
at_more : {X : Type 0} (xs : List X) (x y : X) (i : ℕ) → slice_get (xs ++ x ∷ []) i ≡ Some y → (slice_get xs i ≡ Some y) ⊎ ((i ≡ length xs) × (x ≡ y))
at_more [] x y zero at = inr (refl, some_is x y at)
at_more [] x y (suc i) at = absurd (let e : None ≡ Some y = at in cc)
at_more (z ∷ xs) x y zero at = inl at
at_more (z ∷ xs) x y (suc i) at = ⊎_elim (λ (l : slice_get xs i ≡ Some y). inl l) (λ (r : (i ≡ length xs) × (x ≡ y)). inr (ap suc r.0, r.1)) (at_more xs x y i at)

map_more : {X Y : Type 0} (f : X → Y) (xs : List X) (x : X) → map f (xs ++ x ∷ []) ≡ map f xs ++ f x ∷ []
map_more f [] x = refl
map_more f (y ∷ xs) x = ap (λ (l : List _). f y ∷ l) (map_more f xs x)

lines_more : (ds : List Done) (d : Done) → lines_done (ds ++ d ∷ []) ≡ lines_done ds ++ d.lines.items
lines_more [] d = append-nil d.lines.items
lines_more (e ∷ ds) d = ap (λ (l : List Logged). e.lines.items ++ l) (lines_more ds d) ∙ sym (append_assoc e.lines.items (lines_done ds) d.lines.items)

held_more : (ds : List Done) (d : Done) → held_by (ds ++ d ∷ []) ≡ held_by ds ++ d.host.value.queue
held_more ds d = flat_append (λ (e : Done). e.host.value.queue) ds (d ∷ []) ∙ ap (λ (l : List Event). held_by ds ++ l) (append-nil d.host.value.queue)

get_or_of : {X : Type 0} (xs : List X) (i : ℕ) (x : X) → slice_get xs i ≡ Some x → get_or xs i x ≡ x
get_or_of [] i x at = refl
get_or_of (y ∷ xs) zero x at = some_is y x at
get_or_of (y ∷ xs) (suc i) x at = get_or_of xs i x at

-- a vector of the logic
abbrev pub holding : {X Y : Type 0} → Vec X Global → (ys : List Y) → length ys < 2 ^ 63 → Vec Y Global
holding v ys few = record { ptr = v.ptr; len = length ys; cap = length ys; alloc = v.alloc; items = ys; ok = (refl, omega arith); small = few }

-- ---- one host more

pub numbers_both : (ts us : List HostTask) → task_numbers (ts ++ us) ≡ task_numbers ts ++ task_numbers us
numbers_both [] us = refl
numbers_both (t ∷ ts) us = ap (λ (l : List ℕ). t.id.index ∷ l) (numbers_both ts us)

one_more : (net : Net) (end worker : ℕ) (all : List HostTask) (rec : ℕ → HostRecord) (ts : List HostTask) (ds : List Done) (old new : List Parcel) (t : HostTask) (d : Done) (parcels : List Parcel)
    → IsPlacedIn net all rec t → HasRun net end t (rec t.id.index) d parcels
    → new ≡ old ++ parcels → HasRunAll net end worker all rec ts ds old → HasRunAll net end worker all rec (ts ++ t ∷ []) (ds ++ d ∷ []) new
one_more net end worker all rec ts ds old new t d parcels placed run spill w =
    let job : HostJob = record { worker = worker; number = t.id.index; ran = run.ran } in
    let step : IsDone net end worker all rec job d = record { by_worker = refl; task = t; dealt = placed.0; run = run.run } in record {
      jobs = w.jobs ++ job ∷ [];
      done = done_more net end worker all rec w.jobs ds job d w.done step;
      in_order = numbers-more w.jobs job ∙ ap (λ (l : List ℕ). l ++ t.id.index ∷ []) w.in_order ∙ sym (numbers_both ts (t ∷ []));
      spilled = spill ∙ ap (λ (l : List Parcel). l ++ parcels) w.spilled ∙ ap (λ (l : List Parcel). parcels_made net w.jobs ++ l) run.made ∙ sym (made_more net w.jobs job);
    }

-- ---- in their places

pub none_placed : (net : Net) (end worker : ℕ) (tasks : List HostTask) (a : Alone) → written_in a.outputs ≡ [] → a.lines.items ≡ [] → a.spill.items ≡ [] → a.due ≡ None
    → AreRunInPlace net end worker tasks 0 tasks a
none_placed net end worker tasks a outputs lines spill due = record {
  ds = [];
  many = refl;
  all = refl;
  places = λ place d at. absurd (let e : None ≡ Some d = at in cc);
  later = λ place h. refl;
  run = λ all rec are. record { jobs = []; done = tt; in_order = refl; spilled = spill };
  outputs = outputs;
  lines = lines;
  ids = refl;
  due = subst (IsLeastDue []) (sym due) refl;
  to = subst (All (λ (p : Parcel). p.to.index < length net.known.book)) (sym spill) (λ k d below. absurd (omega (arith, below)));
}

module _ (net : Net) (end worker : ℕ) (old now : List HostTask) (i : ℕ) (a : Alone) (t : HostTask) (are : All (IsOwn net) old) (here : slice_get now i ≡ Some t) (r : AreRunInPlace net end worker old i now a) where
  -- it is the host of its place, as it was
  before : slice_get old i ≡ Some t
  before = sym (r.later i (omega arith)) ∙ here

  within : i < length old
  within = below_get old i t before

  is_here : get_or old i t ≡ t
  is_here = get_or_of old i t before

  taken : take (suc i) old ≡ take i old ++ t ∷ []
  taken = (let next : suc i ≡ i + 1 = omega arith in ap (λ (n : ℕ). take n old) next ∙ take_more old i t within ∙ ap (λ (x : HostTask). take i old ++ x ∷ []) is_here)

  pub may_run_here : IsOwn net t
  may_run_here = subst (IsOwn net) is_here (are i t within)

  -- one host more was run in its place
  placed_more : (b : Alone) (t' : HostTask) (d : Done) (ps : List Parcel) → d.id ≡ t.id → t'.id ≡ d.id → t'.host ≡ d.host → t'.parcels.items ≡ []
      → ((h : HostRecord) → IsTask net t.id.index t h → HasRun net end t h d ps) → written_in b.outputs ≡ written_in a.outputs ++ d.outputs.items ∷ [] → b.lines.items ≡ a.lines.items ++ d.lines.items
      → b.spill.items ≡ a.spill.items ++ ps → b.due ≡ lesser_due a.due t'.due → All (λ (p : Parcel). p.to.index < length net.known.book) ps → AreRunInPlace net end worker old (suc i) (slice_set now i t') b
  placed_more b t' d ps id same host emptied ran outputs lines spill due to =
      record {
        ds = r.ds ++ d ∷ [];
        many = (let long = length_push r.ds d in let many = r.many in omega arith);
        all = length-set now i t' ∙ r.all;
        places = λ place e at. ⊎_elim
            (λ (l : slice_get r.ds place ≡ Some e).
            let p = r.places place e l in
            let below = below_get r.ds place e l in
            let many = r.many in
            let other : place ≢ i = omega arith in
            record { task = p.task; at = get_set_other now i place t' other ∙ p.at; id = p.id; host = p.host; emptied = p.emptied })
            (λ (q : (place ≡ length r.ds) × (d ≡ e)).
            let is : place ≡ i = q.0 ∙ r.many in
            subst (λ (x : Done). IsPlaced (slice_set now i t') place x) q.1
            (record { task = t'; at = ap (slice_get (slice_set now i t')) is ∙ get_set_same now i t t' here; id = same; host = host; emptied = emptied }))
            (at_more r.ds d e place at);
        later = λ place h. (let other : place ≢ i = omega arith in get_set_other now i place t' other ∙ r.later place (omega arith));
        run = λ all rec tasks.
            (let placed : IsPlacedIn net all rec t = subst (IsPlacedIn net all rec) is_here (tasks i t within) in
            subst (λ (l : List HostTask). HasRunAll net end worker all rec l (r.ds ++ d ∷ []) b.spill.items) (sym taken)
            (one_more net end worker all rec (take i old) r.ds a.spill.items b.spill.items t d ps placed (ran (rec t.id.index) placed.1) spill (r.run all rec tasks)));
        outputs = outputs ∙ ap (λ (l : List (List Output)). l ++ d.outputs.items ∷ []) r.outputs ∙ sym (map_more (λ (x : Done). x.outputs.items) r.ds d);
        lines = lines ∙ ap (λ (l : List Logged). l ++ d.lines.items) r.lines ∙ sym (lines_more r.ds d);
        ids = map_more (λ (x : Done). x.id) r.ds d ∙ ap (λ (l : List HostId). l ++ d.id ∷ []) r.ids ∙ ap (λ (h : HostId). task_ids (take i old) ++ h ∷ []) id
            ∙ sym (map_more (λ (x : HostTask). x.id) (take i old) t) ∙ ap task_ids (sym taken);
        due = least_more (held_by r.ds) d.host.value.queue (held_by (r.ds ++ d ∷ [])) a.due t'.due b.due (held_more r.ds d) due r.due
            (subst (λ (x : Box Host Global). IsLeastDue x.value.queue t'.due) host (least_of t'.host.value.queue t'.due t'.told));
        to = subst (All (λ (p : Parcel). p.to.index < length net.known.book)) (sym spill) (All-append (λ (p : Parcel). p.to.index < length net.known.book) a.spill.items ps r.to to);
      }

  pub kept_more : (b : Alone) (t' : HostTask) (out : Outbox) → t'.id ≡ t.id → t'.parcels.items ≡ [] → ((h : HostRecord) → IsTask net t.id.index t h → HasRun net end t h (done_of t' out) out.parcels.items)
      → HasKept t'.due out a b → All (λ (p : Parcel). p.to.index < length net.known.book) out.parcels.items → AreRunInPlace net end worker old (suc i) (slice_set now i t') b
  kept_more b t' out id emptied ran kept to =
      placed_more b t' (done_of t' out) out.parcels.items id refl refl emptied ran kept.outputs kept.lines kept.spill kept.due to

  -- it had nothing to do, and stays as it is
  pub passed_more : (b : Alone) → IsIdle end t → HasPassed t.due a b → AreRunInPlace net end worker old (suc i) (slice_set now i t) b
  passed_more b idle passed =
      let d : Done = record { id = t.id; host = t.host; lines = holding a.spill [] (omega arith); outputs = holding a.spill [] (omega arith) } in
      placed_more b t d [] refl refl refl idle.none (λ h is. idle_run net end t h d is idle refl refl refl refl)
      passed.outputs (passed.lines ∙ sym (append-nil a.lines.items)) (passed.spill ∙ sym (append-nil a.spill.items)) passed.due (λ k p below. absurd (omega (arith, below)))

-- ---- empty rows

head_empty : (n : ℕ) (row : Vec Boxed Global) (rows : List (Vec Boxed Global)) → lists_of (row ∷ rows) ≡ replicate n [] → (m : ℕ) × (n ≡ suc m) × (row.items ≡ []) × (lists_of rows ≡ replicate m [])
head_empty zero row rows h = absurd (let never : ⊥ = cc in never)
head_empty (suc m) row rows h = (m, refl, cc, cc)

pub empty_count : (n : ℕ) (rows : List (Vec Boxed Global)) → lists_of rows ≡ replicate n [] → length rows ≡ n
empty_count zero [] h = refl
empty_count (suc n) [] h = absurd (let never : ⊥ = cc in never)
empty_count n (row ∷ rows) h = (let w = head_empty n row rows h in ap suc (empty_count w.0 rows w.3) ∙ sym w.1)

empty_weight : (h : Parcel → ℕ) (n : ℕ) (rows : List (Vec Boxed Global)) → lists_of rows ≡ replicate n [] → weigh (λ (row : Vec Boxed Global). weigh (λ (b : Boxed). h b.value) row.items) rows ≡ 0
empty_weight h n [] e = refl
empty_weight h n (row ∷ rows) e =
    (let w = head_empty n row rows e in
    let none : weigh (λ (b : Boxed). h b.value) row.items ≡ 0 = ap (weigh (λ (b : Boxed). h b.value)) w.2 in
    let rest = empty_weight h w.0 rows w.3 in
    omega (arith, none, rest))

empty_parcels : (n : ℕ) (rows : List (Vec Boxed Global)) → lists_of rows ≡ replicate n [] → flat_map (λ (row : Vec Boxed Global). map (λ (b : Boxed). b.value) row.items) rows ≡ []
empty_parcels n [] e = refl
empty_parcels n (row ∷ rows) e =
    (let w = head_empty n row rows e in
    ap (λ (l : List Boxed). map (λ (b : Boxed). b.value) l ++ flat_map (λ (r : Vec Boxed Global). map (λ (b : Boxed). b.value) r.items) rows) w.2 ∙ empty_parcels w.0 rows w.3)

empty_theirs : (n : ℕ) (rows : List (Vec Boxed Global)) → lists_of rows ≡ replicate n [] → (i : ℕ) (d : Vec Boxed Global) → i < length rows → (get_or rows i d).items ≡ []
empty_theirs n [] e i d lt = absurd (omega (arith, lt))
empty_theirs n (row ∷ rows) e zero d lt = (let w = head_empty n row rows e in w.2)
empty_theirs n (row ∷ rows) e (suc i) d lt = (let w = head_empty n row rows e in empty_theirs w.0 rows w.3 i d (omega (arith, lt)))

empty_rows : (n : ℕ) (rows : List (Vec Boxed Global)) → lists_of rows ≡ replicate n [] → AreRows n rows
empty_rows n rows e = record {
  count = empty_count n rows e;
  theirs = λ i d lt k b within. absurd (omega (arith, within, ap (λ (l : List Boxed). length l) (empty_theirs n rows e i d lt)));
}

-- ---- the whole

all_contained : (xs ys : List Parcel) → xs ≡ ys → All (λ (p : Parcel). Contains ys p) xs
all_contained xs ys same = subst (λ (l : List Parcel). All (λ (p : Parcel). Contains l p) xs) same (λ k d lt. Contains-get_or xs k d lt)

spilled_weight : (h : Parcel → ℕ) (works : List Worked) → weigh (λ (w : Worked). weigh h w.spill.items) works ≡ weigh h (all_spilled works)
spilled_weight h [] = refl
spilled_weight h (w ∷ works) = (let rest = spilled_weight h works in omega (arith, rest, weigh_append h w.spill.items (all_spilled works)))

-- a round whose packets are in no inbox
pub spilled_round : (net : Net) (end : ℕ) (tasks : List HostTask) (rec : ℕ → HostRecord) (jobs : List (List HostJob)) (works : List Worked) (rows : List (Vec Boxed Global))
    → AreWorks net end tasks rec 0 jobs works → numbers (joined jobs) ≡ numbers_below (length tasks) → all_spilled works ≡ parcels_made net (joined jobs)
    → lists_of rows ≡ replicate (length tasks) [] → IsRound net end tasks rec works rows
spilled_round net end tasks rec jobs works rows done in_order spilled empty =
    let parcels : all_parcels rows works ≡ parcels_made net (joined jobs) =
    ap (λ (l : List Parcel). l ++ all_spilled works) (empty_parcels (length tasks) rows empty) ∙ spilled in record {
      jobs = jobs;
      done = done;
      each_once = subst (λ (l : List ℕ). IsPermutation l (numbers_below (length tasks))) (sym in_order) (IsPermutation-refl (numbers_below (length tasks)));
      parcels = λ h.
          (let none = empty_weight h (length tasks) rows empty in
          let all = spilled_weight h works in
          let here : weigh h (all_spilled works) ≡ weigh h (parcels_made net (joined jobs)) = ap (weigh h) spilled in
          omega (arith, none, all, here));
      rows_are = empty_rows (length tasks) rows empty;
      into = all_contained (all_parcels rows works) (parcels_made net (joined jobs)) parcels;
      back = all_contained (parcels_made net (joined jobs)) (all_parcels rows works) (sym parcels);
    }
