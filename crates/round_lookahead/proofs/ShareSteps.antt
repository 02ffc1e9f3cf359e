-- Hosts in shares, each run in its place by the worker of its share.
use Rattle.std.proofs.Common.{◌≡◌, ℕ, zero, suc, ◌+◌, ◌<◌, ◌^◌, ◌⊎◌, inl, inr, ⊎_elim, List, [], ◌∷◌, ◌++◌, Some, None, All, map, flat_map, length, replicate, take, drop, ◌≤◌, slice_get, get_or, refl, sym, ap, subst, ◌∙◌, append_assoc, append-nil, arith, Vec}
use Rattle.std.specs.List.{range_with_len}
use Rattle.std.specs.declared.alloc.Global.{Global}
use Rattle.std.proofs.lemmas.List.{length-append, length-map, take_more}
use Rattle.std.proofs.lemmas.List.Elements.{All-append}
use Rattle.sim_base.specs.declared.event.Event.{Event}
use Rattle.sim_base.specs.declared.event.Parcel.{Parcel}
use Rattle.sim_base.specs.declared.host.HostId.{HostId}
use Rattle.event_order.specs.Events.{IsLeastDue}
use Rattle.list_weights.specs.Weights.{numbers_below}
use Rattle.list_weights.proofs.Permutations.{numbers_are_range}
use Rattle.steal_workers.specs.Gathers.{joined}
use Rattle.file_calls.specs.declared.task.Output.{Output}
use Rattle.host_link.specs.declared.line.Logged.{Logged}
use Rattle.host_link.specs.Net.{Net}
use Rattle.host_state.specs.HostRecord.{HostRecord}
use Rattle.run_files.specs.Written.{written_in}
use Rattle.world_order.proofs.Homes.{get_below, below_get, some_is}
use Rattle.world_order.proofs.Members.{IsIn, IsIn_left, IsIn_right, Each, Each_cons, Each_from_All, All_from_Each}
use Rattle.round_lookahead.specs.declared.workers.host_task.HostTask.{HostTask}
use Rattle.round_lookahead.specs.declared.workers.worked.Done.{Done}
use Rattle.round_lookahead.specs.declared.workers.worked.Worked.{Worked}
use Rattle.round_lookahead.specs.declared.world.in_place.Alone.{Alone}
use Rattle.round_lookahead.specs.declared.world.share.Share.{Share}
use Rattle.round_lookahead.specs.declared.world.sharing.Joined.{Joined}
use Rattle.round_lookahead.specs.inside.Alone.{AreAmong, AreRunInPlace, HasJoined, HasRunAll, IsOwn, IsPlaced, IsPlacedIn, held_by, task_ids, task_numbers}
use Rattle.round_lookahead.specs.inside.Backs.{all_done, all_spilled, ids_of, lines_done, lists_of, took_by}
use Rattle.round_lookahead.specs.inside.Rounds.{AreWorks}
use Rattle.round_lookahead.specs.inside.Shares.{AreJobsOf, AreRunByAll, HasAdded, HasRunShare, HaveRunShares, IsReadyShare, tasks_in}
use Rattle.round_lookahead.specs.Tasks.{IsTask, AreTasks, AreTasksOf}
use Rattle.round_lookahead.specs.Took.{host_of, hosts_below}
use Rattle.round_lookahead.specs.Works.{HostJob, AreDone, numbers, parcels_made}
use Rattle.round_parts.proofs.DueSteps.{least_more}
use Rattle.round_parts.proofs.ListFacts.{flat_append}
use Rattle.round_lookahead.proofs.AloneSteps.{holding, numbers_both}
use Rattle.round_lookahead.proofs.SettleSteps.{get_or_is}
use Rattle.round_lookahead.proofs.WorkSteps.{made_append, numbers_append}

-- ---- lists

front_of : (P : HostTask → Type 0) (ts us : List HostTask) → All P (ts ++ us) → All P ts
front_of P ts us all = All_from_Each P ts (λ t h. Each_from_All P (ts ++ us) all t (IsIn_left t ts us h))

back_of : (P : HostTask → Type 0) (ts us : List HostTask) → All P (ts ++ us) → All P us
back_of P ts us all = All_from_Each P us (λ t h. Each_from_All P (ts ++ us) all t (IsIn_right t ts us h))

take_all : {X : Type 0} (xs : List X) → take (length xs) xs ≡ xs
take_all [] = refl
take_all (x ∷ xs) = ap (λ (l : List _). x ∷ l) (take_all xs)

map_both : {X Y : Type 0} (f : X → Y) (xs ys : List X) → map f (xs ++ ys) ≡ map f xs ++ map f ys
map_both f [] ys = refl
map_both f (x ∷ xs) ys = ap (λ (l : List _). f x ∷ l) (map_both f xs ys)

maps_same : {X Y Z : Type 0} (f : X → Z) (g : Y → Z) (xs : List X) (ys : List Y) → length xs ≡ length ys → ((k : ℕ) (x : X) (y : Y) → slice_get xs k ≡ Some x → slice_get ys k ≡ Some y → f x ≡ g y) → map f xs ≡ map g ys
maps_same f g [] [] long each = refl
maps_same f g [] (y ∷ ys) long each = absurd (omega arith)
maps_same f g (x ∷ xs) [] long each = absurd (omega arith)
maps_same f g (x ∷ xs) (y ∷ ys) long each = ap (λ (z : _). z ∷ map f xs) (each 0 x y refl refl) ∙ ap (λ (l : List _). g y ∷ l) (maps_same f g xs ys (omega arith) (λ k a b at of. each (suc k) a b at of))

drop_step : {X : Type 0} (xs : List X) (k : ℕ) (x : X) (rest : List X) → drop k xs ≡ x ∷ rest → (slice_get xs k ≡ Some x) × (drop (suc k) xs ≡ rest)
drop_step [] zero x rest is = absurd (let never : ⊥ = cc in never)
drop_step [] (suc k) x rest is = absurd (let never : ⊥ = cc in never)
drop_step (y ∷ ys) zero x rest is = (cc, cc)
drop_step (y ∷ ys) (suc k) x rest is = drop_step ys k x rest is

drop_none : {X : Type 0} (xs : List X) (k : ℕ) → drop k xs ≡ [] → length xs ≤ k
drop_none [] k is = omega arith
drop_none (x ∷ xs) zero is = absurd (let never : ⊥ = cc in never)
drop_none (x ∷ xs) (suc k) is = (let e = drop_none xs k is in omega arith)

take_past : {X : Type 0} (xs : List X) (k : ℕ) → length xs ≤ k → take k xs ≡ xs
take_past [] zero past = refl
take_past [] (suc k) past = refl
take_past (x ∷ xs) zero past = absurd (omega arith)
take_past (x ∷ xs) (suc k) past = ap (λ (l : List _). x ∷ l) (take_past xs k (omega arith))

pub lists_with : {X : Type 0} (vs : List (Vec X Global)) (v : Vec X Global) → lists_of (vs ++ v ∷ []) ≡ lists_of vs ++ v.items ∷ []
lists_with [] v = refl
lists_with (u ∷ vs) v = ap (λ (l : List (List _)). u.items ∷ l) (lists_with vs v)

get_split : {X : Type 0} (xs ys : List X) (i : ℕ) (x : X) → slice_get (xs ++ ys) i ≡ Some x → (slice_get xs i ≡ Some x) ⊎ ((k : ℕ) × (i ≡ length xs + k) × (slice_get ys k ≡ Some x))
get_split [] ys i x at = inr (i, (let e : i ≡ 0 + i = omega arith in e), at)
get_split (y ∷ xs) ys zero x at = inl at
get_split (y ∷ xs) ys (suc i) x at =
    ⊎_elim (λ (l : slice_get xs i ≡ Some x). inl l) (λ (r : (k : ℕ) × (i ≡ length xs + k) × (slice_get ys k ≡ Some x)). inr (r.0, (let e = r.1 in omega arith), r.2)) (get_split xs ys i x at)

get_left : {X : Type 0} (xs ys : List X) (i : ℕ) (x : X) → slice_get xs i ≡ Some x → slice_get (xs ++ ys) i ≡ Some x
get_left [] ys i x at = absurd (let e : None ≡ Some x = at in cc)
get_left (y ∷ xs) ys zero x at = at
get_left (y ∷ xs) ys (suc i) x at = get_left xs ys i x at

get_right : {X : Type 0} (xs ys : List X) (k i : ℕ) → i ≡ length xs + k → slice_get (xs ++ ys) i ≡ slice_get ys k
get_right [] ys k i is = ap (slice_get ys) (let e : i ≡ k = omega arith in e)
get_right (y ∷ xs) ys k zero is = absurd (omega arith)
get_right (y ∷ xs) ys k (suc i) is = get_right xs ys k i (omega arith)

pub silent_both : (before : List (List Output)) (old more new : ℕ) → new ≡ old + more → before ++ replicate new [] ≡ (before ++ replicate old []) ++ replicate more []
silent_both before old more new is = ap (λ (n : ℕ). before ++ replicate n []) is ∙ ap (λ (l : List (List Output)). before ++ l) (both old) ∙ sym (append_assoc before (replicate old []) (replicate more [])) where
  both : (n : ℕ) → replicate {A = List Output} (n + more) [] ≡ replicate n [] ++ replicate more []
  both zero = ap (λ (m : ℕ). replicate m []) (let e : 0 + more ≡ more = omega arith in e)
  both (suc n) = ap (λ (m : ℕ). replicate m []) (let e : suc n + more ≡ suc (n + more) = omega arith in e) ∙ ap (λ (l : List (List Output)). [] ∷ l) (both n)

-- ---- the hosts of all tasks

all_own : (net : Net) (ts : List HostTask) → AreTasksOf net ts → All (IsOwn net) ts
all_own net ts are k d below =
    let found = get_below ts k below in
    let h = are.each k found.0 found.1 in
    subst (IsOwn net) (sym (get_or_is ts k found.0 d found.1)) (h.0, subst (λ (n : ℕ). IsTask net n found.0 h.0) (sym h.1.id) h.1)

pub own_of : (net : Net) (ts us : List HostTask) → us ≡ ts → AreTasksOf net ts → All (IsOwn net) us
own_of net ts us is are = subst (All (IsOwn net)) (sym is) (all_own net ts are)

pub among : (net : Net) (ts : List HostTask) (rec : ℕ → HostRecord) → AreTasks net ts rec → AreAmong net ts rec ts
among net ts rec are k d below =
    let found = get_below ts k below in
    let is = are k found.0 found.1 in
    subst (IsPlacedIn net ts rec) (sym (get_or_is ts k found.0 d found.1))
    (ap (slice_get ts) is.id ∙ found.1, subst (λ (n : ℕ). IsTask net n found.0 (rec n)) (sym is.id) is)

range_is : (ts : List HostTask) (from : ℕ) → ((k : ℕ) (t : HostTask) → slice_get ts k ≡ Some t → t.id.index ≡ from + k) → task_numbers ts ≡ range_with_len from (length ts)
range_is [] from are = refl
range_is (t ∷ ts) from are =
    let first : t.id.index ≡ from = (let e = are 0 t refl in omega arith) in
    ap (λ (n : ℕ). n ∷ task_numbers ts) first ∙ ap (λ (l : List ℕ). from ∷ l) (range_is ts (from + 1) (λ k u at. (let e = are (suc k) u at in omega arith)))

pub in_order : (net : Net) (ts : List HostTask) → AreTasksOf net ts → task_numbers ts ≡ numbers_below (length ts)
in_order net ts are = range_is ts 0 (λ k t at. (let is = (are.each k t at).1.id in omega arith)) ∙ sym (numbers_are_range (length ts))

ids_by_number : (ts : List HostTask) → task_ids ts ≡ map host_of (task_numbers ts)
ids_by_number [] = refl
ids_by_number (t ∷ ts) = ap (λ (l : List HostId). t.id ∷ l) (ids_by_number ts)

pub ids_below : (net : Net) (ts : List HostTask) → AreTasksOf net ts → task_ids ts ≡ hosts_below (length ts)
ids_below net ts are = ids_by_number ts ∙ ap (map host_of) (in_order net ts are)

ready_each : (net : Net) (ss : List Share) → All (IsOwn net) (tasks_in ss) → Each (IsReadyShare net) ss
ready_each net [] all s h = absurd h
ready_each net (s ∷ ss) all x h =
    Each_cons (IsReadyShare net) s ss (record { own = front_of (IsOwn net) s.tasks.items (tasks_in ss) all }) (ready_each net ss (back_of (IsOwn net) s.tasks.items (tasks_in ss) all)) x h

pub ready_shares : (net : Net) (ss : List Share) → AreTasksOf net (tasks_in ss) → All (IsReadyShare net) ss
ready_shares net ss are = All_from_Each (IsReadyShare net) ss (ready_each net ss (all_own net (tasks_in ss) are))

-- ---- workers one behind another

module _ (net : Net) (end : ℕ) (all : List HostTask) (rec : ℕ → HostRecord) where
  works_more : (worker : ℕ) (jobs : List (List HostJob)) (works : List Worked) (more : List HostJob) (w : Worked) (last : ℕ) → last ≡ worker + length works → AreWorks net end all rec worker jobs works
      → AreDone net end last all rec more w.done.items → AreWorks net end all rec worker (jobs ++ more ∷ []) (works ++ w ∷ [])
  works_more worker [] [] more w last is are done = (subst (λ (n : ℕ). AreDone net end n all rec more w.done.items) (let e : last ≡ worker = omega arith in e) done, tt)
  works_more worker [] (x ∷ works) more w last is are done = absurd are
  works_more worker (js ∷ jobs) [] more w last is are done = absurd are
  works_more worker (js ∷ jobs) (x ∷ works) more w last is are done = (are.0, works_more (suc worker) jobs works more w last (omega arith) are.1 done)

joined_more : (jobs : List (List HostJob)) (more : List HostJob) → joined (jobs ++ more ∷ []) ≡ joined jobs ++ more
joined_more jobs more = flat_append (λ (js : List HostJob). js) jobs (more ∷ []) ∙ ap (λ (l : List HostJob). joined jobs ++ l) (append-nil more)

done_with : (works : List Worked) (w : Worked) → all_done (works ++ w ∷ []) ≡ all_done works ++ w.done.items
done_with works w = flat_append (λ (x : Worked). x.done.items) works (w ∷ []) ∙ ap (λ (l : List Done). all_done works ++ l) (append-nil w.done.items)

spilled_with : (works : List Worked) (w : Worked) → all_spilled (works ++ w ∷ []) ≡ all_spilled works ++ w.spill.items
spilled_with works w = flat_append (λ (x : Worked). x.spill.items) works (w ∷ []) ∙ ap (λ (l : List Parcel). all_spilled works ++ l) (append-nil w.spill.items)

took_with : (works : List Worked) (w : Worked) → took_by (works ++ w ∷ []) ≡ took_by works ++ ids_of w.done.items ∷ []
took_with works w = map_both (λ (x : Worked). ids_of x.done.items) works (w ∷ [])

pub none_by : (net : Net) (end : ℕ) (a : Alone) → written_in a.outputs ≡ [] → a.lines.items ≡ [] → a.spill.items ≡ [] → a.due ≡ None → AreRunByAll net end [] [] a []
none_by net end a outputs lines spill due = record {
  works = [];
  took_is = refl;
  many = refl;
  all = refl;
  ids = refl;
  places = λ place d at. absurd (let e : None ≡ Some d = at in cc);
  run = λ all rec are. record { jobs = []; done = tt; in_order = refl; spilled = refl };
  spilled = spill;
  outputs = outputs;
  lines = lines;
  due = subst (IsLeastDue []) (sym due) refl;
  to = subst (All (λ (p : Parcel). p.to.index < length net.known.book)) (sym spill) (λ k d below. absurd (omega (arith, below)));
}

module _ (net : Net) (end : ℕ) (old new : List HostTask) (a : Alone) (took : List (List HostId)) (r : AreRunByAll net end old new a took) where
  pub workers_are : length r.works ≡ length took
  workers_are = sym (ap length r.took_is ∙ length-map r.works (λ (x : Worked). ids_of x.done.items))

  module _ (part now : List HostTask) (b c : Alone) (s : AreRunInPlace net end (length took) part (length part) now b) (j : HasJoined b a c) (small : length part < 2 ^ 63) where
    few : length s.ds < 2 ^ 63
    few = let many = s.many in omega arith

    abbrev w : Worked
    w = record { done = holding b.spill s.ds few; spill = b.spill }

    abbrev works : List Worked
    works = r.works ++ w ∷ []

    done_are : all_done works ≡ all_done r.works ++ s.ds
    done_are = done_with r.works w

    whole_ids : ids_of s.ds ≡ task_ids part
    whole_ids = s.ids ∙ ap task_ids (take_all part)

    placed : (place : ℕ) (d : Done) → slice_get (all_done r.works ++ s.ds) place ≡ Some d → IsPlaced (new ++ now) place d
    placed place d at =
        ⊎_elim
        (λ (l : slice_get (all_done r.works) place ≡ Some d). (let p = r.places place d l in record { task = p.task; at = get_left new now place p.task p.at; id = p.id; host = p.host; emptied = p.emptied }))
        (λ (q : (k : ℕ) × (place ≡ length (all_done r.works) + k) × (slice_get s.ds k ≡ Some d)).
        let p = s.places q.0 d q.2 in
        let many = r.many in
        let all = r.all in
        let is = q.1 in
        record { task = p.task; at = get_right new now q.0 place (omega arith) ∙ p.at; id = p.id; host = p.host; emptied = p.emptied })
        (get_split (all_done r.works) s.ds place d at)

    jobs_more : (all : List HostTask) (rec : ℕ → HostRecord) → AreAmong net all rec (old ++ part) → AreJobsOf net end all rec (old ++ part) works
    jobs_more all rec are =
        let m = r.run all rec (front_of (IsPlacedIn net all rec) old part are) in
        let k : HasRunAll net end (length took) all rec part s.ds b.spill.items =
        subst (λ (l : List HostTask). HasRunAll net end (length took) all rec l s.ds b.spill.items) (take_all part) (s.run all rec (back_of (IsPlacedIn net all rec) old part are)) in
        record {
          jobs = m.jobs ++ k.jobs ∷ [];
          done = works_more net end all rec 0 m.jobs r.works k.jobs w (length took) (let e = workers_are in omega arith) m.done k.done;
          in_order = ap numbers (joined_more m.jobs k.jobs) ∙ numbers_append (joined m.jobs) k.jobs ∙ ap (λ (l : List ℕ). l ++ numbers k.jobs) m.in_order
              ∙ ap (λ (l : List ℕ). task_numbers old ++ l) k.in_order ∙ sym (numbers_both old part);
          spilled = spilled_with r.works w ∙ ap (λ (l : List Parcel). l ++ b.spill.items) m.spilled ∙ ap (λ (l : List Parcel). parcels_made net (joined m.jobs) ++ l) k.spilled
              ∙ sym (made_append net (joined m.jobs) k.jobs) ∙ ap (parcels_made net) (sym (joined_more m.jobs k.jobs));
        }

    pub share_more : AreRunByAll net end (old ++ part) (new ++ now) c (took ++ task_ids part ∷ [])
    share_more = record {
      works = works;
      took_is = ap (λ (l : List (List HostId)). l ++ task_ids part ∷ []) r.took_is ∙ ap (λ (l : List HostId). took_by r.works ++ l ∷ []) (sym whole_ids) ∙ sym (took_with r.works w);
      many = ap length done_are ∙ (let x = length-append (all_done r.works) s.ds in let y = length-append old part in let m = r.many in let n = s.many in omega arith);
      all = (let x = length-append new now in let y = length-append old part in let m = r.all in let n = s.all in omega arith);
      ids = ap ids_of done_are ∙ map_both (λ (d : Done). d.id) (all_done r.works) s.ds ∙ ap (λ (l : List HostId). l ++ ids_of s.ds) r.ids ∙ ap (λ (l : List HostId). task_ids old ++ l) whole_ids
          ∙ sym (map_both (λ (t : HostTask). t.id) old part);
      places = λ place d at. placed place d (ap (λ (l : List Done). slice_get l place) (sym done_are) ∙ at);
      run = jobs_more;
      spilled = j.spill ∙ ap (λ (l : List Parcel). l ++ b.spill.items) r.spilled ∙ sym (spilled_with r.works w);
      outputs = j.outputs ∙ ap (λ (l : List (List Output)). l ++ written_in b.outputs) r.outputs ∙ ap (λ (l : List (List Output)). map (λ (d : Done). d.outputs.items) (all_done r.works) ++ l) s.outputs
          ∙ sym (map_both (λ (d : Done). d.outputs.items) (all_done r.works) s.ds) ∙ ap (map (λ (d : Done). d.outputs.items)) (sym done_are);
      lines = j.lines ∙ ap (λ (l : List Logged). l ++ b.lines.items) r.lines ∙ ap (λ (l : List Logged). lines_done (all_done r.works) ++ l) s.lines
          ∙ sym (flat_append (λ (d : Done). d.lines.items) (all_done r.works) s.ds) ∙ ap lines_done (sym done_are);
      due = least_more (held_by (all_done r.works)) (held_by s.ds) (held_by (all_done works)) a.due b.due c.due
          (ap held_by done_are ∙ flat_append (λ (d : Done). d.host.value.queue) (all_done r.works) s.ds) j.due r.due s.due;
      to = subst (All (λ (p : Parcel). p.to.index < length net.known.book)) (sym j.spill) (All-append (λ (p : Parcel). p.to.index < length net.known.book) a.spill.items b.spill.items r.to s.to);
    }

-- what was run stands in the same order
pub same_ids : (net : Net) (end worker : ℕ) (part now : List HostTask) (b : Alone) → AreRunInPlace net end worker part (length part) now b → task_ids now ≡ task_ids part
same_ids net end worker part now b s =
    maps_same (λ (t : HostTask). t.id) (λ (d : Done). d.id) now s.ds (s.all ∙ sym s.many)
    (λ k t d at of. (let p = s.places k d of in ap (λ (x : HostTask). x.id) (some_is t p.task (sym at ∙ p.at)) ∙ p.id)) ∙ s.ids ∙ ap task_ids (take_all part)

-- some shares stand one behind another, and these are left
pub record IsJoining (net : Net) (end : ℕ) (old new left : List Share) (j : Joined) : Type 0 where
  pub count : ℕ
  pub left_is : left ≡ drop count new
  pub within : count ≤ length new
  pub took : length j.took.items ≡ count
  pub run : AreRunByAll net end (tasks_in (take count old)) j.tasks.items j.alone (lists_of j.took.items)

pub joining_none : (net : Net) (end : ℕ) (old new left : List Share) (j : Joined) → left ≡ new → j.tasks.items ≡ [] → j.took.items ≡ [] → written_in j.alone.outputs ≡ [] → j.alone.lines.items ≡ [] → j.alone.spill.items ≡ []
    → j.alone.due ≡ None → IsJoining net end old new left j
joining_none net end old new left j is tasks took outputs lines spill due = record {
  count = 0;
  left_is = is;
  within = omega arith;
  took = ap length took;
  run = subst (λ (l : List HostTask). AreRunByAll net end [] l j.alone (lists_of j.took.items)) (sym tasks)
      (subst (λ (l : List (Vec HostId Global)). AreRunByAll net end [] [] j.alone (lists_of l)) (sym took) (none_by net end j.alone outputs lines spill due));
}

pub joining_more : (net : Net) (end : ℕ) (old new left rest : List Share) (s : Share) (i j : Joined) → HaveRunShares net end old new → left ≡ s ∷ rest → HasAdded s i j → IsJoining net end old new left i → IsJoining net end old new rest j
joining_more net end old new left rest s i j ran is added w =
    let k : ℕ = w.count in
    let here = drop_step new k s rest (sym w.left_is ∙ is) in
    let below : k < length new = below_get new k s here.0 in
    let within : k < length old = (let e = ran.0 in omega arith) in
    let o : Share = get_or old k s in
    let one : AreRunInPlace net end k o.tasks.items (length o.tasks.items) s.tasks.items added.made =
    (subst (HasRunShare net end k o) (get_or_is new k s s here.0) (ran.1 k s within)).run added.made added.is in
    let next : k + 1 ≡ suc k = omega arith in
    let taken : tasks_in (take (suc k) old) ≡ tasks_in (take k old) ++ o.tasks.items =
    ap (λ (n : ℕ). tasks_in (take n old)) (sym next) ∙ ap tasks_in (take_more old k s within) ∙ flat_append (λ (x : Share). x.tasks.items) (take k old) (o ∷ [])
    ∙ ap (λ (l : List HostTask). tasks_in (take k old) ++ l) (append-nil o.tasks.items) in
    let many : length (lists_of i.took.items) ≡ k = length-map i.took.items (λ (v : Vec HostId Global). v.items) ∙ w.took in
    let small : length o.tasks.items < 2 ^ 63 = omega (arith, o.tasks.small, o.tasks.ok.0) in
    let more = share_more net end (tasks_in (take k old)) i.tasks.items i.alone (lists_of i.took.items) w.run o.tasks.items s.tasks.items added.made j.alone
    (subst (λ (n : ℕ). AreRunInPlace net end n o.tasks.items (length o.tasks.items) s.tasks.items added.made) (sym many) one) added.joins small in
    let took : lists_of i.took.items ++ task_ids o.tasks.items ∷ [] ≡ lists_of j.took.items =
    ap (λ (l : List HostId). lists_of i.took.items ++ l ∷ []) (sym (same_ids net end k o.tasks.items s.tasks.items added.made one)) ∙ sym added.took in
    record {
      count = suc k;
      left_is = sym here.1;
      within = omega arith;
      took = sym (length-map j.took.items (λ (v : Vec HostId Global). v.items)) ∙ ap length (sym took) ∙ (let e = length-append (lists_of i.took.items) (task_ids o.tasks.items ∷ []) in omega (arith, e, many));
      run = subst (AreRunByAll net end (tasks_in (take (suc k) old)) j.tasks.items j.alone) took
          (subst (λ (l : List HostTask). AreRunByAll net end l j.tasks.items j.alone (lists_of i.took.items ++ task_ids o.tasks.items ∷ [])) (sym taken)
          (subst (λ (l : List HostTask). AreRunByAll net end (tasks_in (take k old) ++ o.tasks.items) l j.alone (lists_of i.took.items ++ task_ids o.tasks.items ∷ [])) (sym added.tasks) more));
    }

pub joining_all : (net : Net) (end : ℕ) (old new left : List Share) (j : Joined) → HaveRunShares net end old new → left ≡ [] → IsJoining net end old new left j
    → (length j.took.items ≡ length old) × AreRunByAll net end (tasks_in old) j.tasks.items j.alone (lists_of j.took.items)
joining_all net end old new left j ran none w =
    let past : length new ≤ w.count = drop_none new w.count (sym w.left_is ∙ none) in
    let all : take w.count old ≡ old = take_past old w.count (let e = ran.0 in omega arith) in
    let within : w.count ≤ length new = w.within in
    (w.took ∙ (let e = ran.0 in omega arith), subst (λ (l : List Share). AreRunByAll net end (tasks_in l) j.tasks.items j.alone (lists_of j.took.items)) all w.run)

-- a worker more, which has no share
idle_more : (net : Net) (end : ℕ) (old new : List HostTask) (a : Alone) (took : List (List HostId)) → AreRunByAll net end old new a took → AreRunByAll net end old new a (took ++ [] ∷ [])
idle_more net end old new a took r =
    let idle : Worked = record { done = holding a.spill [] (omega arith); spill = holding a.spill [] (omega arith) } in
    let done_are : all_done (r.works ++ idle ∷ []) ≡ all_done r.works = done_with r.works idle ∙ append-nil (all_done r.works) in
    let spilled_are : all_spilled (r.works ++ idle ∷ []) ≡ all_spilled r.works = spilled_with r.works idle ∙ append-nil (all_spilled r.works) in
    record {
      works = r.works ++ idle ∷ [];
      took_is = ap (λ (l : List (List HostId)). l ++ [] ∷ []) r.took_is ∙ sym (took_with r.works idle);
      many = ap length done_are ∙ r.many;
      all = r.all;
      ids = ap ids_of done_are ∙ r.ids;
      places = λ place d at. r.places place d (ap (λ (l : List Done). slice_get l place) (sym done_are) ∙ at);
      run = λ all rec are.
          (let m = r.run all rec are in record {
            jobs = m.jobs ++ [] ∷ [];
            done = works_more net end all rec 0 m.jobs r.works [] idle (length r.works) (omega arith) m.done tt;
            in_order = ap numbers (joined_more m.jobs [] ∙ append-nil (joined m.jobs)) ∙ m.in_order;
            spilled = spilled_are ∙ m.spilled ∙ ap (parcels_made net) (sym (joined_more m.jobs [] ∙ append-nil (joined m.jobs)));
          });
      spilled = r.spilled ∙ sym spilled_are;
      outputs = r.outputs ∙ ap (map (λ (d : Done). d.outputs.items)) (sym done_are);
      lines = r.lines ∙ ap lines_done (sym done_are);
      due = subst (λ (l : List Done). IsLeastDue (held_by l) a.due) (sym done_are) r.due;
      to = r.to;
    }

pub idle_all : (n : ℕ) (net : Net) (end : ℕ) (old new : List HostTask) (a : Alone) (took : List (List HostId)) → AreRunByAll net end old new a took → AreRunByAll net end old new a (took ++ replicate n [])
idle_all zero net end old new a took r = subst (AreRunByAll net end old new a) (sym (append-nil took)) r
idle_all (suc n) net end old new a took r =
    subst (AreRunByAll net end old new a) (append_assoc took ([] ∷ []) (replicate n [])) (idle_all n net end old new a (took ++ [] ∷ []) (idle_more net end old new a took r))

-- a first worker took all hosts, and so many others none
pub first_by : (net : Net) (end : ℕ) (part now : List HostTask) (b : Alone) (others : ℕ) → AreRunInPlace net end 0 part (length part) now b → length part < 2 ^ 63
    → AreRunByAll net end part now b (task_ids part ∷ replicate others [])
first_by net end part now b others s small =
    let nothing : Alone = record b {
      outputs = record { hosts = holding b.spill [] (omega arith); silent = 0 };
      lines = holding b.lines [] (omega arith);
      spill = holding b.spill [] (omega arith);
      due = None;
    } in
    idle_all others net end part now b (task_ids part ∷ [])
    (share_more net end [] [] nothing [] (none_by net end nothing refl refl refl refl) part now b b s (record { outputs = refl; lines = refl; spill = refl; due = refl }) small)
