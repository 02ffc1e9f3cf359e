-- Hosts that were run in their places, and the packets that then wait for them.
use Rattle.std.proofs.Common.{◌≡◌, ℕ, zero, suc, ◌-◌, ◌<◌, ◌≤◌, ◌^◌, List, [], ◌∷◌, ◌++◌, Option, Some, All, map, flat_map, length, replicate, slice_get, slice_set, get_or, refl, sym, ap, subst, ◌∙◌, append-nil, Vec, arith, IsPermutation}
use Rattle.std.specs.Prelude.{Box}
use Rattle.std.specs.declared.alloc.Global.{Global}
use Rattle.std.proofs.lemmas.List.{length-map, length-replicate, with_items_is}
use Rattle.std.specs.Vec.{with_items}
use Rattle.sim_base.specs.declared.event.Event.{Event}
use Rattle.sim_base.specs.declared.event.Parcel.{Parcel}
use Rattle.sim_base.specs.declared.host.HostId.{HostId}
use Rattle.sim_base.specs.declared.time.Time.{Time}
use Rattle.event_order.specs.Events.{IsLeastDue}
use Rattle.file_calls.specs.declared.task.Output.{Output}
use Rattle.run_files.specs.Written.{written_in}
use Rattle.run_files.specs.declared.written.Written.{Written}
use Rattle.host_state.specs.declared.host.Host.{Host}
use Rattle.host_link.specs.Net.{Net}
use Rattle.host_link.specs.Home.{home}
use Rattle.host_link.specs.Parcels.{parcel_event}
use Rattle.world_order.proofs.Fires.{get-map}
use Rattle.world_order.proofs.Homes.{some_is, get_below, below_get}
use Rattle.round_lookahead.specs.declared.workers.host_task.HostTask.{HostTask}
use Rattle.round_lookahead.specs.declared.workers.worked.Done.{Done}
use Rattle.round_lookahead.specs.declared.workers.worked.Worked.{Worked}
use Rattle.round_lookahead.specs.declared.world.in_place.Alone.{Alone}
use Rattle.round_lookahead.specs.declared.world.gained.Gained.{Gained}
use Rattle.round_lookahead.specs.declared.world.settling.Settled.{Settled}
use Rattle.round_lookahead.specs.declared.world.settling_in_place.RanInPlace.{RanInPlace}
use Rattle.round_lookahead.specs.declared.world.took.Took.{Took}
use Rattle.round_parts.specs.Arrivals.{Boxed, arrivals}
use Rattle.round_lookahead.specs.inside.Alone.{AreRunInPlace, task_ids}
use Rattle.round_lookahead.specs.inside.Backs.{all_done, all_spilled, ids_of, lines_done, lists_of, took_by}
use Rattle.round_parts.specs.Rows.{row_arrivals, AreAtHome}
use Rattle.round_parts.specs.Dues.{first_due, lesser_due}
use Rattle.round_lookahead.specs.inside.RoundsInPlace.{HasSettledInPlace, IsRoundInPlace}
use Rattle.round_lookahead.specs.inside.Settles.{IsBack, HasSettled}
use Rattle.round_lookahead.specs.inside.Shares.{AreRunByAll}
use Rattle.round_lookahead.specs.inside.Waits.{IsSameHosts, rows_of}
use Rattle.round_lookahead.specs.Tasks.{AreTasksOf, waiting}
use Rattle.round_lookahead.specs.Took.{hosts_below, took_in}
use Rattle.round_lookahead.specs.declared.world.took.Took.TheVariants.{First}
use Rattle.round_lookahead.proofs.AloneSteps.{holding, spilled_round}
use Rattle.round_lookahead.proofs.ShareSteps.{among, first_by, ids_below, in_order, workers_are}
use Rattle.round_parts.proofs.DeliverySteps.{row-home, row-more}
use Rattle.round_lookahead.proofs.SettleSteps.{get_or_is}
use Rattle.round_lookahead.proofs.WaitSteps.{due_with, held_waits, waits_with}

-- ---- the same hosts

pub same_length : (old new : List HostTask) → IsSameHosts old new → length new ≡ length old
same_length old new same = sym (length-map new (λ (t : HostTask). t.id)) ∙ ap length same.ids ∙ length-map old (λ (t : HostTask). t.id)

-- one place changes, and what is seen of it stays
pub map-set : {X Y : Type 0} (f : X → Y) (xs : List X) (i : ℕ) (x y : X) → slice_get xs i ≡ Some x → f y ≡ f x → map f (slice_set xs i y) ≡ map f xs
map-set f [] i x y at same = refl
map-set f (z ∷ zs) zero x y at same = ap (λ (w : _). w ∷ map f zs) (same ∙ ap f (sym (some_is z x at)))
map-set f (z ∷ zs) (suc i) x y at same = ap (λ (l : List _). f z ∷ l) (map-set f zs i x y at same)

-- one place changes, also as seen
pub set_map : {X Y : Type 0} (f : X → Y) (xs : List X) (i : ℕ) (y : X) → map f (slice_set xs i y) ≡ slice_set (map f xs) i (f y)
set_map f [] i y = refl
set_map f (z ∷ zs) zero y = refl
set_map f (z ∷ zs) (suc i) y = ap (λ (l : List _). f z ∷ l) (set_map f zs i y)

pub get_or_at : {X : Type 0} (xs : List X) (i : ℕ) (d : X) → i < length xs → slice_get xs i ≡ Some (get_or xs i d)
get_or_at [] i d below = absurd (omega arith)
get_or_at (x ∷ xs) zero d below = refl
get_or_at (x ∷ xs) (suc i) d below = get_or_at xs i d (omega arith)

-- ---- a packet waits

pub same_hosts : (ts : List HostTask) (i : ℕ) (d t : HostTask) → i < length ts → t.id ≡ (get_or ts i d).id → t.host ≡ (get_or ts i d).host → IsSameHosts ts (slice_set ts i t)
same_hosts ts i d t below id host = record {
  ids = map-set (λ (x : HostTask). x.id) ts i (get_or ts i d) t (get_or_at ts i d below) id;
  hosts = map-set (λ (x : HostTask). x.host) ts i (get_or ts i d) t (get_or_at ts i d below) host;
}

module _ (ts : List HostTask) (i : ℕ) (d t : HostTask) (boxed : Boxed) (below : i < length ts) (more : t.parcels.items ≡ (get_or ts i d).parcels.items ++ boxed ∷ []) where
  abbrev row : Vec Boxed Global
  row = (get_or ts i d).parcels

  at_row : slice_get (rows_of ts) i ≡ Some row
  at_row = get-map (λ (x : HostTask). x.parcels) ts i (get_or ts i d) (get_or_at ts i d below)

  within : i < length (rows_of ts)
  within = below_get (rows_of ts) i row at_row

  set_is : rows_of (slice_set ts i t) ≡ slice_set (rows_of ts) i t.parcels
  set_is = set_map (λ (x : HostTask). x.parcels) ts i t

  pub waits_more : (p : Parcel) → boxed.value ≡ p → IsPermutation (row_arrivals (rows_of (slice_set ts i t))) (parcel_event p ∷ row_arrivals (rows_of ts))
  waits_more p is = subst (λ (l : List (Vec Boxed Global)). IsPermutation (row_arrivals l) (parcel_event p ∷ row_arrivals (rows_of ts))) (sym set_is)
      (row-more (rows_of ts) i row t.parcels boxed p within (sym (get_or_is (rows_of ts) i row row at_row)) more is)

  pub waits_home : (p : Parcel) → boxed.value ≡ p → (net : Net) → home net (parcel_event p) ≡ i → AreAtHome net (rows_of ts) → AreAtHome net (rows_of (slice_set ts i t))
  waits_home p is net to all = subst (AreAtHome net) (sym set_is) (row-home (rows_of ts) i row t.parcels boxed p within (sym (get_or_is (rows_of ts) i row row at_row)) more is net to all)

-- ---- no packet waits

none_wait : (ts : List HostTask) → ((k : ℕ) (t : HostTask) → slice_get ts k ≡ Some t → t.parcels.items ≡ []) → row_arrivals (rows_of ts) ≡ []
none_wait [] none = refl
none_wait (t ∷ ts) none = ap (λ (l : List Boxed). arrivals l ++ row_arrivals (rows_of ts)) (none 0 t refl) ∙ none_wait ts (λ k u at. none (suc k) u at)

none_away : (net : Net) (ts : List HostTask) → ((k : ℕ) (t : HostTask) → slice_get ts k ≡ Some t → t.parcels.items ≡ []) → AreAtHome net (rows_of ts)
none_away net ts none i row below =
    let long = length-map ts (λ (t : HostTask). t.parcels) in
    let found = get_below ts i (omega arith) in
    let is : get_or (rows_of ts) i row ≡ found.0.parcels = get_or_is (rows_of ts) i found.0.parcels row (get-map (λ (t : HostTask). t.parcels) ts i found.0 found.1) in
    let empty : (get_or (rows_of ts) i row).items ≡ [] = ap (λ (v : Vec Boxed Global). v.items) is ∙ none i found.0 found.1 in
    λ k b within. absurd (omega (arith, within, ap (λ (l : List Boxed). length l) empty))

-- ---- lists of vectors

lists_replicate : {X : Type 0} (n : ℕ) (v : Vec X Global) → lists_of (replicate n v) ≡ replicate n v.items
lists_replicate zero v = refl
lists_replicate (suc n) v = ap (λ (l : List (List _)). v.items ∷ l) (lists_replicate n v)

-- ---- the round

module _ (net : Net) (end : ℕ) (old now : List HostTask) (a : Alone) (took : List (List HostId)) (r : AreRunByAll net end old now a took) (tasks : AreTasksOf net old) (few : length old ≤ 65536)
    (new : Vec HostTask Global) (ran : RanInPlace) (how : Took) (so : HasSettledInPlace now a how new ran) (took_are : took_in how ≡ took) where
  abbrev p : Gained
  p = ran.gained

  abbrev rows : List (Vec Boxed Global)
  rows = replicate (length old) (holding a.spill [] (omega arith))

  rows-empty : lists_of rows ≡ replicate (length old) []
  rows-empty = lists_replicate (length old) (holding a.spill [] (omega arith))

  no_rows : (n : ℕ) → row_arrivals (replicate n (holding a.spill [] (omega arith))) ≡ []
  no_rows zero = refl
  no_rows (suc n) = no_rows n

  emptied : (k : ℕ) (t : HostTask) → slice_get now k ≡ Some t → t.parcels.items ≡ []
  emptied k t at =
      let below = below_get now k t at in
      let all = r.all in
      let many = r.many in
      let d = get_below (all_done r.works) k (omega arith) in
      let placed = r.places k d.0 d.1 in
      ap (λ (x : HostTask). x.parcels.items) (some_is t placed.task (sym at ∙ placed.at)) ∙ placed.emptied

  count : length new.items ≡ length old
  count = same_length now new.items so.same ∙ r.all

  abbrev settled : Settled
  settled = record { tasks = new; gained = p }

  number_at : (k : ℕ) (d : Done) → slice_get (all_done r.works) k ≡ Some d → d.id.index ≡ k
  number_at k d at =
      let below = below_get (all_done r.works) k d at in
      let many = r.many in
      let t = get_below old k (omega arith) in
      let same : d.id ≡ t.0.id = some_is d.id t.0.id
      (sym (get-map (λ (x : Done). x.id) (all_done r.works) k d at) ∙ ap (λ (l : List HostId). slice_get l k) r.ids ∙ get-map (λ (x : HostTask). x.id) old k t.0 t.1) in
      ap (λ (x : HostId). x.index) same ∙ (tasks.each k t.0 t.1).1.id

  back_at : (k : ℕ) (d : Done) → slice_get (all_done r.works) k ≡ Some d → IsBack settled d
  back_at k d at =
      let placed = r.places k d at in
      let number : d.id.index ≡ k = number_at k d at in
      let below = below_get (all_done r.works) k d at in
      let many = r.many in
      let long = count in
      let found = get_below new.items k (omega arith) in
      let id : found.0.id ≡ placed.task.id = some_is found.0.id placed.task.id
      (sym (get-map (λ (t : HostTask). t.id) new.items k found.0 found.1) ∙ ap (λ (l : List HostId). slice_get l k) so.same.ids ∙ get-map (λ (t : HostTask). t.id) now k placed.task placed.at) in
      let host : found.0.host ≡ placed.task.host = some_is found.0.host placed.task.host
      (sym (get-map (λ (t : HostTask). t.host) new.items k found.0 found.1) ∙ ap (λ (l : List (Box Host Global)). slice_get l k) so.same.hosts ∙ get-map (λ (t : HostTask). t.host) now k placed.task placed.at) in
      record {
        task = found.0;
        at = ap (slice_get new.items) number ∙ found.1;
        id = id ∙ placed.id;
        host = host ∙ placed.host;
        outputs = ap (slice_get (written_in p.outputs)) number ∙ ap (λ (v : Written). slice_get (written_in v) k) so.outputs
            ∙ ap (λ (l : List (List Output)). slice_get l k) r.outputs ∙ get-map (λ (x : Done). x.outputs.items) (all_done r.works) k d at;
      }

  backs : All (IsBack settled) (all_done r.works)
  backs k d below = (let found = get_below (all_done r.works) k below in subst (IsBack settled) (sym (get_or_is (all_done r.works) k found.0 d found.1)) (back_at k found.0 found.1))

  has_settled : HasSettled (length old) r.works rows settled
  has_settled = record {
    tasks_count = count;
    outputs_count = ap (λ (v : Written). length (written_in v)) so.outputs ∙ ap length r.outputs ∙ length-map (all_done r.works) (λ (d : Done). d.outputs.items) ∙ r.many;
    hosts = backs;
    home = λ n to at. so.theirs n (subst (All (λ (q : Parcel). home n (parcel_event q) ≡ q.to.index)) (sym r.spilled) to) (none_away n now emptied);
    packets = subst (λ (l : List Parcel). IsPermutation (row_arrivals (rows_of new.items)) (map parcel_event l ++ row_arrivals rows)) r.spilled
        (subst (λ (l : List Event). IsPermutation (row_arrivals (rows_of new.items)) (map parcel_event a.spill.items ++ l)) (none_wait now emptied ∙ sym (no_rows (length old))) so.packets);
    lines = λ all is. so.lines all (r.lines ∙ is);
    took = ap took_in so.took ∙ took_are ∙ r.took_is;
  }

  pub in_place_is : (workers : ℕ) → length took ≡ workers → IsRoundInPlace net end workers old new p
  in_place_is workers is = record {
    works = r.works;
    rows = rows;
    many = workers_are net end old now a took r ∙ is;
    round = λ rec are. (let j = r.run old rec (among net old rec are) in spilled_round net end old rec j.jobs r.works rows j.done (j.in_order ∙ in_order net old tasks) j.spilled rows-empty);
    settled = has_settled;
  }

  -- when the first event is due after it
  pub due_is : ran.due ≡ first_due (flat_map waiting new.items)
  due_is =
      let held : IsLeastDue (flat_map waiting now) a.due =
      subst (λ (l : List Event). IsLeastDue l a.due) (sym (held_waits now (all_done r.works) (r.many ∙ sym r.all) (λ k d at. (let q = r.places k d at in (q.task, q.at, q.host, q.emptied))))) r.due in
      due_with now new.items (map parcel_event a.spill.items) a.due so.first ran.due held so.arrive so.due (waits_with now new.items (map parcel_event a.spill.items) so.same so.packets)

-- as the code has it, where the first of so many workers runs all hosts
pub alone_by : (net : Net) (end : ℕ) (old : Vec HostTask Global) (opened : List HostTask) → opened ≡ old.items → (now : List HostTask) (a : Alone) → AreRunInPlace net end 0 opened (length opened) now a
    → (again : List HostTask) → again ≡ (with_items old now).items → (others : ℕ) → AreRunByAll net end old.items again a (task_ids old.items ∷ replicate others [])
alone_by net end old opened opened_is now a ran again again_is others =
    let r : AreRunInPlace net end 0 old.items (length old.items) now a = subst (λ (l : List HostTask). AreRunInPlace net end 0 l (length l) now a) opened_is ran in
    let many : length now ≡ old.len = r.all ∙ sym old.ok.0 in
    let again_now : again ≡ now = again_is ∙ with_items_is old now many in
    let small : length old.items < 2 ^ 63 = omega (arith, old.small, old.ok.0) in
    subst (λ (l : List HostTask). AreRunByAll net end old.items l a (task_ids old.items ∷ replicate others [])) (sym again_now) (first_by net end old.items now a others r small)

pub first_took : (net : Net) (old : List HostTask) → AreTasksOf net old → (workers hosts : ℕ) → hosts ≡ length old → took_in (First workers hosts) ≡ task_ids old ∷ replicate (workers - 1) []
first_took net old tasks workers hosts is = ap (λ (n : ℕ). hosts_below n ∷ replicate (workers - 1) []) is ∙ ap (λ (l : List HostId). l ∷ replicate (workers - 1) []) (sym (ids_below net old tasks))

pub count_took : (ids : List HostId) (workers : ℕ) → 0 < workers → length (ids ∷ replicate {A = List HostId} (workers - 1) []) ≡ workers
count_took ids workers some = (let e = length-replicate {A = List HostId} (workers - 1) [] in omega (arith, e, some))
