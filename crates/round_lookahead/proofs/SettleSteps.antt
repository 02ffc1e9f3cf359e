-- What all workers leave, put back by number.
use Rattle.std.proofs.Common.{◌≡◌, ℕ, zero, suc, ◌<◌, ◌≤◌, inl, inr, List, [], ◌∷◌, ◌++◌, Option, Some, None, IsSome, All, map, length, get_or, replicate, slice_get, refl, sym, ap, subst, ◌∙◌, arith, IsPermutation, Vec}
use Rattle.std.specs.Prelude.{option_map}
use Rattle.std.specs.declared.alloc.Global.{Global}
use Rattle.std.proofs.lemmas.List.{length-map}
use Rattle.std.proofs.lemmas.List.Sorted.{IsPermutation-sym}
use Rattle.sim_base.specs.declared.event.Parcel.{Parcel}
use Rattle.file_calls.specs.declared.task.Output.{Output}
use Rattle.host_link.specs.declared.line.Line.{Line}
use Rattle.host_link.specs.Net.{Net}
use Rattle.host_link.specs.Home.{home}
use Rattle.host_link.specs.Parcels.{parcel_event}
use Rattle.run_files.specs.Written.{written_in}
use Rattle.run_files.specs.declared.written.Written.{Written}
use Rattle.host_state.specs.Running.{kept_line}
use Rattle.list_weights.specs.Weights.{weigh, numbers_below}
use Rattle.list_weights.proofs.Permutations.{weigh_permutation}
use Rattle.list_weights.proofs.Weights.{is_number, is_itself}
use Rattle.world_order.specs.Round.{in_order}
use Rattle.world_order.specs.World as order
use Rattle.world_order.proofs.Fires.{get-map}
use Rattle.world_order.proofs.Homes.{some_is, get_below}
use Rattle.world_order.proofs.Members.{IsIn, IsIn_permutation, Each, All_from_Each}
use Rattle.round_lookahead.specs.declared.workers.host_task.HostTask.{HostTask}
use Rattle.round_lookahead.specs.declared.workers.worked.Done.{Done}
use Rattle.round_lookahead.specs.declared.workers.worked.Worked.{Worked}
use Rattle.round_lookahead.specs.declared.world.backs.Back.{Back}
use Rattle.round_lookahead.specs.declared.world.retasking.Retasked.{Retasked}
use Rattle.round_lookahead.specs.declared.world.settling.Settled.{Settled}
use Rattle.round_parts.specs.Arrivals.{Boxed}
use Rattle.round_lookahead.specs.inside.Backs.{back_of, with_done, all_done, all_spilled, lines_done, took_by}
use Rattle.round_parts.specs.Rows.{row_arrivals, AreAtHome}
use Rattle.round_lookahead.specs.inside.Retasks.{seen_in, AreRetasked}
use Rattle.round_lookahead.specs.inside.Settles.{done_numbers, CanSettle, IsBack, HasSettled}
use Rattle.round_lookahead.specs.Took.{took_in}
use Rattle.round_lookahead.proofs.BackSteps.{IdsApart, in_slot, length_with_done}
use Rattle.round_lookahead.proofs.RoundJobs.{below_number, number_below, there_once, once_below}

-- ---- lists

length-replicate : {X : Type 0} (n : ℕ) (x : X) → length (replicate n x) ≡ n
length-replicate zero x = refl
length-replicate (suc n) x = ap suc (length-replicate n x)

pub get_or_is : {X : Type 0} (xs : List X) (k : ℕ) (x d : X) → slice_get xs k ≡ Some x → get_or xs k d ≡ x
get_or_is [] k x d at = absurd (let e : None ≡ Some x = at in cc)
get_or_is (y ∷ ys) zero x d at = some_is y x at
get_or_is (y ∷ ys) (suc k) x d at = get_or_is ys k x d at

unmap_some : {X : Type 0} (xs : List X) (k : ℕ) (x : X) → slice_get (map Some xs) k ≡ Some (Some x) → slice_get xs k ≡ Some x
unmap_some [] k x at = absurd (let e : None ≡ Some (Some x) = at in cc)
unmap_some (y ∷ ys) zero x at = some_is (Some y) (Some x) at
unmap_some (y ∷ ys) (suc k) x at = unmap_some ys k x at

number_in : (ds : List Done) (d : Done) → IsIn d ds → IsIn d.id.index (done_numbers ds)
number_in [] d h = absurd h
number_in (e ∷ es) d (inl same) = inl (ap (λ (x : Done). x.id.index) same)
number_in (e ∷ es) d (inr h) = inr (number_in es d h)

pub done_of : (ds : List Done) (k : ℕ) → IsIn k (done_numbers ds) → (d : Done) × IsIn d ds × (d.id.index ≡ k)
done_of [] k h = absurd h
done_of (d ∷ ds) k (inl same) = (d, inl refl, sym same)
done_of (d ∷ ds) k (inr h) = let r = done_of ds k h in (r.0, inr r.1, r.2)

apart_once : (ds : List Done) → ((k : ℕ) → weigh (is_number k) (done_numbers ds) ≤ 1) → IdsApart ds
apart_once [] once = tt
apart_once (d ∷ ds) once = (
  λ e h same.
      let k : ℕ = d.id.index in
      let here : is_number k k ≡ 1 = is_itself k in
      let there = there_once k (done_numbers ds) (subst (λ (n : ℕ). IsIn n (done_numbers ds)) same (number_in ds e h)) in
      let most = once k in
      absurd (omega arith),
  apart_once ds (λ k. (let most = once k in omega arith)),
)

-- ---- slots

module _ (count : ℕ) (works : List Worked) (rows : List (Vec Boxed Global)) (can : CanSettle count works rows) where
  abbrev ds : List Done
  ds = all_done works

  abbrev full : List (Option Back)
  full = with_done ds (replicate count None)

  below : Each (λ (d : Done). d.id.index < count) ds
  below d h = below_number count d.id.index (IsIn_permutation d.id.index (done_numbers ds) (numbers_below count) can.once (number_in ds d h))

  slot_of : Each (λ (d : Done). slice_get full d.id.index ≡ Some (Some (back_of d))) ds
  slot_of = in_slot ds (replicate count None)
      (apart_once ds (λ k. (let same = weigh_permutation (is_number k) (done_numbers ds) (numbers_below count) can.once in let most = once_below count k in omega arith)))
      (λ d h. (let long : length (replicate count (let none : Option Back = None in none)) ≡ count = length-replicate count None in let b = below d h in omega arith))

  pub works_below : All (λ (w : Worked). All (λ (d : Done). d.id.index < count) w.done.items) works
  works_below = All_from_Each (λ (w : Worked). All (λ (d : Done). d.id.index < count) w.done.items) works (of_works works below)
    where
      of_works : (ws : List Worked) → Each (λ (d : Done). d.id.index < count) (all_done ws) → Each (λ (w : Worked). All (λ (d : Done). d.id.index < count) w.done.items) ws
      of_works [] each w h = absurd h
      of_works (v ∷ vs) each w (inl same) = subst (λ (x : Worked). All (λ (d : Done). d.id.index < count) x.done.items) (sym same)
          (All_from_Each (λ (d : Done). d.id.index < count) v.done.items (λ d g. each d (Rattle.world_order.proofs.Members.IsIn_left d v.done.items (all_done vs) g)))
      of_works (v ∷ vs) each w (inr h) = of_works vs (λ d g. each d (Rattle.world_order.proofs.Members.IsIn_right d v.done.items (all_done vs) g)) w h

  length_full : length full ≡ count
  length_full = length_with_done ds (replicate count None) ∙ length-replicate count None

  pub all_some : (slots : List (Option Back)) → slots ≡ full → All (λ (s : Option Back). IsSome s) slots
  all_some slots is k s less =
      let long = length_full in
      let same : length slots ≡ length full = ap length is in
      let d = done_of ds k (IsIn_permutation k (numbers_below count) (done_numbers ds) (IsPermutation-sym (done_numbers ds) (numbers_below count) can.once) (number_below count k (omega arith))) in
      let at : slice_get slots k ≡ Some (Some (back_of d.0)) = ap (λ (l : List (Option Back)). slice_get l k) is ∙ ap (slice_get full) (sym d.2) ∙ slot_of d.0 d.1 in
      subst (λ (o : Option Back). IsSome o) (sym (get_or_is slots k (Some (back_of d.0)) s at)) refl

  module _ (slots : List (Option Back)) (slots_are : slots ≡ full) where
    pub length_slots : length slots ≡ count
    length_slots = ap length slots_are ∙ length_full

    slot_at : Each (λ (d : Done). slice_get slots d.id.index ≡ Some (Some (back_of d))) ds
    slot_at d h = ap (λ (l : List (Option Back)). slice_get l d.id.index) slots_are ∙ slot_of d h

    module _ (new : List (Vec Boxed Global)) (r : Retasked) (retasked : AreRetasked slots new r) (s : Settled) (tasks_are : s.tasks ≡ r.tasks) (outputs_are : s.gained.outputs ≡ r.outputs) where
      length_tasks : length s.tasks.items ≡ count
      length_tasks =
          ap (λ (v : Vec HostTask Global). length v.items) tasks_are ∙ sym (length-map r.tasks.items (λ (t : HostTask). Some t.host)) ∙ ap length retasked.hosts
          ∙ length-map slots (option_map (λ (b : Back). b.host)) ∙ length_slots

      outputs_is : map Some (written_in s.gained.outputs) ≡ seen_in (λ (b : Back). b.outputs.items) slots
      outputs_is = ap (λ (w : Written). map Some (written_in w)) outputs_are ∙ retasked.outputs

      tasks_is : {Y : Type 0} (f : HostTask → Y) (g : Back → Y) → map (λ (t : HostTask). Some (f t)) r.tasks.items ≡ seen_in g slots → (k : ℕ) (t : HostTask) (b : Back) → slice_get s.tasks.items k ≡ Some t
          → slice_get slots k ≡ Some (Some b) → f t ≡ g b
      tasks_is f g same k t b at there =
          some_is (f t) (g b)
          (some_is (Some (f t)) (Some (g b))
          (sym (get-map (λ (x : HostTask). Some (f x)) s.tasks.items k t at) ∙ ap (λ (v : Vec HostTask Global). slice_get (map (λ (x : HostTask). Some (f x)) v.items) k) tasks_are
          ∙ ap (λ (l : List (Option _)). slice_get l k) same ∙ get-map (option_map g) slots k (Some b) there))

      is_back : Each (IsBack s) ds
      is_back d h =
          let k : ℕ = d.id.index in
          let long = length_tasks in
          let b = below d h in
          let found = get_below s.tasks.items k (omega arith) in
          record {
            task = found.0;
            at = found.1;
            id = tasks_is (λ (t : HostTask). t.id) (λ (x : Back). x.id) retasked.ids k found.0 (back_of d) found.1 (slot_at d h);
            host = tasks_is (λ (t : HostTask). t.host) (λ (x : Back). x.host) retasked.hosts k found.0 (back_of d) found.1 (slot_at d h);
            outputs = unmap_some (written_in s.gained.outputs) k d.outputs.items
                (ap (λ (l : List (Option (List Output))). slice_get l k) outputs_is ∙ get-map (option_map (λ (x : Back). x.outputs.items)) slots k (Some (back_of d)) (slot_at d h));
          }

      pub has_settled : (spill : List Parcel) → spill ≡ all_spilled works → IsPermutation (row_arrivals new) (map parcel_event spill ++ row_arrivals rows)
          → ((net : Net) → All (λ (p : Parcel). home net (parcel_event p) ≡ p.to.index) spill → AreAtHome net rows → AreAtHome net new)
          → ((all : List (order.Logged Line)) → lines_done ds ≡ map kept_line all → s.gained.lines.items ≡ map kept_line (in_order all)) → took_in s.gained.took ≡ took_by works → HasSettled count works rows s
      has_settled spill is moved theirs lines took =
          let parcels : map (λ (t : HostTask). t.parcels) s.tasks.items ≡ new = ap (λ (v : Vec HostTask Global). map (λ (t : HostTask). t.parcels) v.items) tasks_are ∙ retasked.parcels in
          record {
            tasks_count = length_tasks;
            outputs_count = sym (length-map (written_in s.gained.outputs) Some) ∙ ap length outputs_is ∙ length-map slots (option_map (λ (b : Back). b.outputs.items)) ∙ length_slots;
            hosts = All_from_Each (IsBack s) ds is_back;
            home = λ net to at. subst (AreAtHome net) (sym parcels) (theirs net (subst (All (λ (p : Parcel). home net (parcel_event p) ≡ p.to.index)) (sym is) to) at);
            packets = subst (λ (l : List (Vec Boxed Global)). IsPermutation (row_arrivals l) (map parcel_event (all_spilled works) ++ row_arrivals rows)) (sym parcels)
                (subst (λ (ps : List Parcel). IsPermutation (row_arrivals new) (map parcel_event ps ++ row_arrivals rows)) is moved);
            lines = lines;
            took = took;
          }
