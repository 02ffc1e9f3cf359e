-- Rounds as scenes, what holds in each of their states, and the steps that fire nothing.
use Rattle.std.proofs.Common.{◌≡◌, ◌≢◌, ℕ, zero, suc, ◌≤◌, ◌⊎◌, inl, inr, ⊎_elim, Bool, true, false, ◌&&◌, ◌||◌, not, List, [], ◌∷◌, ◌++◌, Option, Some, None, option_map, is_none, map, flat_map, option_to_list, slice_get, slice_set, nat_lt, refl, sym, ap, subst, ◌∙◌, rules, append_assoc, IsPermutation}
use Rattle.std.specs.Prelude.{if◌then◌else◌}
use Rattle.std.proofs.lemmas.Bool.{cases_eq}
use Rattle.std.proofs.lemmas.List.Sorted.{IsPermutation-refl, IsPermutation-sym, IsPermutation-trans, IsPermutation-append, IsPermutation-append_left, IsPermutation-append_right, IsPermutation-to_front}
use Rattle.sim_base.specs.declared.event.Event.{Event}
use Rattle.world_order.specs.EventOrder.{AreApart}
use Rattle.world_order.specs.Model.{Model}
use Rattle.world_order.specs.Round.{Stage, Waits, InHand, Done, Member, Worker, Round, events_of, packets_of, placed}
use Rattle.world_order.specs.Steps.{is_waiting, is_done, is_held, is_empty, has_due, first, held, with_member, take_host, put_packet, put_at, put_spill, put_place, give_back}
use Rattle.world_order.specs.World.{Logged}
use Rattle.world_order.specs.declared.step.Spot.{Spot}
use Rattle.world_order.specs.declared.step.Spot.TheVariants.{Place, Spill}
use Rattle.world_order.proofs.Apart.{AreApart_permutation}
use Rattle.world_order.proofs.Homes.{some_is, get_set_same, get_set_other}
use Rattle.world_order.proofs.Logs.{lines_with}
use Rattle.world_order.proofs.Members.{IsIn, Each, IsIn_permutation}
use Rattle.world_order.proofs.Parts.{same_order, second_first, part_same, part-more, part_less, from_then, from_map, from_given}
use Rattle.world_order.proofs.Scenes.{Scene, IsAlike}

both_true : (a b : Bool) → (a && b) ≡ true → (a ≡ true) × (b ≡ true)
both_true true b is = (refl, is)
both_true false b is = absurd (cc)

pub is_not : (b : Bool) → not b ≡ true → b ≡ false
is_not true is = absurd (cc)
is_not false is = refl

-- no event of the list is due
none_due : (end : ℕ) (es : List Event) → has_due end es ≡ false → Each (λ (e : Event). end ≤ e.key.due.nanos) es
none_due end [] is x h = absurd h
none_due end (e ∷ es) is x h = by_test (nat_lt e.key.due.nanos end) refl is (none_due end es) h
  where
    by_test : (b : Bool) → nat_lt e.key.due.nanos end ≡ b → (b || has_due end es) ≡ false
        → (has_due end es ≡ false → Each (λ (f : Event). end ≤ f.key.due.nanos) es) → (x ≡ e) ⊎ IsIn x es → end ≤ x.key.due.nanos
    by_test true due is more h = absurd (cc)
    by_test false due is more (inl same) = subst (λ (f : Event). end ≤ f.key.due.nanos) (sym same) (search rules)
    by_test false due is more (inr h) = more is x h

-- what holds of each of a list holds still when one changes, if it holds of that one
pub each_set : {X : Type 0} (P : ℕ → X → Type 0) (xs : List X) (i : ℕ) (x y : X) → slice_get xs i ≡ Some x → P i y → ((j : ℕ) (z : X) → slice_get xs j ≡ Some z → P j z)
    → (j : ℕ) (z : X) → slice_get (slice_set xs i y) j ≡ Some z → P j z
each_set P xs i x y is here others j z at = ⊎_elim
    (λ (same : j ≡ i).
    let there : y ≡ z = some_is y z (sym (ap (slice_get (slice_set xs i y)) same ∙ get_set_same xs i x y is) ∙ at) in
    subst (P j) there (subst (λ (k : ℕ). P k y) (sym same) here))
    (λ (other : j ≢ i). others j z (sym (get_set_other xs i j y other) ∙ at))
    (cases_eq j i)

pub map_same : {X Y : Type 0} (f : X → Y) (xs : List X) (i : ℕ) (x y : X) → slice_get xs i ≡ Some x → f y ≡ f x → map f (slice_set xs i y) ≡ map f xs
map_same f [] i x y is same = refl
map_same f (z ∷ zs) zero x y is same = ap (λ (l : List _). l) (λ k. (same ∙ ap f (sym (some_is z x is))) k ∷ map f zs)
map_same f (z ∷ zs) (suc i) x y is same = λ k. f z ∷ map_same f zs i x y is same k

module _ {H : Type 0} where
  -- the host in hand is in this worker's hand
  held_by : (w : ℕ) (y x : Member H) (ys : List (Member H)) (i : ℕ) (b : Bool) → is_held w y.stage ≡ b
      → ((j : ℕ) → held w ys ≡ Some j → slice_get ys j ≡ Some x → is_held w x.stage ≡ true)
      → (if b then Some 0 else option_map suc (held w ys)) ≡ Some i → slice_get (y ∷ ys) i ≡ Some x → is_held w x.stage ≡ true
  held_by w y x ys i true is more at get =
      let place : 0 ≡ i = some_is 0 i at in
      let same : y ≡ x = some_is y x (subst (λ (j : ℕ). slice_get (y ∷ ys) j ≡ Some x) (sym place) get) in
      subst (λ (z : Member H). is_held w z.stage ≡ true) same is
  held_by w y x ys i false is more at get =
      let m = from_map (held w ys) suc i at in
      more m.0 m.1 (subst (λ (j : ℕ). slice_get (y ∷ ys) j ≡ Some x) (sym m.2) get)

  pub held_stage : (w : ℕ) (xs : List (Member H)) (x : Member H) (i : ℕ) → held w xs ≡ Some i → slice_get xs i ≡ Some x → is_held w x.stage ≡ true
  held_stage w [] x i at get = absurd (let e : None ≡ Some i = at in cc)
  held_stage w (y ∷ ys) x i at get = held_by w y x ys i (is_held w y.stage) refl (held_stage w ys x) at get

pub held_not_done : (w : ℕ) (s : Stage) → is_held w s ≡ true → is_done s ≡ true → ⊥
held_not_done w Waits is done = absurd (cc)
held_not_done w (InHand v) is done = absurd (cc)
held_not_done w Done is done = absurd (cc)

hand_first : (worker : Worker) (p : Event × List Event) → first worker.hand ≡ Some p → worker.hand ≡ p.0 ∷ p.1
hand_first worker p is = by_hand worker.hand is
  where
    by_hand : (hand : List Event) → first hand ≡ Some p → hand ≡ p.0 ∷ p.1
    by_hand [] is = absurd (cc)
    by_hand (x ∷ xs) is = let same : (x, xs) ≡ p = cc in λ i. (same i).0 ∷ (same i).1

-- a free place gets a packet
placed_more : (places : List (Option Event)) (place : ℕ) (packet : Event) → slice_get places place ≡ Some None → IsPermutation (placed (slice_set places place (Some packet))) ((packet ∷ []) ++ placed places)
placed_more places place packet free = part-more option_to_list places place None (Some packet) (packet ∷ []) free (IsPermutation-refl (packet ∷ []))

none_kept : (o : Option Event) → is_none o ≡ true → o ≡ None
none_kept None is = refl
none_kept (Some e) is = absurd (cc)

module _ {H L : Type 0} where
  -- a round as a scene, with the lines of the log before it in front
  abbrev pub hosts_of : Round H L → List H
  hosts_of r = map (λ (x : Member H). x.host) r.members

  abbrev pub round_scene : List (Logged L) → Round H L → Scene H L
  round_scene front r = record { hosts = hosts_of r; holds = λ x. IsIn x (events_of r); lines = λ k. lines_with k front ++ lines_with k r.lines }

  abbrev pub queues_of : Round H L → List Event
  queues_of r = flat_map (λ (x : Member H). x.queue) r.members

  abbrev pub places_of : Round H L → List Event
  places_of r = flat_map (λ (x : Member H). placed x.places) r.members

  abbrev pub carried_of : Round H L → List Event
  carried_of r = flat_map (λ (worker : Worker). worker.hand ++ worker.spill) r.workers

  -- ---- what holds in each state

  pub record IsMember (m : Model H L) (end : ℕ) (i : ℕ) (x : Member H) : Type 0 where
    pub home : Each (λ (e : Event). m.home e ≡ i) x.queue
    pub done : is_done x.stage ≡ true → Each (λ (e : Event). end ≤ e.key.due.nanos) x.queue

  pub record IsGood (m : Model H L) (end : ℕ) (r : Round H L) : Type 0 where
    pub end_is : r.end ≡ end
    pub members : (i : ℕ) (x : Member H) → slice_get r.members i ≡ Some x → IsMember m end i x
    pub late : Each (λ (e : Event). end ≤ e.key.due.nanos) (packets_of r)
    pub apart : AreApart (events_of r)

  -- ---- steps that fire nothing

  pub record IsQuiet (r u : Round H L) : Type 0 where
    pub end_is : u.end ≡ r.end
    pub hosts : hosts_of u ≡ hosts_of r
    pub queues : queues_of u ≡ queues_of r
    pub packets : IsPermutation (packets_of r) (packets_of u)
    pub lines : u.lines ≡ r.lines

  pub quiet_events : (r u : Round H L) → IsQuiet r u → IsPermutation (events_of r) (events_of u)
  quiet_events r u q = IsPermutation-append (queues_of r) (queues_of u) (packets_of r) (packets_of u) (same_order (queues_of r) (queues_of u) (sym q.queues)) q.packets

  pub quiet_alike : (front : List (Logged L)) (r u : Round H L) → IsQuiet r u → IsAlike (round_scene front r) (round_scene front u)
  quiet_alike front r u q = record {
    hosts = sym q.hosts;
    into = λ x h. IsIn_permutation x (events_of r) (events_of u) (quiet_events r u q) h;
    back = λ x h. IsIn_permutation x (events_of u) (events_of r) (IsPermutation-sym (events_of r) (events_of u) (quiet_events r u q)) h;
    lines = λ k. ap (λ (ls : List (Logged L)). lines_with k front ++ lines_with k ls) (sym q.lines);
  }

  pub quiet_good : (m : Model H L) (end : ℕ) (r u : Round H L) → IsQuiet r u → IsGood m end r → ((i : ℕ) (x : Member H) → slice_get u.members i ≡ Some x → IsMember m end i x) → IsGood m end u
  quiet_good m end r u q good members = record {
    end_is = q.end_is ∙ good.end_is;
    members = members;
    late = λ x h. good.late x (IsIn_permutation x (packets_of u) (packets_of r) (IsPermutation-sym (packets_of r) (packets_of u) q.packets) h);
    apart = AreApart_permutation (events_of r) (events_of u) (quiet_events r u q) good.apart;
  }

  -- a step that fires nothing leaves the round like it was, and good
  abbrev pub Keeps : Model H L → ℕ → Round H L → Round H L → Type 0
  Keeps m end r u = IsQuiet r u × IsGood m end u

  -- a host's stage changes
  stage_keeps : (m : Model H L) (end : ℕ) (r : Round H L) (number : ℕ) (x : Member H) (stage : Stage) → slice_get r.members number ≡ Some x → IsGood m end r
      → (is_done stage ≡ true → Each (λ (e : Event). end ≤ e.key.due.nanos) x.queue) → Keeps m end r (with_member number (record x { stage = stage }) r)
  stage_keeps m end r number x stage at good done =
      let y : Member H = record x { stage = stage } in
      let u : Round H L = with_member number y r in
      let q : IsQuiet r u = record {
        end_is = refl;
        hosts = map_same (λ (x : Member H). x.host) r.members number x y at refl;
        queues = part_same (λ (x : Member H). x.queue) r.members number x y at refl;
        packets = same_order (packets_of r) (packets_of u) (ap (λ (ps : List Event). ps ++ carried_of r) (sym (part_same (λ (x : Member H). placed x.places) r.members number x y at refl)));
        lines = refl;
      } in
      (q, quiet_good m end r u q good (each_set (IsMember m end) r.members number x y at (record { home = (good.members number x at).home; done = done }) good.members))

  pub take_keeps : (m : Model H L) (end w number : ℕ) (r u : Round H L) → IsGood m end r → take_host w number r ≡ Some u → Keeps m end r u
  take_keeps m end w number r u good is =
      let a = from_then (slice_get r.workers w) _ u is in
      let b = from_then (slice_get r.members number) _ u a.2 in
      let c = from_given (is_waiting b.0.stage && is_none (held w r.members)) _ u b.2 in
      subst (Keeps m end r) c.1 (stage_keeps m end r number b.0 (InHand w) b.1 good (λ d. absurd (cc)))

  pub back_keeps : (m : Model H L) (end w : ℕ) (r u : Round H L) → IsGood m end r → give_back w r ≡ Some u → Keeps m end r u
  back_keeps m end w r u good is =
      let a = from_then (held w r.members) _ u is in
      let b = from_then (slice_get r.members a.0) _ u a.2 in
      let c = from_then (slice_get r.workers w) _ u b.2 in
      let d = from_given (not (has_due r.end b.0.queue) && is_empty c.0.hand) _ u c.2 in
      let none : has_due r.end b.0.queue ≡ false = is_not (has_due r.end b.0.queue) (both_true (not (has_due r.end b.0.queue)) (is_empty c.0.hand) d.0).0 in
      subst (Keeps m end r) d.1 (stage_keeps m end r a.0 b.0 Done b.1 good
      (λ done. subst (λ (n : ℕ). Each (λ (e : Event). n ≤ e.key.due.nanos) b.0.queue) good.end_is (none_due r.end b.0.queue none)))

  -- ---- a packet is put

  spill_keeps : (m : Model H L) (end w : ℕ) (r : Round H L) (worker : Worker) (packet : Event) (rest : List Event) → IsGood m end r → slice_get r.workers w ≡ Some worker
      → worker.hand ≡ packet ∷ rest → Keeps m end r (put_spill w worker packet rest r)
  spill_keeps m end w r worker packet rest good at hand =
      let new : Worker = record { hand = rest; spill = worker.spill ++ packet ∷ [] } in
      let u : Round H L = put_spill w worker packet rest r in
      let moved : IsPermutation (worker.hand ++ worker.spill) (rest ++ (worker.spill ++ packet ∷ [])) =
      subst (λ (h : List Event). IsPermutation (h ++ worker.spill) (rest ++ (worker.spill ++ packet ∷ []))) (sym hand)
      (IsPermutation-trans (packet ∷ (rest ++ worker.spill)) ((rest ++ worker.spill) ++ packet ∷ []) (rest ++ (worker.spill ++ packet ∷ []))
      (IsPermutation-sym ((rest ++ worker.spill) ++ packet ∷ []) (packet ∷ (rest ++ worker.spill)) (IsPermutation-to_front (rest ++ worker.spill) packet))
      (same_order ((rest ++ worker.spill) ++ packet ∷ []) (rest ++ (worker.spill ++ packet ∷ [])) (append_assoc rest worker.spill (packet ∷ [])))) in
      let q : IsQuiet r u = record {
        end_is = refl;
        hosts = refl;
        queues = refl;
        packets = IsPermutation-append_right (places_of r) (carried_of r) (carried_of u)
            (part_less (λ (worker : Worker). worker.hand ++ worker.spill) r.workers w worker new [] at moved);
        lines = refl;
      } in
      (q, quiet_good m end r u q good good.members)

  place_keeps : (m : Model H L) (end w number place : ℕ) (r : Round H L) (worker : Worker) (x : Member H) (packet : Event) (rest : List Event) → IsGood m end r
      → slice_get r.workers w ≡ Some worker → slice_get r.members number ≡ Some x → slice_get x.places place ≡ Some None
      → worker.hand ≡ packet ∷ rest → Keeps m end r (put_place w worker packet rest number place x r)
  place_keeps m end w number place r worker x packet rest good at there free hand =
      let y : Member H = record x { places = slice_set x.places place (Some packet) } in
      let new : Worker = record worker { hand = rest } in
      let u : Round H L = put_place w worker packet rest number place x r in
      let more : IsPermutation (places_of u) (packet ∷ places_of r) =
      part-more (λ (x : Member H). placed x.places) r.members number x y (packet ∷ []) there (placed_more x.places place packet free) in
      let less : IsPermutation (carried_of r) (packet ∷ carried_of u) =
      part_less (λ (worker : Worker). worker.hand ++ worker.spill) r.workers w worker new (packet ∷ []) at
      (same_order (worker.hand ++ worker.spill) (packet ∷ (rest ++ worker.spill)) (ap (λ (h : List Event). h ++ worker.spill) hand)) in
      let moved : IsPermutation (packets_of r) (packets_of u) =
      IsPermutation-trans (places_of r ++ carried_of r) (places_of r ++ (packet ∷ carried_of u)) (places_of u ++ carried_of u)
      (IsPermutation-append_right (places_of r) (carried_of r) (packet ∷ carried_of u) less)
      (IsPermutation-trans (places_of r ++ (packet ∷ carried_of u)) ((packet ∷ places_of r) ++ carried_of u) (places_of u ++ carried_of u)
      (second_first (places_of r) (packet ∷ []) (carried_of u))
      (IsPermutation-append_left (carried_of u) (packet ∷ places_of r) (places_of u) (IsPermutation-sym (places_of u) (packet ∷ places_of r) more))) in
      let q : IsQuiet r u = record {
        end_is = refl;
        hosts = map_same (λ (x : Member H). x.host) r.members number x y there refl;
        queues = part_same (λ (x : Member H). x.queue) r.members number x y there refl;
        packets = moved;
        lines = refl;
      } in
      (q, quiet_good m end r u q good (each_set (IsMember m end) r.members number x y there (record { home = (good.members number x there).home; done = (good.members number x there).done }) good.members))

  put_at_keeps : (m : Model H L) (end w : ℕ) (spot : Spot) (r u : Round H L) (worker : Worker) (packet : Event) (rest : List Event) → IsGood m end r → slice_get r.workers w ≡ Some worker
      → worker.hand ≡ packet ∷ rest → put_at m w worker packet rest spot r ≡ Some u → Keeps m end r u
  put_at_keeps m end w Spill r u worker packet rest good at hand is =
      subst (Keeps m end r) (some_is (put_spill w worker packet rest r) u is) (spill_keeps m end w r worker packet rest good at hand)
  put_at_keeps m end w (Place place) r u worker packet rest good at hand is =
      let a = from_then (slice_get r.members (m.home packet)) _ u is in
      let b = from_then (slice_get a.0.places place) _ u a.2 in
      let c = from_given (is_none b.0) _ u b.2 in
      let free : slice_get a.0.places place ≡ Some None = b.1 ∙ ap Some (none_kept b.0 c.0) in
      subst (Keeps m end r) c.1 (place_keeps m end w (m.home packet) place r worker a.0 packet rest good at a.1 free hand)

  pub put_keeps : (m : Model H L) (end w : ℕ) (spot : Spot) (r u : Round H L) → IsGood m end r → put_packet m w spot r ≡ Some u → Keeps m end r u
  put_keeps m end w spot r u good is =
      let a = from_then (slice_get r.workers w) _ u is in
      let b = from_then (first a.0.hand) _ u a.2 in
      put_at_keeps m end w spot r u a.0 b.0.0 b.0.1 good a.1 (hand_first a.0 b.0 b.1) b.2
