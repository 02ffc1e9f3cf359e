-- The step that fires an event is a firing of the scene.
use Rattle.std.proofs.Common.{◌≡◌, ◌≢◌, ℕ, zero, suc, ◌<◌, ◌≤◌, inr, ⊎_elim, true, false, not, ◌==◌, List, [], ◌∷◌, ◌++◌, Some, None, map, flat_map, filter, slice_get, slice_set, nat_lt, refl, sym, ap, subst, ◌∙◌, arith, rules, append_assoc, IsPermutation, eqb-true, eq-eqb, true≢false}
use Rattle.std.proofs.lemmas.List.{map-set}
use Rattle.std.proofs.lemmas.List.Sorted.{IsPermutation-sym, IsPermutation-trans, IsPermutation-append, IsPermutation-append_left, IsPermutation-append_right, IsPermutation-append_comm, IsPermutation-filter_both}
use Rattle.sim_base.specs.declared.event.Event.{Event}
use Rattle.world_order.specs.EventOrder.{take_least, is_before, AreApart}
use Rattle.world_order.specs.Model.{Fired, Firing, fires, with_host}
use Rattle.world_order.specs.Premises.{Simulation}
use Rattle.world_order.specs.Round.{Member, Worker, Round, events_of, packets_of, events_at, placed}
use Rattle.world_order.specs.Steps.{is_held, held, Ready, ready, after_fire}
use Rattle.world_order.specs.World.{Logged, logged}
use Rattle.world_order.proofs.Apart.{AreApart_permutation, rest_apart, apart_append}
use Rattle.world_order.proofs.Firings.{Known, numbered_apart, made_anew}
use Rattle.world_order.proofs.Homes.{some_is, fires_is}
use Rattle.world_order.proofs.Keys.{due_before, one_way}
use Rattle.world_order.proofs.Least.{take_least_least, take_least_IsPermutation, take_least_there}
use Rattle.world_order.proofs.Logs.{lines_with, lines_with_append, lines_with_logged}
use Rattle.world_order.proofs.Members.{IsIn, Each, Each-append, IsIn_permutation, IsIn_left, IsIn_either, IsIn_filter_from}
use Rattle.world_order.proofs.Parts.{same_order, second_first, others, part, part_set, part_same, part-more, from_then, from_given}
use Rattle.world_order.proofs.RoundStates.{round_scene, hosts_of, queues_of, places_of, carried_of, IsMember, IsGood, each_set, held_stage, held_not_done, is_not}
use Rattle.world_order.proofs.Scenes.{IsAlike, MayFire, turned, IsSound, IsWithin, fire_known, made_late, own_lines}
use Rattle.world_order.proofs.Worlds.{held_after, held_before}

-- a member of parts is in one of them
pub part_in : {X Y : Type 0} (f : X → List Y) (xs : List X) (y : Y) → IsIn y (flat_map f xs) → (i : ℕ) × (x : X) × (slice_get xs i ≡ Some x) × IsIn y (f x)
part_in f [] y h = absurd h
part_in f (x ∷ xs) y h = ⊎_elim
    (λ (here : IsIn y (f x)). (0, x, refl, here))
    (λ (rest : IsIn y (flat_map f xs)). let m = part_in f xs y rest in (suc m.0, m.1, m.2, m.3))
    (IsIn_either y (f x) (flat_map f xs) h)

pub in_part : {X Y : Type 0} (f : X → List Y) (xs : List X) (i : ℕ) (x : X) (y : Y) → slice_get xs i ≡ Some x → IsIn y (f x) → IsIn y (flat_map f xs)
in_part f xs i x y at h = IsIn_permutation y (f x ++ others f xs i) (flat_map f xs) (IsPermutation-sym (flat_map f xs) (f x ++ others f xs i) (part f xs i x at)) (IsIn_left y (f x) (others f xs i) h)

pub get-map : {X Y : Type 0} (f : X → Y) (xs : List X) (i : ℕ) (x : X) → slice_get xs i ≡ Some x → slice_get (map f xs) i ≡ Some (f x)
get-map f [] i x is = absurd (let e : None ≡ Some x = is in cc)
get-map f (y ∷ ys) zero x is = ap (λ (z : _). Some (f z)) (some_is y x is)
get-map f (y ∷ ys) (suc i) x is = get-map f ys i x is

module _ {X : Type 0} where
  -- what is taken out of the front and what joins
  gathered : (own rest packets more made : List X) → IsPermutation made (own ++ packets) → IsPermutation ((own ++ rest) ++ (packets ++ more)) ((rest ++ more) ++ made)
  gathered own rest packets more made is =
      IsPermutation-trans ((own ++ rest) ++ (packets ++ more)) (own ++ (rest ++ (packets ++ more))) ((rest ++ more) ++ made)
      (same_order ((own ++ rest) ++ (packets ++ more)) (own ++ (rest ++ (packets ++ more))) (append_assoc own rest (packets ++ more)))
      (IsPermutation-trans (own ++ (rest ++ (packets ++ more))) (own ++ (packets ++ (rest ++ more))) ((rest ++ more) ++ made)
      (IsPermutation-append_right own (rest ++ (packets ++ more)) (packets ++ (rest ++ more)) (second_first rest packets more))
      (IsPermutation-trans (own ++ (packets ++ (rest ++ more))) ((own ++ packets) ++ (rest ++ more)) ((rest ++ more) ++ made)
      (same_order (own ++ (packets ++ (rest ++ more))) ((own ++ packets) ++ (rest ++ more)) (sym (append_assoc own packets (rest ++ more))))
      (IsPermutation-trans ((own ++ packets) ++ (rest ++ more)) ((rest ++ more) ++ (own ++ packets)) ((rest ++ more) ++ made)
      (IsPermutation-append_comm (own ++ packets) (rest ++ more))
      (IsPermutation-append_right (rest ++ more) (own ++ packets) made (IsPermutation-sym made (own ++ packets) is)))))

-- ---- who is ready to fire

module _ {H L : Type 0} where
  pub record IsReady (w : ℕ) (r : Round H L) (t : Ready H) : Type 0 where
    pub member_at : slice_get r.members t.number ≡ Some t.member
    pub in_hand : is_held w t.member.stage ≡ true
    pub worker_at : slice_get r.workers w ≡ Some t.worker
    pub taken : take_least t.member.queue ≡ Some (t.event, t.rest)
    pub due : t.event.key.due.nanos < r.end

  pub ready_is : (w : ℕ) (r : Round H L) (t : Ready H) → ready w r ≡ Some t → IsReady w r t
  ready_is w r t is =
      let a = from_then (held w r.members) _ t is in
      let b = from_then (slice_get r.members a.0) _ t a.2 in
      let c = from_then (slice_get r.workers w) _ t b.2 in
      let d = from_then (take_least b.0.queue) _ t c.2 in
      let e = from_given (nat_lt d.0.0.key.due.nanos r.end) _ t d.2 in
      let due : nat_lt d.0.0.key.due.nanos r.end ≡ true = e.0 in
      subst (IsReady w r) e.1 (record {
        member_at = b.1;
        in_hand = held_stage w r.members b.0 a.0 a.1 b.1;
        worker_at = c.1;
        taken = d.1;
        due = search rules;
      })

  module _ (sim : Simulation H L) (start end : ℕ) (within : IsWithin sim.lookahead start end) (front : List (Logged L))
      (w : ℕ) (r : Round H L) (t : Ready H) (good : IsGood sim.model end r) (sound : IsSound sim start end (round_scene front r)) (is : IsReady w r t) where
    there : IsIn t.event t.member.queue
    there = take_least_there t.member.queue (t.event, t.rest) is.taken

    home_is : sim.model.home t.event ≡ t.number
    home_is = (good.members t.number t.member is.member_at).home t.event there

    -- ---- it may fire

    no_packet_first : (x : Event) → IsIn x (packets_of r) → is_before x t.event ≡ false
    no_packet_first x h =
        let late : end ≤ x.key.due.nanos = good.late x h in
        let due : t.event.key.due.nanos < r.end = is.due in
        let end_is : r.end ≡ end = good.end_is in
        one_way t.event.key x.key (due_before t.event.key x.key (omega arith))

    no_other_first : (x : Event) → IsIn x (queues_of r) → sim.model.home x ≡ sim.model.home t.event → is_before x t.event ≡ false
    no_other_first x h same =
        let m = part_in (λ (x : Member H). x.queue) r.members x h in
        let place : m.0 ≡ t.number = sym ((good.members m.0 m.1 m.2).home x m.3) ∙ same ∙ home_is in
        let member : m.1 ≡ t.member = some_is m.1 t.member (sym m.2 ∙ ap (slice_get r.members) place ∙ is.member_at) in
        take_least_least t.member.queue (t.event, t.rest) is.taken x (subst (λ (y : Member H). IsIn x y.queue) member m.3)

    pub ready_may : MayFire sim.model end t.event (round_scene front r)
    ready_may = record {
      there = IsIn_left t.event (queues_of r) (packets_of r) (in_part (λ (x : Member H). x.queue) r.members t.number t.member t.event is.member_at there);
      due = (let due : t.event.key.due.nanos < r.end = is.due in let end_is : r.end ≡ end = good.end_is in omega arith);
      first = λ x h same. ⊎_elim (λ (q : IsIn x (queues_of r)). no_other_first x q same) (λ (p : IsIn x (packets_of r)). no_packet_first x p) (IsIn_either x (queues_of r) (packets_of r) h);
    }

    -- ---- what it leaves

    firing_is : fires sim.model (hosts_of r) t.event ≡ with_host (hosts_of r) t.number (sim.model.fire t.number t.member.host t.event)
    firing_is =
        let at : slice_get (hosts_of r) (sim.model.home t.event) ≡ Some t.member.host =
        ap (slice_get (hosts_of r)) home_is ∙ get-map (λ (x : Member H). x.host) r.members t.number t.member is.member_at in
        fires_is sim.model (hosts_of r) t.event t.member.host at
        ∙ ap (λ (n : ℕ). with_host (hosts_of r) n (sim.model.fire n t.member.host t.event)) home_is

    made_is : (fires sim.model (hosts_of r) t.event).made ≡ (sim.model.fire t.number t.member.host t.event).made
    made_is = ap (λ (g : Firing H L). g.made) firing_is

    module _ (f : Fired H L) (f_is : f ≡ sim.model.fire t.number t.member.host t.event) where
      abbrev new : Member H
      new = record (t.member) { host = f.host; queue = t.rest ++ events_at sim.model t.number f.made }

      abbrev own : List Event
      own = events_at sim.model t.number f.made

      abbrev packets : List Event
      packets = filter (λ e. not (sim.model.home e == t.number)) f.made

      abbrev after : Round H L
      after = after_fire sim.model w r t f

      abbrev left : List Event
      left = t.rest ++ others (λ (x : Member H). x.queue) r.members t.number

      all_made : IsPermutation f.made (own ++ packets)
      all_made = IsPermutation-filter_both (λ (e : Event). sim.model.home e == t.number) (λ (e : Event). not (sim.model.home e == t.number)) (λ e. refl) f.made

      queues_before : IsPermutation (queues_of r) (t.event ∷ left)
      queues_before =
          IsPermutation-trans (queues_of r) (t.member.queue ++ others (λ (x : Member H). x.queue) r.members t.number) (t.event ∷ left)
          (part (λ (x : Member H). x.queue) r.members t.number t.member is.member_at)
          (IsPermutation-append_left (others (λ (x : Member H). x.queue) r.members t.number) t.member.queue (t.event ∷ t.rest) (take_least_IsPermutation t.member.queue (t.event, t.rest) is.taken))

      queues_after : IsPermutation (queues_of after) (own ++ left)
      queues_after =
          let rest_of : List Event = others (λ (x : Member H). x.queue) r.members t.number in
          IsPermutation-trans (queues_of after) ((t.rest ++ own) ++ rest_of) (own ++ left)
          (part_set (λ (x : Member H). x.queue) r.members t.number t.member new is.member_at)
          (IsPermutation-trans ((t.rest ++ own) ++ rest_of) ((own ++ t.rest) ++ rest_of) (own ++ left)
          (IsPermutation-append_left rest_of (t.rest ++ own) (own ++ t.rest) (IsPermutation-append_comm t.rest own))
          (same_order ((own ++ t.rest) ++ rest_of) (own ++ left) (append_assoc own t.rest rest_of)))

      places_same : places_of after ≡ places_of r
      places_same = part_same (λ (x : Member H). placed x.places) r.members t.number t.member new is.member_at refl

      hand_more : IsPermutation ((t.worker.hand ++ packets) ++ t.worker.spill) (packets ++ (t.worker.hand ++ t.worker.spill))
      hand_more =
          IsPermutation-trans ((t.worker.hand ++ packets) ++ t.worker.spill) ((packets ++ t.worker.hand) ++ t.worker.spill) (packets ++ (t.worker.hand ++ t.worker.spill))
          (IsPermutation-append_left t.worker.spill (t.worker.hand ++ packets) (packets ++ t.worker.hand) (IsPermutation-append_comm t.worker.hand packets))
          (same_order ((packets ++ t.worker.hand) ++ t.worker.spill) (packets ++ (t.worker.hand ++ t.worker.spill)) (append_assoc packets t.worker.hand t.worker.spill))

      carried_more : IsPermutation (carried_of after) (packets ++ carried_of r)
      carried_more =
          part-more (λ (worker : Worker). worker.hand ++ worker.spill) r.workers w t.worker (record (t.worker) { hand = t.worker.hand ++ packets }) packets is.worker_at hand_more

      pub packets_more : IsPermutation (packets_of after) (packets ++ packets_of r)
      packets_more =
          IsPermutation-trans (places_of after ++ carried_of after) (places_of r ++ (packets ++ carried_of r)) (packets ++ (places_of r ++ carried_of r))
          (IsPermutation-append (places_of after) (places_of r) (carried_of after) (packets ++ carried_of r) (same_order (places_of after) (places_of r) places_same) carried_more)
          (second_first (places_of r) packets (carried_of r))

      events_before : IsPermutation (events_of r) (t.event ∷ (left ++ packets_of r))
      events_before = IsPermutation-append_left (packets_of r) (queues_of r) (t.event ∷ left) queues_before

      events_after : IsPermutation (events_of after) ((left ++ packets_of r) ++ f.made)
      events_after =
          IsPermutation-trans (queues_of after ++ packets_of after) ((own ++ left) ++ (packets ++ packets_of r)) ((left ++ packets_of r) ++ f.made)
          (IsPermutation-append (queues_of after) (own ++ left) (packets_of after) (packets ++ packets_of r) queues_after packets_more)
          (gathered own left packets (packets_of r) f.made all_made)

      made_same : (fires sim.model (hosts_of r) t.event).made ≡ f.made
      made_same = made_is ∙ ap (λ (g : Fired H L). g.made) (sym f_is)

      pub fire_alike : IsAlike (turned sim.model t.event (round_scene front r)) (round_scene front after)
      fire_alike =
          let made : List Event = (fires sim.model (hosts_of r) t.event).made in
          let events : IsPermutation (events_of after) ((left ++ packets_of r) ++ made) = subst (λ (l : List Event). IsPermutation (events_of after) ((left ++ packets_of r) ++ l)) (sym made_same) events_after in
          record {
            hosts = ap (λ (g : Firing H L). g.hosts) firing_is ∙ ap (λ (g : Fired H L). slice_set (hosts_of r) t.number g.host) (sym f_is) ∙ sym (map-set (λ (x : Member H). x.host) r.members t.number new);
            into = held_after (events_of r) (left ++ packets_of r) (events_of after) made t.event good.apart events_before events;
            back = held_before (events_of r) (left ++ packets_of r) (events_of after) made t.event good.apart events_before events;
            lines = λ k.
                append_assoc (lines_with k front) (lines_with k r.lines) (own_lines k t.event.key (fires sim.model (hosts_of r) t.event).lines)
                ∙ ap (λ (g : Firing H L). lines_with k front ++ (lines_with k r.lines ++ own_lines k t.event.key g.lines)) firing_is
                ∙ ap (λ (g : Fired H L). lines_with k front ++ (lines_with k r.lines ++ own_lines k t.event.key g.lines)) (sym f_is)
                ∙ ap (λ (ls : List L). lines_with k front ++ (lines_with k r.lines ++ ls)) (sym (lines_with_logged k t.event.key f.lines))
                ∙ ap (λ (ls : List L). lines_with k front ++ ls) (sym (lines_with_append k r.lines (logged t.event.key f.lines)));
          }

      -- ---- and what holds of the round still does

      known_of : Known sim (hosts_of r) t.event (fires sim.model (hosts_of r) t.event)
      known_of = fire_known sim start end within t.event (round_scene front r) sound ready_may

      in_made : (x : Event) → IsIn x f.made → IsIn x (fires sim.model (hosts_of r) t.event).made
      in_made x h = subst (IsIn x) (sym made_same) h

      elsewhere : (x : Event) → IsIn x packets → sim.model.home x ≢ sim.model.home t.event
      elsewhere x h same =
          let p = IsIn_filter_from (λ (e : Event). not (sim.model.home e == t.number)) x f.made h in
          true≢false (sym (eq-eqb (sim.model.home x) t.number (same ∙ home_is)) ∙ is_not (sim.model.home x == t.number) p.1)

      packets_late : Each (λ (e : Event). end ≤ e.key.due.nanos) packets
      packets_late x h =
          made_late sim start end within t.event (round_scene front r) sound ready_may x
          (in_made x (IsIn_filter_from (λ (e : Event). not (sim.model.home e == t.number)) x f.made h).0) (elsewhere x h)

      new_home : Each (λ (e : Event). sim.model.home e ≡ t.number) new.queue
      new_home = Each-append (λ (e : Event). sim.model.home e ≡ t.number) t.rest own
          (λ x h. (good.members t.number t.member is.member_at).home x
          (IsIn_permutation x (t.event ∷ t.rest) t.member.queue (IsPermutation-sym t.member.queue (t.event ∷ t.rest) (take_least_IsPermutation t.member.queue (t.event, t.rest) is.taken)) (inr h)))
          (λ x h. eqb-true (sim.model.home x) t.number (IsIn_filter_from (λ (e : Event). sim.model.home e == t.number) x f.made h).1)

      pub fire_good : IsGood sim.model end after
      fire_good = record {
        end_is = good.end_is;
        members = each_set (IsMember sim.model end) r.members t.number t.member new is.member_at
            (record { home = new_home; done = λ d. absurd (held_not_done w t.member.stage is.in_hand d) }) good.members;
        late = λ x h. Each-append (λ (e : Event). end ≤ e.key.due.nanos) packets (packets_of r) packets_late good.late x
            (IsIn_permutation x (packets_of after) (packets ++ packets_of r) packets_more h);
        apart = AreApart_permutation ((left ++ packets_of r) ++ f.made) (events_of after) (IsPermutation-sym (events_of after) ((left ++ packets_of r) ++ f.made) events_after)
            (apart_append (left ++ packets_of r) f.made
            (rest_apart t.event (left ++ packets_of r) (AreApart_permutation (events_of r) (t.event ∷ (left ++ packets_of r)) events_before good.apart))
            (subst AreApart made_same (numbered_apart _ _ _ known_of.numbered))
            (λ x h g in_f. made_anew sim (hosts_of r) t.event known_of x g
            (sound.below x (IsIn_permutation x (t.event ∷ (left ++ packets_of r)) (events_of r) (IsPermutation-sym (events_of r) (t.event ∷ (left ++ packets_of r)) events_before) (inr h)))
            (in_made g in_f)));
      }
