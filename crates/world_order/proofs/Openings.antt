-- A round that is opened on a world is the world as a scene.
use Rattle.std.proofs.Common.{◌≡◌, ◌≢◌, ℕ, zero, suc, ◌+◌, ◌<◌, ◌≤◌, ⊎_elim, Bool, true, false, ◌==◌, List, [], ◌∷◌, ◌++◌, Some, None, map, flat_map, replicate, filter, slice_get, length, refl, sym, ap, subst, ◌∙◌, arith, append-nil, eqb-true, eq-eqb}
use Rattle.std.specs.Prelude.{if◌then◌else◌}
use Rattle.std.proofs.lemmas.Bool.{cases_eq}
use Rattle.sim_base.specs.declared.event.Event.{Event}
use Rattle.sim_base.specs.declared.key.Key.{Key}
use Rattle.world_order.specs.EventOrder.{AreApart, copies}
use Rattle.world_order.specs.Model.{Model}
use Rattle.world_order.specs.Round.{Waits, Member, Worker, opened, opened_from, events_at, events_of, packets_of, placed, place_count}
use Rattle.world_order.specs.Steps.{is_done}
use Rattle.world_order.specs.World.{World}
use Rattle.world_order.proofs.Apart.{one_of_key, apart_append}
use Rattle.world_order.proofs.Homes.{some_is}
use Rattle.world_order.proofs.Logs.{lines_with}
use Rattle.world_order.proofs.Members.{IsIn, Each, IsIn_left, IsIn_right, IsIn_either, IsIn_filter, IsIn_filter_from}
use Rattle.world_order.proofs.RoundStates.{round_scene, queues_of, carried_of, IsGood}
use Rattle.world_order.proofs.Scenes.{IsAlike}
use Rattle.world_order.proofs.Worlds.{scene_of}

-- ---- no place has an event, nor has a worker

empty_places : (n : ℕ) → placed (replicate n None) ≡ []
empty_places zero = refl
empty_places (suc n) = empty_places n

empty_workers : (n : ℕ) → flat_map (λ (worker : Worker). worker.hand ++ worker.spill) (replicate n (record { hand = []; spill = [] })) ≡ []
empty_workers zero = refl
empty_workers (suc n) = empty_workers n

module _ {H L : Type 0} (m : Model H L) (events : List Event) where
  empty_members : (number : ℕ) (hosts : List H) → flat_map (λ (x : Member H). placed x.places) (opened_from m events number hosts) ≡ []
  empty_members number [] = refl
  empty_members number (host ∷ hosts) = ap (λ (ps : List Event). ps ++ flat_map (λ (x : Member H). placed x.places) (opened_from m events (suc number) hosts)) (empty_places place_count) ∙ empty_members (suc number) hosts

  pub hosts_opened : (number : ℕ) (hosts : List H) → map (λ (x : Member H). x.host) (opened_from m events number hosts) ≡ hosts
  hosts_opened number [] = refl
  hosts_opened number (host ∷ hosts) = ap (λ (l : List H). host ∷ l) (hosts_opened (suc number) hosts)

  -- ---- a host has its own events

  pub member_opened : (number : ℕ) (hosts : List H) (i : ℕ) (x : Member H) → slice_get (opened_from m events number hosts) i ≡ Some x
      → (x.queue ≡ events_at m (number + i) events) × (x.stage ≡ Waits)
  member_opened number [] i x at = absurd (let e : None ≡ Some x = at in cc)
  member_opened number (host ∷ hosts) zero x at =
      let same = some_is _ x at in
      (sym (ap (λ (y : Member H). y.queue) same) ∙ ap (λ (n : ℕ). events_at m n events) (let e : number ≡ number + 0 = omega arith in e), sym (ap (λ (y : Member H). y.stage) same))
  member_opened number (host ∷ hosts) (suc i) x at =
      let r = member_opened (suc number) hosts i x at in
      (r.0 ∙ ap (λ (n : ℕ). events_at m n events) (let e : suc number + i ≡ number + suc i = omega arith in e), r.1)

  -- each event of a host that is there is in its queue
  in_opened : (number : ℕ) (hosts : List H) (e : Event) → IsIn e events → number ≤ m.home e → m.home e < number + length hosts
      → IsIn e (flat_map (λ (x : Member H). x.queue) (opened_from m events number hosts))
  in_opened number [] e h from below = absurd (omega arith)
  in_opened number (host ∷ hosts) e h from below = ⊎_elim
      (λ (same : m.home e ≡ number). IsIn_left e (events_at m number events) (flat_map (λ (x : Member H). x.queue) (opened_from m events (suc number) hosts))
      (IsIn_filter (λ (f : Event). m.home f == number) e events h (eq-eqb (m.home e) number same)))
      (λ (other : m.home e ≢ number). IsIn_right e (events_at m number events) (flat_map (λ (x : Member H). x.queue) (opened_from m events (suc number) hosts))
      (in_opened (suc number) hosts e h (omega arith) (omega arith)))
      (cases_eq (m.home e) number)

  -- and no other
  of_opened : (number : ℕ) (hosts : List H) (e : Event) → IsIn e (flat_map (λ (x : Member H). x.queue) (opened_from m events number hosts)) → IsIn e events × (number ≤ m.home e)
  of_opened number [] e h = absurd h
  of_opened number (host ∷ hosts) e h = ⊎_elim
      (λ (here : IsIn e (events_at m number events)).
      let p = IsIn_filter_from (λ (f : Event). m.home f == number) e events here in
      let home : m.home e ≡ number = eqb-true (m.home e) number p.1 in
      (p.0, (let le : number ≤ m.home e = omega arith in le)))
      (λ (rest : IsIn e (flat_map (λ (x : Member H). x.queue) (opened_from m events (suc number) hosts))).
      let p = of_opened (suc number) hosts e rest in
      let from = p.1 in
      (p.0, (let le : number ≤ m.home e = omega arith in le)))
      (IsIn_either e (events_at m number events) (flat_map (λ (x : Member H). x.queue) (opened_from m events (suc number) hosts)) h)

-- ---- no two events have the same key

count_by_test : (p : Event → Bool) (k : Key) (e : Event) (es : List Event) (b : Bool) → copies k (filter p es) ≤ copies k es
    → copies k (if b then e ∷ filter p es else filter p es) ≤ copies k (e ∷ es)
count_by_test p k e es true less = omega arith
count_by_test p k e es false less = omega arith

copies_filter : (p : Event → Bool) (k : Key) (es : List Event) → copies k (filter p es) ≤ copies k es
copies_filter p k [] = omega arith
copies_filter p k (e ∷ es) = count_by_test p k e es (p e) (copies_filter p k es)

pub filter_apart : (p : Event → Bool) (es : List Event) → AreApart es → AreApart (filter p es)
filter_apart p es apart k = let c = copies_filter p k es in let a = apart k in omega arith

module _ {H L : Type 0} (m : Model H L) (events : List Event) (apart : AreApart events) where
  apart_opened : (number : ℕ) (hosts : List H) → AreApart (flat_map (λ (x : Member H). x.queue) (opened_from m events number hosts))
  apart_opened number [] = λ k. omega arith
  apart_opened number (host ∷ hosts) =
      apart_append (events_at m number events) (flat_map (λ (x : Member H). x.queue) (opened_from m events (suc number) hosts))
      (filter_apart (λ (f : Event). m.home f == number) events apart)
      (apart_opened (suc number) hosts)
      (λ x h y g same.
      let p = IsIn_filter_from (λ (f : Event). m.home f == number) x events h in
      let q = of_opened m events (suc number) hosts y g in
      let one : x ≡ y = one_of_key events apart x y p.0 q.0 same in
      let home : m.home x ≡ number = eqb-true (m.home x) number p.1 in
      let same_home : m.home x ≡ m.home y = ap m.home one in
      let from = q.1 in
      absurd (omega arith))

module _ {H L : Type 0} (m : Model H L) (end workers : ℕ) (w : World H L) (apart : AreApart w.events) where
  packets_opened : packets_of (opened m end workers w) ≡ []
  packets_opened =
      ap (λ (ps : List Event). ps ++ carried_of (opened m end workers w)) (empty_members m w.events 0 w.hosts) ∙ empty_workers workers

  events_opened : events_of (opened m end workers w) ≡ queues_of (opened m end workers w)
  events_opened = ap (λ (ps : List Event). queues_of (opened m end workers w) ++ ps) packets_opened ∙ append-nil (queues_of (opened m end workers w))

  pub opened_packets : packets_of (opened m end workers w) ≡ []
  opened_packets = packets_opened

  pub opened_good : IsGood m end (opened m end workers w)
  opened_good = record {
    end_is = refl;
    members = λ i x at.
        let is = member_opened m w.events 0 w.hosts i x at in
        record {
          home = λ e h.
              let p = IsIn_filter_from (λ (f : Event). m.home f == (0 + i)) e w.events (subst (IsIn e) is.0 h) in
              let home : m.home e ≡ 0 + i = eqb-true (m.home e) (0 + i) p.1 in
              (let r : m.home e ≡ i = omega arith in r);
          done = λ d. absurd (let e : is_done Waits ≡ true = ap is_done (sym is.1) ∙ d in cc);
        };
    late = λ x h. absurd (subst (IsIn x) packets_opened h);
    apart = subst AreApart (sym events_opened) (apart_opened m w.events apart 0 w.hosts);
  }

  pub opened_alike : Each (λ (e : Event). m.home e < length w.hosts) w.events → IsAlike (scene_of w) (round_scene w.log (opened m end workers w))
  opened_alike homes = record {
    hosts = sym (hosts_opened m w.events 0 w.hosts);
    into = λ x h. subst (IsIn x) (sym events_opened) (in_opened m w.events 0 w.hosts x h (omega arith) (let l = homes x h in omega arith));
    back = λ x h. (of_opened m w.events 0 w.hosts x (subst (IsIn x) events_opened h)).0;
    lines = λ k. sym (append-nil (lines_with k w.log));
  }
