-- The turns of a world, as firings in a scene; its log grows in order.
use Rattle.std.proofs.Common.{◌≡◌, ◌≢◌, ℕ, ◌<◌, ◌≤◌, ◌⊎◌, inl, inr, ⊎_elim, false, List, [], ◌∷◌, ◌++◌, Option, Some, None, option_map, option_to_list, refl, sym, ap, subst, ◌∙◌, arith, append_assoc, append-nil, IsPermutation}
use Rattle.std.proofs.lemmas.List.Sorted.{IsPermutation-sym, IsPermutation-refl}
use Rattle.sim_base.specs.declared.event.Event.{Event}
use Rattle.sim_base.specs.declared.key.Key.{Key}
use Rattle.world_order.specs.EventOrder.{take_least, AreApart}
use Rattle.world_order.specs.Model.{Model, fires}
use Rattle.world_order.specs.Premises.{Simulation}
use Rattle.world_order.specs.Settled.{IsSettled, AreDueFrom, next_at}
use Rattle.world_order.specs.Window.{window_end}
use Rattle.world_order.specs.World.{World, Logged, logged, after_firing, IsResult, is_over, goes_on, fired_by, least_of}
use Rattle.world_order.proofs.Apart.{AreApart_permutation, taken_apart, one_of_key}
use Rattle.world_order.proofs.Keys.{key_before, due_before, one_way}
use Rattle.world_order.proofs.Least.{take_least_least, take_least_IsPermutation, take_least_there}
use Rattle.world_order.proofs.Logs.{lines_with, lines_with_append, lines_with_logged, NotBefore, InOrder, order_logged, logged_not_before, not_before_through_is}
use Rattle.world_order.proofs.Members.{IsIn, Each, Each_from_All, Each-append, IsIn_permutation, IsIn_left, IsIn_right, IsIn_either}
use Rattle.world_order.proofs.Results.{over_result}
use Rattle.world_order.proofs.Runs.{Runs, rests, turns, runs_alike, IsOver}
use Rattle.world_order.proofs.Scenes.{Scene, IsAlike, alike_refl, alike_sym, MayFire, turned, IsSound, IsWithin}
use Rattle.world_order.proofs.Turns.{next_turn, turn_known, settled_next}

-- what is held after an event left a list, and others joined it
module _ (before others after made : List Event) (e : Event) (apart : AreApart before) (was : IsPermutation before (e ∷ others)) (is : IsPermutation after (others ++ made)) where
  pub held_after : (x : Event) → (IsIn x before × (x.key ≢ e.key)) ⊎ IsIn x made → IsIn x after
  held_after x (inl (old, not_e)) = ⊎_elim
      (λ (same : x ≡ e). absurd (not_e (ap (λ (y : Event). y.key) same)))
      (λ (h : IsIn x others). IsIn_permutation x (others ++ made) after (IsPermutation-sym after (others ++ made) is) (IsIn_left x others made h))
      (IsIn_permutation x before (e ∷ others) was old)
  held_after x (inr new) = IsIn_permutation x (others ++ made) after (IsPermutation-sym after (others ++ made) is) (IsIn_right x others made new)

  pub held_before : (x : Event) → IsIn x after → (IsIn x before × (x.key ≢ e.key)) ⊎ IsIn x made
  held_before x h = ⊎_elim
      (λ (old : IsIn x others). inl (
        IsIn_permutation x (e ∷ others) before (IsPermutation-sym before (e ∷ others) was) (inr old),
        taken_apart e others (AreApart_permutation before (e ∷ others) was apart) x old,
      ))
      (λ (new : IsIn x made). inr new)
      (IsIn_either x others made (IsIn_permutation x after (others ++ made) is h))

-- a round's end is no later than the lookahead after its start
pub within_window : (lookahead : Option ℕ) (stop least : ℕ) → IsWithin lookahead least (window_end lookahead stop least)
within_window None stop least a b from far = absurd far
within_window (Some l) stop least a b from far = omega arith

module _ {H L : Type 0} where
  abbrev pub scene_of : World H L → Scene H L
  scene_of w = record { hosts = w.hosts; holds = λ x. IsIn x w.events; lines = λ k. lines_with k w.log }

  -- ---- a turn

  module _ (m : Model H L) (w : World H L) (apart : AreApart w.events) (e : Event) (rest : List Event) (taken : take_least w.events ≡ Some (e, rest)) where
    pub turn_may : (end : ℕ) → e.key.due.nanos < end → MayFire m end e (scene_of w)
    turn_may end due = record { there = take_least_there w.events (e, rest) taken; due = due; first = λ x h same. take_least_least w.events (e, rest) taken x h }

    pub turn_alike : IsAlike (turned m e (scene_of w)) (scene_of (after_firing w e rest (fires m w.hosts e)))
    turn_alike =
        let made : List Event = (fires m w.hosts e).made in
        let was : IsPermutation w.events (e ∷ rest) = take_least_IsPermutation w.events (e, rest) taken in
        record {
          hosts = refl;
          into = held_after w.events rest (rest ++ made) made e apart was (IsPermutation-refl (rest ++ made));
          back = held_before w.events rest (rest ++ made) made e apart was (IsPermutation-refl (rest ++ made));
          lines = λ k.
              ap (λ (ls : List L). lines_with k w.log ++ ls) (sym (lines_with_logged k e.key (fires m w.hosts e).lines))
              ∙ sym (lines_with_append k w.log (logged e.key (fires m w.hosts e).lines));
        }

  -- ---- a run

  pub run_of : (sim : Simulation H L) (end : ℕ) (r w : World H L) (result : IsResult sim.model end r w) → IsSettled sim w
      → Runs sim.model end (scene_of r) (fired_by sim.model end r w result) (scene_of w)
  unfolding fired_by
  run_of sim end r w (is_over w' over same) settled = rests (scene_of w) (subst (λ (u : World H L). IsAlike (scene_of w) (scene_of u)) same (alike_refl (scene_of w)))
  run_of sim end r w (goes_on w' v is rest) settled =
      let t = next_turn sim.model end w v is in
      let later : Runs sim.model end (scene_of r) (fired_by sim.model end r v rest) (scene_of v) = run_of sim end r v rest (settled_next sim end w v settled is) in
      let here : Runs sim.model end (scene_of r) (fired_by sim.model end r v rest) (turned sim.model t.event (scene_of w)) =
      runs_alike sim.model end (scene_of r) (fired_by sim.model end r v rest) (scene_of v) (turned sim.model t.event (scene_of w))
      (alike_sym (turned sim.model t.event (scene_of w)) (scene_of v)
      (subst (λ (u : World H L). IsAlike (turned sim.model t.event (scene_of w)) (scene_of u)) t.after (turn_alike sim.model w settled.apart t.event t.rest t.taken)))
      later in
      let first : least_of w.events ≡ t.event ∷ [] = ap (λ (o : Option (Event × List Event)). option_to_list (option_map (λ (taken : Event × List Event). taken.0) o)) t.taken in
      subst (λ (es : List Event). Runs sim.model end (scene_of r) (es ++ fired_by sim.model end r v rest) (scene_of w)) (sym first)
      (turns (scene_of w) t.event (fired_by sim.model end r v rest) (turn_may sim.model w settled.apart t.event t.rest t.taken end t.due) here)

  pub run_over : (m : Model H L) (end : ℕ) (r w : World H L) → IsResult m end r w → IsOver end (scene_of r)
  run_over m end r w result = over_result m end r w result

  pub sound_of : (sim : Simulation H L) (start end : ℕ) (w : World H L) → IsSettled sim w → AreDueFrom start w.events → IsSound sim start end (scene_of w)
  sound_of sim start end w settled from = record {
    count = settled.count;
    one = one_of_key w.events settled.apart;
    below = Each_from_All (λ (y : Event). y.key.number < next_at sim.model w.hosts y.key.source.index) w.events settled.below;
    events = Each_from_All sim.IsEvent w.events settled.events;
    hosts = settled.hosts;
    own_clock = λ x host h is. Each_from_All (λ (y : Event). sim.model.clock host ≤ y.key.due.nanos) w.events (settled.clock (sim.model.home x) host is) x h;
    clocks = λ x h due i host is. (let c = Each_from_All (λ (y : Event). sim.model.clock host ≤ y.key.due.nanos) w.events (settled.clock i host is) x h in omega arith);
    from = Each_from_All (λ (y : Event). start ≤ y.key.due.nanos) w.events from;
  }

  -- ---- the log

  -- what a run adds to the log: lines in order, none with a key that comes before those of all events
  pub record Grows (w r : World H L) : Type 0 where
    pub added : List (Logged L)
    pub log : r.log ≡ w.log ++ added
    pub order : InOrder added
    pub bound : (b : Key) → Each (λ (x : Event). key_before x.key b ≡ false) w.events → NotBefore b added

  module _ (sim : Simulation H L) (w : World H L) (settled : IsSettled sim w) (e : Event) (rest : List Event) (taken : take_least w.events ≡ Some (e, rest)) where
    -- no event of the next world comes before the one that fired
    none_earlier : Each (λ (x : Event). key_before x.key e.key ≡ false) (after_firing w e rest (fires sim.model w.hosts e)).events
    none_earlier = Each-append (λ (x : Event). key_before x.key e.key ≡ false) rest (fires sim.model w.hosts e).made
        (λ x h. take_least_least w.events (e, rest) taken x
        (IsIn_permutation x (e ∷ rest) w.events (IsPermutation-sym w.events (e ∷ rest) (take_least_IsPermutation w.events (e, rest) taken)) (inr h)))
        (λ x h. one_way e.key x.key (due_before e.key x.key ((turn_known sim w settled e rest taken).later x h)))

    grows_turn : (r : World H L) → Grows (after_firing w e rest (fires sim.model w.hosts e)) r → Grows w r
    grows_turn r g =
        let lines : List (Logged L) = logged e.key (fires sim.model w.hosts e).lines in
        record {
          added = lines ++ g.added;
          log = g.log ∙ append_assoc w.log lines g.added;
          order = order_logged e.key (fires sim.model w.hosts e).lines g.added (g.bound e.key none_earlier) g.order;
          bound = λ b none.
              let first : key_before e.key b ≡ false = none e (take_least_there w.events (e, rest) taken) in
              Each-append (λ (l : Logged L). key_before l.key b ≡ false) lines g.added
              (logged_not_before e.key b (fires sim.model w.hosts e).lines first)
              (not_before_through_is b e.key g.added (g.bound e.key none_earlier) first);
        }

  pub grows : (sim : Simulation H L) (end : ℕ) (r w : World H L) → IsResult sim.model end r w → IsSettled sim w → Grows w r
  grows sim end r w (is_over w' over same) settled =
      subst (Grows w) same (record { added = []; log = sym (append-nil w.log); order = tt; bound = λ b none l h. absurd h })
  grows sim end r w (goes_on w' v is rest) settled =
      let t = next_turn sim.model end w v is in
      grows_turn sim w settled t.event t.rest t.taken r
      (subst (λ (u : World H L). Grows u r) (sym t.after) (grows sim end r v rest (settled_next sim end w v settled is)))
