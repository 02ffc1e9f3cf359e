-- A list of steps, each allowed in its turn, is a list of firings; what holds in the state that it leads to.
use Rattle.std.proofs.Common.{◌≡◌, ℕ, ◌<◌, true, List, [], ◌∷◌, ◌++◌, Option, Some, None, option_map, option_to_list, slice_get, length, refl, sym, ap, subst, ◌∙◌, append_assoc, append-nil, IsPermutation}
use Rattle.std.specs.List.{list_all}
use Rattle.std.proofs.lemmas.List.Sorted.{IsPermutation-sym, IsPermutation-trans, IsPermutation-append_left, IsPermutation-append_comm}
use Rattle.sim_base.specs.declared.event.Event.{Event}
use Rattle.world_order.specs.Model.{Model}
use Rattle.world_order.specs.Premises.{Simulation}
use Rattle.world_order.specs.Round.{Member, Round, State, Going, Closed, packets_of, world_of}
use Rattle.world_order.specs.Schedule.{after_all, fired, fired_in, made, made_by, made_in, packets_made, on_way}
use Rattle.world_order.specs.Settled.{next_at}
use Rattle.world_order.specs.Steps.{is_done, after, after_step, Ready, ready, fire_host, after_fire, take_host, put_packet, give_back, close_round}
use Rattle.world_order.specs.World.{World, Logged}
use Rattle.world_order.specs.declared.step.Step.{Step}
use Rattle.world_order.specs.declared.step.Step.TheVariants.{Take, Fire, Put, Back, Close}
use Rattle.world_order.proofs.Fires.{IsReady, ready_is, ready_may, fire_alike, fire_good, packets_more}
use Rattle.world_order.proofs.Homes.{some_is}
use Rattle.world_order.proofs.Parts.{same_order, from_then, from_map, from_given}
use Rattle.world_order.proofs.RoundStates.{round_scene, IsGood, Keeps, quiet_alike, take_keeps, put_keeps, back_keeps}
use Rattle.world_order.proofs.Runs.{Runs, rests, turns, runs_alike}
use Rattle.world_order.proofs.Scenes.{Scene, IsAlike, alike_refl, alike_sym, MayFire, turned, IsSound, IsWithin, sound_turned}

module _ {H L : Type 0} where
  -- what holds of a scene holds of one alike
  pub sound_alike : (sim : Simulation H L) (start end : ℕ) (s t : Scene H L) → IsAlike s t → IsSound sim start end s → IsSound sim start end t
  sound_alike sim start end s t a sound = record {
    count = ap length (sym a.hosts) ∙ sound.count;
    one = λ x y h g same. sound.one x y (a.back x h) (a.back y g) same;
    below = λ x h. subst (λ (hosts : List H). x.key.number < next_at sim.model hosts x.key.source.index) a.hosts (sound.below x (a.back x h));
    events = λ x h. sound.events x (a.back x h);
    hosts = λ i host is. sound.hosts i host (ap (λ (hosts : List H). slice_get hosts i) a.hosts ∙ is);
    own_clock = λ x host h is. sound.own_clock x host (a.back x h) (ap (λ (hosts : List H). slice_get hosts (sim.model.home x)) a.hosts ∙ is);
    clocks = λ x h due i host is. sound.clocks x (a.back x h) due i host (ap (λ (hosts : List H). slice_get hosts i) a.hosts ∙ is);
    from = λ x h. sound.from x (a.back x h);
  }

  -- the state at the end of a list of steps: the last round, or its world where all hosts are done
  abbrev pub EndsAt : Round H L → State H L → Type 0
  EndsAt last (Going u) = last ≡ u
  EndsAt last (Closed v) = (world_of last ≡ v) × (list_all (λ (x : Member H). is_done x.stage) last.members ≡ true)

  pub record Reached (m : Model H L) (end : ℕ) (front : List (Logged L)) (r : Round H L) (fires packets : List Event) (s : State H L) : Type 1 where
    pub last : Round H L
    pub run : Runs m end (round_scene front last) fires (round_scene front r)
    pub good : IsGood m end last
    pub once : IsPermutation (packets_of last) (packets_of r ++ packets)
    pub ends : EndsAt last s

  none_closed : (m : Model H L) (steps : List Step) (v : World H L) (s : State H L) → after_all m steps (Closed v) ≡ Some s → (Closed v ≡ s) × (steps ≡ [])
  unfolding after_all after
  none_closed m [] v s is = (some_is (Closed v) s is, refl)
  none_closed m (step ∷ steps) v s is = absurd (let e : None ≡ Some s = is in cc)

  module _ (sim : Simulation H L) (start end : ℕ) (within : IsWithin sim.lookahead start end) (front : List (Logged L)) where
    -- one step, and then those that follow
    abbrev Follows : Round H L → State H L → List Event → List Event → Type 1
    Follows r s fires packets = IsGood sim.model end r → IsSound sim start end (round_scene front r) → Reached sim.model end front r fires packets s

    quiet_step : (r u : Round H L) (s : State H L) (fires packets : List Event) → IsSound sim start end (round_scene front r) → Keeps sim.model end r u → Follows u s fires packets
        → Reached sim.model end front r fires packets s
    quiet_step r u s fires packets sound kept more =
        let alike = quiet_alike front r u kept.0 in
        let m = more kept.1 (sound_alike sim start end (round_scene front r) (round_scene front u) alike sound) in
        record {
          last = m.last;
          run = runs_alike sim.model end (round_scene front m.last) fires (round_scene front u) (round_scene front r) (alike_sym (round_scene front r) (round_scene front u) alike) m.run;
          good = m.good;
          once = IsPermutation-trans (packets_of m.last) (packets_of u ++ packets) (packets_of r ++ packets) m.once
              (IsPermutation-append_left packets (packets_of u) (packets_of r) (IsPermutation-sym (packets_of r) (packets_of u) kept.0.packets));
          ends = m.ends;
        }

    fire_step : (w : ℕ) (r : Round H L) (t : Ready H) (s : State H L) (fires packets : List Event) → IsGood sim.model end r → IsSound sim start end (round_scene front r) → IsReady w r t
        → Follows (after_fire sim.model w r t (sim.model.fire t.number t.member.host t.event)) s fires packets
        → Reached sim.model end front r (t.event ∷ fires) (packets_made sim.model t ++ packets) s
    fire_step w r t s fires packets good sound is more =
        let f = sim.model.fire t.number t.member.host t.event in
        let u : Round H L = after_fire sim.model w r t f in
        let may : MayFire sim.model end t.event (round_scene front r) = ready_may sim start end within front w r t good sound is in
        let alike : IsAlike (turned sim.model t.event (round_scene front r)) (round_scene front u) = fire_alike sim start end within front w r t good sound is f refl in
        let turned_sound : IsSound sim start end (turned sim.model t.event (round_scene front r)) = sound_turned sim start end within t.event (round_scene front r) sound may in
        let m = more (fire_good sim start end within front w r t good sound is f refl)
        (sound_alike sim start end (turned sim.model t.event (round_scene front r)) (round_scene front u) alike turned_sound) in
        let made : List Event = packets_made sim.model t in
        record {
          last = m.last;
          run = turns (round_scene front r) t.event fires may
              (runs_alike sim.model end (round_scene front m.last) fires (round_scene front u) (turned sim.model t.event (round_scene front r))
              (alike_sym (turned sim.model t.event (round_scene front r)) (round_scene front u) alike) m.run);
          good = m.good;
          once = IsPermutation-trans (packets_of m.last) (packets_of u ++ packets) (packets_of r ++ (made ++ packets)) m.once
              (IsPermutation-trans (packets_of u ++ packets) ((packets_of r ++ made) ++ packets) (packets_of r ++ (made ++ packets))
              (IsPermutation-append_left packets (packets_of u) (packets_of r ++ made)
              (IsPermutation-trans (packets_of u) (made ++ packets_of r) (packets_of r ++ made)
              (packets_more sim start end within front w r t good sound is f refl)
              (IsPermutation-append_comm made (packets_of r))))
              (same_order ((packets_of r ++ made) ++ packets) (packets_of r ++ (made ++ packets)) (append_assoc (packets_of r) made packets)));
          ends = m.ends;
        }

    -- nothing follows the close
    closed_end : (steps : List Step) (r : Round H L) (v : World H L) (next s : State H L) → world_of r ≡ v → list_all (λ (x : Member H). is_done x.stage) r.members ≡ true → Closed v ≡ next
        → IsGood sim.model end r → after_all sim.model steps next ≡ Some s → Reached sim.model end front r (fired_in sim.model steps next) (made_in sim.model steps next) s
    unfolding fired_in made_in
    closed_end steps r v next s world done next_is good rest =
        let c = none_closed sim.model steps v s (ap (after_all sim.model steps) next_is ∙ rest) in
        let base : Reached sim.model end front r [] [] s = record {
          last = r;
          run = rests (round_scene front r) (alike_refl (round_scene front r));
          good = good;
          once = same_order (packets_of r) (packets_of r ++ []) (sym (append-nil (packets_of r)));
          ends = subst (EndsAt r) c.0 (world, done);
        } in
        subst (λ (l : List Step). Reached sim.model end front r (fired_in sim.model l next) (made_in sim.model l next) s) (sym c.1) base

    -- any step
    ready_by : (w : ℕ) (r u : Round H L) → fire_host sim.model w r ≡ Some u → (t : Ready H) × (ready w r ≡ Some t) × (after_fire sim.model w r t (sim.model.fire t.number t.member.host t.event) ≡ u)
    ready_by w r u is =
        let a = from_then (ready w r) _ u is in
        (a.0, a.1, some_is _ u a.2)

    abbrev later_fires : List Step → State H L → List Event
    later_fires steps s = fired_in sim.model steps s

    any_step : (step : Step) (steps : List Step) (r : Round H L) (next s : State H L) → IsGood sim.model end r → IsSound sim start end (round_scene front r)
        → after_step sim.model step r ≡ Some next
        → ((u : Round H L) → after_all sim.model steps (Going u) ≡ Some s → Follows u s (fired_in sim.model steps (Going u)) (made_in sim.model steps (Going u)))
        → after_all sim.model steps next ≡ Some s
        → Reached sim.model end front r (fired step (Going r) ++ fired_in sim.model steps next) (made sim.model step (Going r) ++ made_in sim.model steps next) s
    any_step (Take w host) steps r next s good sound is more rest =
        let a = from_map (take_host w host.index r) Going next is in
        subst (λ (n : State H L). Reached sim.model end front r (fired_in sim.model steps n) (made_in sim.model steps n) s) a.2
        (quiet_step r a.0 s (fired_in sim.model steps (Going a.0)) (made_in sim.model steps (Going a.0)) sound (take_keeps sim.model end w host.index r a.0 good a.1)
        (more a.0 (ap (after_all sim.model steps) a.2 ∙ rest)))
    any_step (Put w spot) steps r next s good sound is more rest =
        let a = from_map (put_packet sim.model w spot r) Going next is in
        subst (λ (n : State H L). Reached sim.model end front r (fired_in sim.model steps n) (made_in sim.model steps n) s) a.2
        (quiet_step r a.0 s (fired_in sim.model steps (Going a.0)) (made_in sim.model steps (Going a.0)) sound (put_keeps sim.model end w spot r a.0 good a.1)
        (more a.0 (ap (after_all sim.model steps) a.2 ∙ rest)))
    any_step (Back w) steps r next s good sound is more rest =
        let a = from_map (give_back w r) Going next is in
        subst (λ (n : State H L). Reached sim.model end front r (fired_in sim.model steps n) (made_in sim.model steps n) s) a.2
        (quiet_step r a.0 s (fired_in sim.model steps (Going a.0)) (made_in sim.model steps (Going a.0)) sound (back_keeps sim.model end w r a.0 good a.1)
        (more a.0 (ap (after_all sim.model steps) a.2 ∙ rest)))
    any_step (Fire w) steps r next s good sound is more rest =
        let a = from_map (fire_host sim.model w r) Going next is in
        let b = ready_by w r a.0 a.1 in
        let u : Round H L = after_fire sim.model w r b.0 (sim.model.fire b.0.number b.0.member.host b.0.event) in
        let next_is : Going u ≡ next = ap Going b.2 ∙ a.2 in
        let reached : Reached sim.model end front r (b.0.event ∷ fired_in sim.model steps (Going u)) (packets_made sim.model b.0 ++ made_in sim.model steps (Going u)) s =
        fire_step w r b.0 s (fired_in sim.model steps (Going u)) (made_in sim.model steps (Going u)) good sound (ready_is w r b.0 b.1)
        (more u (ap (after_all sim.model steps) next_is ∙ rest)) in
        subst (λ (o : Option (Ready H)). Reached sim.model end front r (option_to_list (option_map (λ (t : Ready H). t.event) o) ++ fired_in sim.model steps next) (made_by sim.model o ++ made_in sim.model steps next) s) (sym b.1)
        (subst (λ (n : State H L). Reached sim.model end front r (b.0.event ∷ fired_in sim.model steps n) (packets_made sim.model b.0 ++ made_in sim.model steps n) s) next_is reached)
    any_step Close steps r next s good sound is more rest =
        let a = from_map (close_round r) Closed next is in
        let b = from_given (list_all (λ (x : Member H). is_done x.stage) r.members) (world_of r) a.0 a.1 in
        closed_end steps r a.0 next s b.1 b.0 a.2 good rest

    step_then : (step : Step) (steps : List Step) (r : Round H L) (s : State H L) → IsGood sim.model end r → IsSound sim start end (round_scene front r)
        → ((u : Round H L) → after_all sim.model steps (Going u) ≡ Some s → Follows u s (fired_in sim.model steps (Going u)) (made_in sim.model steps (Going u)))
        → after_all sim.model (step ∷ steps) (Going r) ≡ Some s
        → Reached sim.model end front r (fired_in sim.model (step ∷ steps) (Going r)) (made_in sim.model (step ∷ steps) (Going r)) s
    unfolding after_all after fired_in made_in
    step_then step steps r s good sound more is =
        let a = from_then (after sim.model step (Going r)) (after_all sim.model steps) s is in
        let reached = any_step step steps r a.0 s good sound a.1 more a.2 in
        subst (λ (o : Option (State H L)). Reached sim.model end front r (fired step (Going r) ++ on_way (fired_in sim.model steps) o) (made sim.model step (Going r) ++ on_way (made_in sim.model steps) o) s) (sym a.1) reached

    no_step : (r : Round H L) (s : State H L) → after_all sim.model [] (Going r) ≡ Some s → IsGood sim.model end r
        → Reached sim.model end front r (fired_in sim.model [] (Going r)) (made_in sim.model [] (Going r)) s
    unfolding after_all fired_in made_in
    no_step r s is good = record {
      last = r;
      run = rests (round_scene front r) (alike_refl (round_scene front r));
      good = good;
      once = same_order (packets_of r) (packets_of r ++ []) (sym (append-nil (packets_of r)));
      ends = subst (EndsAt r) (some_is (Going r) s is) refl;
    }

    pub reached : (steps : List Step) (r : Round H L) (s : State H L) → after_all sim.model steps (Going r) ≡ Some s → IsGood sim.model end r → IsSound sim start end (round_scene front r)
        → Reached sim.model end front r (fired_in sim.model steps (Going r)) (made_in sim.model steps (Going r)) s
    reached [] r s is good sound = no_step r s is good
    reached (step ∷ steps) r s is good sound = step_then step steps r s good sound (λ u rest good' sound'. reached steps u s rest good' sound') is
