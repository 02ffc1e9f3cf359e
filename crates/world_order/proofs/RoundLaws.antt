-- The laws of rounds: what every schedule has fired, where its packets are, and where it ends.
use Rattle.std.proofs.Common.{◌≡◌, ℕ, zero, suc, ◌<◌, ◌≤◌, ⊎_elim, Bool, true, false, ◌&&◌, ◌==◌, List, [], ◌∷◌, ◌++◌, Some, None, slice_get, length, refl, sym, ap, subst, ◌∙◌, arith, IsPermutation}
use Rattle.std.specs.List.{list_all}
use Rattle.std.proofs.lemmas.List.{append_cancel_left}
use Rattle.std.proofs.lemmas.List.Elements.{filter-append}
use Rattle.sim_base.specs.declared.event.Event.{Event}
use Rattle.sim_base.specs.declared.key.Key.{Key}
use Rattle.world_order.specs.Premises.{Simulation}
use Rattle.world_order.specs.Round.{Member, Round, State, Going, Closed, opened, events_at, events_of, packets_of, world_of, in_order}
use Rattle.world_order.specs.Schedule.{after_all, fired_in, made_in}
use Rattle.world_order.specs.Settled.{IsSettled, AreDueFrom, Leaves, AreLaid}
use Rattle.world_order.specs.Steps.{is_done}
use Rattle.world_order.specs.Window.{window_end}
use Rattle.world_order.specs.World.{World, Logged, IsResult, fired_by}
use Rattle.world_order.specs.declared.step.Step.{Step}
use Rattle.world_order.proofs.Apart.{same_members}
use Rattle.world_order.proofs.Fires.{part_in}
use Rattle.world_order.proofs.Homes.{some_is}
use Rattle.world_order.proofs.Logs.{lines_with, lines_with_append, lines_with_in_order, order_in_order, same_log}
use Rattle.world_order.proofs.Members.{IsIn, Each, All_from_Each, Each_from_All, IsIn_either}
use Rattle.world_order.proofs.Openings.{opened_good, opened_alike, opened_packets}
use Rattle.world_order.proofs.Results.{settled_result}
use Rattle.world_order.proofs.RoundStates.{round_scene, queues_of}
use Rattle.world_order.proofs.Runs.{Runs, runs_alike, IsOver, run_first, over_rest}
use Rattle.world_order.proofs.Scenes.{IsAlike, IsSound, IsWithin}
use Rattle.world_order.proofs.Schedules.{Reached, reached, sound_alike}
use Rattle.world_order.proofs.Worlds.{scene_of, run_of, run_over, sound_of, within_window, grows}

-- all of a list pass a test
module _ {X : Type 0} (p : X → Bool) where
  pass_by : (y x : X) (ys : List X) (b : Bool) → p y ≡ b → (b && list_all p ys) ≡ true → (i : ℕ) → slice_get (y ∷ ys) i ≡ Some x
      → ((j : ℕ) → list_all p ys ≡ true → slice_get ys j ≡ Some x → p x ≡ true) → p x ≡ true
  pass_by y x ys false is all i at more = absurd (cc)
  pass_by y x ys true is all zero at more = ap p (sym (some_is y x at)) ∙ is
  pass_by y x ys true is all (suc i) at more = more i all at

  pub all_pass : (xs : List X) (x : X) (i : ℕ) → list_all p xs ≡ true → slice_get xs i ≡ Some x → p x ≡ true
  all_pass [] x i all at = absurd (let e : None ≡ Some x = at in cc)
  all_pass (y ∷ ys) x i all at = pass_by y x ys (p y) refl all i at (all_pass ys x)

module _ {H L : Type 0} (sim : Simulation H L) (stop least workers : ℕ) (w : World H L) (settled : IsSettled sim w) (from : AreDueFrom least w.events) where
  abbrev pub end_of : ℕ
  end_of = window_end sim.lookahead stop least

  abbrev pub start_of : Round H L
  start_of = opened sim.model end_of workers w

  within : IsWithin sim.lookahead least end_of
  within = within_window sim.lookahead stop least

  homes : Each (λ (e : Event). sim.model.home e < length w.hosts) w.events
  homes e h = let b = sim.homes e (Each_from_All sim.IsEvent w.events settled.events e h) in let c = settled.count in omega arith

  alike : IsAlike (scene_of w) (round_scene w.log start_of)
  alike = opened_alike sim.model end_of workers w settled.apart homes

  sound : IsSound sim least end_of (round_scene w.log start_of)
  sound = sound_alike sim least end_of (scene_of w) (round_scene w.log start_of) alike (sound_of sim least end_of w settled from)

  module _ (steps : List Step) (s : State H L) (leads : after_all sim.model steps (Going start_of) ≡ Some s) where
    found : Reached sim.model end_of w.log start_of (fired_in sim.model steps (Going start_of)) (made_in sim.model steps (Going start_of)) s
    found = reached sim least end_of within w.log steps start_of s leads (opened_good sim.model end_of workers w settled.apart) sound

    module _ (model : World H L) (result : IsResult sim.model end_of model w) where
      whole : Runs sim.model end_of (scene_of model) (fired_by sim.model end_of model w result) (round_scene w.log start_of)
      whole = runs_alike sim.model end_of (scene_of model) (fired_by sim.model end_of model w result) (scene_of w) (round_scene w.log start_of) alike (run_of sim end_of model w result settled)

      over : IsOver end_of (scene_of model)
      over = run_over sim.model end_of model w result

      goes_on_to : (rest : List Event) × Runs sim.model end_of (scene_of model) rest (round_scene w.log found.last)
          × ((h : ℕ) → events_at sim.model h (fired_by sim.model end_of model w result) ≡ events_at sim.model h (fired_in sim.model steps (Going start_of) ++ rest))
      goes_on_to = run_first sim least end_of within (scene_of model) (round_scene w.log found.last) (fired_by sim.model end_of model w result)
          (fired_in sim.model steps (Going start_of)) (round_scene w.log start_of) over sound found.run whole

      -- each host has fired a front of what it fires in the model
      pub front_law : (rest : List Event) × ((h : ℕ) → events_at sim.model h (fired_by sim.model end_of model w result)
          ≡ events_at sim.model h (fired_in sim.model steps (Going start_of)) ++ events_at sim.model h rest)
      front_law =
          let g = goes_on_to in
          (g.0, λ h. g.2 h ∙ filter-append (λ (e : Event). sim.model.home e == h) (fired_in sim.model steps (Going start_of)) g.0)

  -- where the packets of a round are
  module _ (steps : List Step) (u : Round H L) (leads : after_all sim.model steps (Going start_of) ≡ Some (Going u)) where
    pub packets_law : AreLaid end_of u (made_in sim.model steps (Going start_of))
    packets_law =
        let f = found steps (Going u) leads in
        let packets : List Event = made_in sim.model steps (Going start_of) in
        subst (λ (r : Round H L). AreLaid end_of r packets) f.ends
        (record {
          once = subst (λ (l : List Event). IsPermutation (packets_of f.last) (l ++ packets)) (opened_packets sim.model end_of workers w settled.apart) f.once;
          late = All_from_Each (λ (e : Event). end_of ≤ e.key.due.nanos) (packets_of f.last) f.good.late;
          apart = f.good.apart;
        })

  -- what a closed round leaves
  module _ (steps : List Step) (v : World H L) (leads : after_all sim.model steps (Going start_of) ≡ Some (Closed v)) where
    abbrev last_of : Round H L
    last_of = (found steps (Closed v) leads).last

    closed_late : Each (λ (e : Event). end_of ≤ e.key.due.nanos) (events_of last_of)
    closed_late x h = ⊎_elim
        (λ (q : IsIn x (queues_of last_of)).
        let m = part_in (λ (y : Member H). y.queue) last_of.members x q in
        let done : is_done m.1.stage ≡ true = all_pass (λ (y : Member H). is_done y.stage) last_of.members m.1 m.0 (found steps (Closed v) leads).ends.1 m.2 in
        ((found steps (Closed v) leads).good.members m.0 m.1 m.2).done done x m.3)
        (λ (p : IsIn x (packets_of last_of)). (found steps (Closed v) leads).good.late x p)
        (IsIn_either x (queues_of last_of) (packets_of last_of) h)

    module _ (model : World H L) (result : IsResult sim.model end_of model w) where
      same : IsAlike (round_scene w.log last_of) (scene_of model)
      same =
          let g = goes_on_to steps (Closed v) leads model result in
          over_rest sim least end_of within (scene_of model) (round_scene w.log last_of) g.0 closed_late g.1

      log_is : w.log ++ in_order last_of.lines ≡ model.log
      log_is =
          let g = grows sim end_of model w result settled in
          let lines : (k : Key) → lines_with k (in_order last_of.lines) ≡ lines_with k g.added = λ k.
          lines_with_in_order k last_of.lines
          ∙ append_cancel_left (lines_with k w.log) (lines_with k last_of.lines) (lines_with k g.added)
          (same.lines k ∙ ap (lines_with k) g.log ∙ lines_with_append k w.log g.added) in
          ap (λ (ls : List (Logged L)). w.log ++ ls) (same_log (in_order last_of.lines) g.added (order_in_order last_of.lines) g.order lines) ∙ sym g.log

      last_leaves : Leaves end_of w model (world_of last_of)
      last_leaves = record {
        hosts = same.hosts;
        events = same_members (events_of last_of) model.events (found steps (Closed v) leads).good.apart (settled_result sim end_of model w settled result).apart same.into same.back;
        log = log_is;
        over = All_from_Each (λ (e : Event). end_of ≤ e.key.due.nanos) (events_of last_of) closed_late;
      }

      pub close_law : Leaves end_of w model v
      close_law = subst (Leaves end_of w model) (found steps (Closed v) leads).ends.0 last_leaves
