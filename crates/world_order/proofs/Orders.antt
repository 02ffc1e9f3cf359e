-- The order of a world's events in their list changes nothing; rounds make up the run.
use Rattle.std.proofs.Common.{◌≡◌, ◌≢◌, ℕ, ◌<◌, ◌≤◌, ◌⊎◌, inl, inr, Bool, true, List, [], ◌∷◌, ◌++◌, Option, Some, None, All, length, slice_get, nat_lt, refl, sym, ap, subst, ◌∙◌, arith, rules, IsPermutation}
use Rattle.std.specs.Prelude.{if◌then◌else◌}
use Rattle.std.proofs.lemmas.List.{append_cancel_left}
use Rattle.std.proofs.lemmas.List.Sorted.{IsPermutation-refl, IsPermutation-sym, IsPermutation-trans, IsPermutation-append_left, All-permutation}
use Rattle.sim_base.specs.declared.event.Event.{Event}
use Rattle.world_order.specs.EventOrder.{take_least, AreApart}
use Rattle.world_order.specs.Model.{Model, fires}
use Rattle.world_order.specs.Premises.{Simulation}
use Rattle.world_order.specs.Round.{Closed}
use Rattle.world_order.specs.Rounds.{after_round, end_of, round_on, IsSameWorld}
use Rattle.world_order.specs.Schedule.{after_all}
use Rattle.world_order.specs.declared.step.Step.{Step}
use Rattle.world_order.specs.Settled.{IsSettled, AreDueFrom, Leaves, next_at}
use Rattle.world_order.specs.Window.{window_end}
use Rattle.world_order.specs.World.{World, Logged, logged, next, by_least, after_firing, IsResult, is_over, goes_on}
use Rattle.world_order.proofs.Apart.{AreApart_permutation, same_members, rest_apart, taken_apart, one_of_key}
use Rattle.world_order.proofs.Keys.{same_place}
use Rattle.world_order.proofs.Least.{take_least_least, take_least_IsPermutation, take_least_there}
use Rattle.world_order.proofs.Members.{IsIn, Each, Each_from_All, IsIn_permutation}
use Rattle.world_order.proofs.Results.{at_least_one, at_most_one, settled_result}
use Rattle.world_order.proofs.RoundLaws.{close_law}
use Rattle.world_order.proofs.Turns.{next_turn, next_over, next-none, settled_next}

-- ---- the least event of a list in another order

taken_by : (es fs : List Event) (e : Event) (rest : List Event) → take_least es ≡ Some (e, rest) → IsPermutation es fs → AreApart es
    → (o : Option (Event × List Event)) → take_least fs ≡ o → (others : List Event) × (take_least fs ≡ Some (e, others)) × IsPermutation rest others
taken_by es fs e rest is p apart None none =
    absurd (nothing fs none (IsIn_permutation e es fs p (take_least_there es (e, rest) is)))
  where
    nothing : (l : List Event) → take_least l ≡ None → IsIn e l → ⊥
    nothing [] n h = h
    nothing (x ∷ xs) n h = cc
taken_by es fs e rest is p apart (Some (f, others)) is' =
    let f_in : IsIn f es = IsIn_permutation f fs es (IsPermutation-sym es fs p) (take_least_there fs (f, others) is') in
    let e_in : IsIn e fs = IsIn_permutation e es fs p (take_least_there es (e, rest) is) in
    let key : e.key ≡ f.key = same_place e.key f.key (take_least_least fs (f, others) is' e e_in) (take_least_least es (e, rest) is f f_in) in
    let same : f ≡ e = sym (one_of_key es apart e f (take_least_there es (e, rest) is) f_in key) in
    let there : take_least fs ≡ Some (e, others) = is' ∙ ap (λ (x : Event). Some (x, others)) same in
    let left : IsPermutation es (e ∷ rest) = take_least_IsPermutation es (e, rest) is in
    let right : IsPermutation fs (e ∷ others) = take_least_IsPermutation fs (e, others) there in
    let both : IsPermutation (e ∷ rest) (e ∷ others) = IsPermutation-trans (e ∷ rest) es (e ∷ others) (IsPermutation-sym es (e ∷ rest) left) (IsPermutation-trans es fs (e ∷ others) p right) in
    let first_apart : AreApart (e ∷ rest) = AreApart_permutation es (e ∷ rest) left apart in
    let second_apart : AreApart (e ∷ others) = AreApart_permutation (e ∷ rest) (e ∷ others) both first_apart in (
      others,
      there,
      same_members rest others (rest_apart e rest first_apart) (rest_apart e others second_apart)
          (λ x h. left_out others x (taken_apart e rest first_apart x h) (IsIn_permutation x (e ∷ rest) (e ∷ others) both (inr h)))
          (λ x h. left_out rest x (taken_apart e others second_apart x h) (IsIn_permutation x (e ∷ others) (e ∷ rest) (IsPermutation-sym (e ∷ rest) (e ∷ others) both) (inr h))),
    )
  where
    left_out : (l : List Event) (x : Event) → x.key ≢ e.key → (x ≡ e) ⊎ IsIn x l → IsIn x l
    left_out l x other (inl same) = absurd (other (ap (λ (y : Event). y.key) same))
    left_out l x other (inr h) = h

pub take_least_permutation : (es fs : List Event) (e : Event) (rest : List Event) → take_least es ≡ Some (e, rest) → IsPermutation es fs → AreApart es
    → (others : List Event) × (take_least fs ≡ Some (e, others)) × IsPermutation rest others
take_least_permutation es fs e rest is p apart = taken_by es fs e rest is p apart (take_least fs) refl

module _ {H L : Type 0} where
  pub same_refl : (w : World H L) → IsSameWorld w w
  same_refl w = record { hosts = refl; events = IsPermutation-refl w.events; log = refl }

  pub same_sym : (w v : World H L) → IsSameWorld w v → IsSameWorld v w
  same_sym w v s = record { hosts = sym s.hosts; events = IsPermutation-sym w.events v.events s.events; log = sym s.log }

  pub same_trans : (w v u : World H L) → IsSameWorld w v → IsSameWorld v u → IsSameWorld w u
  same_trans w v u a b = record { hosts = a.hosts ∙ b.hosts; events = IsPermutation-trans w.events v.events u.events a.events b.events; log = a.log ∙ b.log }

  -- what has to hold of a world holds of the same world
  pub settled_same : (sim : Simulation H L) (w v : World H L) → IsSameWorld w v → IsSettled sim w → IsSettled sim v
  settled_same sim w v s settled = record {
    count = ap length (sym s.hosts) ∙ settled.count;
    apart = AreApart_permutation w.events v.events s.events settled.apart;
    below = subst (λ (hosts : List H). All (λ (e : Event). e.key.number < next_at sim.model hosts e.key.source.index) v.events) s.hosts
        (All-permutation (λ (e : Event). e.key.number < next_at sim.model w.hosts e.key.source.index) w.events v.events s.events settled.below);
    events = All-permutation sim.IsEvent w.events v.events s.events settled.events;
    hosts = λ i host is. settled.hosts i host (ap (λ (hosts : List H). slice_get hosts i) s.hosts ∙ is);
    limited = λ i host is. settled.limited i host (ap (λ (hosts : List H). slice_get hosts i) s.hosts ∙ is);
    clock = λ i host is. All-permutation (λ (e : Event). sim.model.clock host ≤ e.key.due.nanos) w.events v.events s.events
        (settled.clock i host (ap (λ (hosts : List H). slice_get hosts i) s.hosts ∙ is));
  }

  -- ---- the next world of the same world

  next_if : (m : Model H L) (stop : ℕ) (w : World H L) (e : Event) (rest : List Event) → e.key.due.nanos < stop
      → by_least m stop w (Some (e, rest)) ≡ Some (after_firing w e rest (fires m w.hosts e))
  next_if m stop w e rest due =
      let is : nat_lt e.key.due.nanos stop ≡ true = search rules in
      ap (λ (b : Bool). if b then Some (after_firing w e rest (fires m w.hosts e)) else None) is

  pub turn_next : (m : Model H L) (stop : ℕ) (w : World H L) (e : Event) (rest : List Event) → take_least w.events ≡ Some (e, rest) → e.key.due.nanos < stop
      → next m stop w ≡ Some (after_firing w e rest (fires m w.hosts e))
  unfolding next
  turn_next m stop w e rest taken due = ap (by_least m stop w) taken ∙ next_if m stop w e rest due

  next_same : (m : Model H L) (stop : ℕ) (w v u : World H L) → AreApart w.events → IsSameWorld w v → next m stop w ≡ Some u
      → (t : World H L) × (next m stop v ≡ Some t) × IsSameWorld u t
  next_same m stop w v u apart s is =
      let turn = next_turn m stop w u is in
      let e = turn.event in
      let found = take_least_permutation w.events v.events e turn.rest turn.taken s.events apart in
      let made : List Event = (fires m w.hosts e).made in
      let t : World H L = after_firing v e found.0 (fires m v.hosts e) in
      let same : IsSameWorld (after_firing w e turn.rest (fires m w.hosts e)) t = record {
        hosts = ap (λ (hosts : List H). (fires m hosts e).hosts) s.hosts;
        events = subst (λ (hosts : List H). IsPermutation (turn.rest ++ made) (found.0 ++ (fires m hosts e).made)) s.hosts
            (IsPermutation-append_left made turn.rest found.0 found.2);
        log = ap (λ (ls : List (Logged L)). ls ++ logged e.key (fires m w.hosts e).lines) s.log ∙ ap (λ (hosts : List H). v.log ++ logged e.key (fires m hosts e).lines) s.hosts;
      } in
      (t, turn_next m stop v e found.0 found.1 turn.due, subst (λ (x : World H L). IsSameWorld x t) turn.after same)

  -- ---- the result of the same world

  pub result_same : (sim : Simulation H L) (stop : ℕ) (r w v : World H L) → IsSettled sim w → IsSameWorld w v → IsResult sim.model stop r w
      → (t : World H L) × IsResult sim.model stop t v × IsSameWorld r t
  result_same sim stop r w v settled s (is_over w' over same) =
      let late = next_over sim.model stop w over in
      let late' : Each (λ (x : Event). stop ≤ x.key.due.nanos) v.events = λ x h. late x (IsIn_permutation x v.events w.events (IsPermutation-sym w.events v.events s.events) h) in
      (v, is_over v (next-none sim.model stop v late') refl, subst (λ (x : World H L). IsSameWorld x v) same s)
  result_same sim stop r w v settled s (goes_on w' u is rest) =
      let n = next_same sim.model stop w v u settled.apart s is in
      let later = result_same sim stop r u n.0 (settled_next sim stop w u settled is) n.2 rest in
      (later.0, goes_on v n.0 n.1 later.1, later.2)

  -- ---- a run up to the end of a round, and then to the stop

  pub run_goes_on : (m : Model H L) (end stop : ℕ) (v w r : World H L) → end ≤ stop → IsResult m end v w → IsResult m stop r v → IsResult m stop r w
  run_goes_on m end stop v w r up (is_over w' over same) rest = subst (IsResult m stop r) (sym same) rest
  run_goes_on m end stop v w r up (goes_on w' u is more) rest =
      let t = next_turn m end w u is in
      let due : t.event.key.due.nanos < end = t.due in
      goes_on w u (turn_next m stop w t.event t.rest t.taken (omega arith) ∙ ap Some t.after) (run_goes_on m end stop v u r up more rest)

-- a round's end is no later than the stop, and later than its start
pub window_upto : (lookahead : Option ℕ) (stop least : ℕ) → window_end lookahead stop least ≤ stop
window_upto None stop least = omega arith
window_upto (Some l) stop least = omega arith

module _ {H L : Type 0} where
  left_same : (end : ℕ) (w model v : World H L) → Leaves end w model v → IsSameWorld model (after_round w v)
  left_same end w model v leaves = record { hosts = sym leaves.hosts; events = IsPermutation-sym v.events model.events leaves.events; log = sym leaves.log }

  -- ---- closed rounds

  module _ (sim : Simulation H L) (stop least workers : ℕ) (w v : World H L) (steps : List Step) (settled : IsSettled sim w) (from : AreDueFrom least w.events)
      (leads : after_all sim.model steps (round_on sim stop least workers w) ≡ Some (Closed v)) where
    -- the model's world that it leaves
    pub closed_model : (model : World H L) × IsResult sim.model (end_of sim stop least) model w × Leaves (end_of sim stop least) w model v
    closed_model =
        let model = at_least_one sim (end_of sim stop least) w settled in
        (model.0, model.1, close_law sim stop least workers w settled from steps v leads model.0 model.1)

    pub closed_settled : IsSettled sim (after_round w v)
    closed_settled =
        let c = closed_model in
        settled_same sim c.0 (after_round w v) (left_same (end_of sim stop least) w c.0 v c.2) (settled_result sim (end_of sim stop least) c.0 w settled c.1)

  pub closed_same : (sim : Simulation H L) (stop least workers others : ℕ) (w v u : World H L) (steps more : List Step) → IsSettled sim w → AreDueFrom least w.events
      → after_all sim.model steps (round_on sim stop least workers w) ≡ Some (Closed v) → after_all sim.model more (round_on sim stop least others w) ≡ Some (Closed u) → IsSameWorld v u
  closed_same sim stop least workers others w v u steps more settled from left right =
      let c = closed_model sim stop least workers w v steps settled from left in
      let a = c.2 in
      let b = close_law sim stop least others w settled from more u right c.0 c.1 in
      record {
        hosts = a.hosts ∙ sym b.hosts;
        events = IsPermutation-trans v.events (c.0).events u.events a.events (IsPermutation-sym u.events (c.0).events b.events);
        log = append_cancel_left w.log v.log u.log (a.log ∙ sym b.log);
      }
