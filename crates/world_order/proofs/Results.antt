-- A run has exactly one result; the results of runs one after another.
use Rattle.std.proofs.Common.{◌≡◌, ℕ, zero, suc, ◌+◌, ◌-◌, ◌<◌, ◌≤◌, ◌⊎◌, inl, inr, ⊎_elim, List, [], ◌∷◌, Option, Some, None, length, slice_get, slice_set, length-append, refl, sym, ap, subst, ◌∙◌, arith}
use Rattle.std.proofs.lemmas.List.Sorted.{length_permutation}
use Rattle.sim_base.specs.declared.event.Event.{Event}
use Rattle.world_order.specs.EventOrder.{take_least}
use Rattle.world_order.specs.Model.{Model, Firing, fires, with_host}
use Rattle.world_order.specs.Premises.{Simulation}
use Rattle.world_order.specs.Settled.{IsSettled}
use Rattle.world_order.specs.World.{World, next, after_firing, IsResult, is_over, goes_on}
use Rattle.world_order.proofs.Firings.{Known}
use Rattle.world_order.proofs.Homes.{get_set_same, fires_is, some_is}
use Rattle.world_order.proofs.Least.{take_least_IsPermutation}
use Rattle.world_order.proofs.Members.{Each}
use Rattle.world_order.proofs.Turns.{next_turn, next_over, turn_known, settled_next}

module _ {H L : Type 0} where
  -- ---- at most one

  pub at_most_one : (m : Model H L) (stop : ℕ) (r s w : World H L) → IsResult m stop r w → IsResult m stop s w → r ≡ s
  at_most_one m stop r s w (is_over w' over same) (is_over w'' over' same') = sym same ∙ same'
  at_most_one m stop r s w (is_over w' over same) (goes_on w'' v is rest) = absurd (let e : None ≡ Some v = sym over ∙ is in cc)
  at_most_one m stop r s w (goes_on w' v is rest) (is_over w'' over same) = absurd (let e : None ≡ Some v = sym over ∙ is in cc)
  at_most_one m stop r s w (goes_on w' v is rest) (goes_on w'' u is' rest') =
      let same : u ≡ v = some_is u v (sym is' ∙ is) in
      at_most_one m stop r s v rest (subst (IsResult m stop s) same rest')

  -- ---- at least one: the events that wait and the numbers that are left fall by one at each turn

  abbrev numbers_left : Simulation H L → List H → ℕ
  numbers_left sim [] = 0
  numbers_left sim (host ∷ hosts) = (sim.limit - sim.model.next host) + numbers_left sim hosts

  left_set : (sim : Simulation H L) (hosts : List H) (i : ℕ) (host new : H) → slice_get hosts i ≡ Some host
      → numbers_left sim (slice_set hosts i new) + (sim.limit - sim.model.next host) ≡ numbers_left sim hosts + (sim.limit - sim.model.next new)
  left_set sim [] i host new is = absurd (let e : None ≡ Some host = is in cc)
  left_set sim (x ∷ xs) zero host new is = let same : sim.model.next x ≡ sim.model.next host = ap sim.model.next (some_is x host is) in omega arith
  left_set sim (x ∷ xs) (suc i) host new is = omega (arith, left_set sim xs i host new is)

  abbrev turns_left : Simulation H L → World H L → ℕ
  turns_left sim w = length w.events + numbers_left sim w.hosts

  left_fires : (sim : Simulation H L) (hosts : List H) (e : Event) (k : Known sim hosts e (fires sim.model hosts e))
      → numbers_left sim (fires sim.model hosts e).hosts + length (fires sim.model hosts e).made ≡ numbers_left sim hosts
  left_fires sim hosts e k =
      let home = sim.model.home e in
      let f = sim.model.fire home k.before e in
      let is : fires sim.model hosts e ≡ with_host hosts home f = fires_is sim.model hosts e k.before k.before_at in
      let there : slice_get (fires sim.model hosts e).hosts home ≡ Some f.host = ap (λ (g : Firing H L). slice_get g.hosts home) is ∙ get_set_same hosts home k.before f.host k.before_at in
      let now : sim.model.next k.now ≡ sim.model.next f.host = ap sim.model.next (some_is k.now f.host (sym k.now_at ∙ there)) in
      let hosts_is : numbers_left sim (fires sim.model hosts e).hosts ≡ numbers_left sim (slice_set hosts home f.host) = ap (λ (g : Firing H L). numbers_left sim g.hosts) is in
      let change = left_set sim hosts home k.before f.host k.before_at in
      let counted = k.counted in
      let limited = k.limited in
      omega arith

  left_turn : (sim : Simulation H L) (w : World H L) → IsSettled sim w → (e : Event) (rest : List Event) → take_least w.events ≡ Some (e, rest)
      → turns_left sim (after_firing w e rest (fires sim.model w.hosts e)) < turns_left sim w
  left_turn sim w settled e rest taken =
      let k = turn_known sim w settled e rest taken in
      let hosts = left_fires sim w.hosts e k in
      let long = length_permutation w.events (e ∷ rest) (take_least_IsPermutation w.events (e, rest) taken) in
      let both = length-append rest (fires sim.model w.hosts e).made in
      omega arith

  left_next : (sim : Simulation H L) (stop : ℕ) (w v : World H L) → IsSettled sim w → next sim.model stop w ≡ Some v → turns_left sim v < turns_left sim w
  left_next sim stop w v settled is =
      let t = next_turn sim.model stop w v is in
      subst (λ (u : World H L). turns_left sim u < turns_left sim w) t.after (left_turn sim w settled t.event t.rest t.taken)

  next_or_none : (o : Option (World H L)) → (o ≡ None) ⊎ ((v : World H L) × (o ≡ Some v))
  next_or_none None = inl refl
  next_or_none (Some v) = inr (v, refl)

  result_within : (sim : Simulation H L) (stop n : ℕ) (w : World H L) → IsSettled sim w → turns_left sim w < n → (r : World H L) × IsResult sim.model stop r w
  result_within sim stop zero w settled within = absurd (omega arith)
  result_within sim stop (suc n) w settled within = ⊎_elim
      (λ (over : next sim.model stop w ≡ None). (w, is_over w over refl))
      (λ (goes : (v : World H L) × (next sim.model stop w ≡ Some v)).
      let less = left_next sim stop w goes.0 settled goes.1 in
      let more = result_within sim stop n goes.0 (settled_next sim stop w goes.0 settled goes.1) (omega arith) in
      (more.0, goes_on w goes.0 goes.1 more.1))
      (next_or_none (next sim.model stop w))

  pub at_least_one : (sim : Simulation H L) (stop : ℕ) (w : World H L) → IsSettled sim w → (r : World H L) × IsResult sim.model stop r w
  at_least_one sim stop w settled = result_within sim stop (suc (turns_left sim w)) w settled (omega arith)

  -- ---- the result of a run is settled, and no event of it is due before the stop

  pub settled_result : (sim : Simulation H L) (stop : ℕ) (r w : World H L) → IsSettled sim w → IsResult sim.model stop r w → IsSettled sim r
  settled_result sim stop r w settled (is_over w' over same) = subst (IsSettled sim) same settled
  settled_result sim stop r w settled (goes_on w' v is rest) = settled_result sim stop r v (settled_next sim stop w v settled is) rest

  pub over_result : (m : Model H L) (stop : ℕ) (r w : World H L) → IsResult m stop r w → Each (λ (x : Event). stop ≤ x.key.due.nanos) r.events
  over_result m stop r w (is_over w' over same) = subst (λ (u : World H L). Each (λ (x : Event). stop ≤ x.key.due.nanos) u.events) same (next_over m stop w over)
  over_result m stop r w (goes_on w' v is rest) = over_result m stop r v rest
