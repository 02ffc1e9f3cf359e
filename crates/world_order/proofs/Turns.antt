-- The turns of a world: the least event fires, and what has to hold still does.
use Rattle.std.proofs.Common.{◌≡◌, ℕ, ◌<◌, ◌≤◌, inr, Bool, true, false, List, [], ◌∷◌, Option, Some, None, nat_lt, refl, subst, ◌∙◌, arith, rules, IsPermutation}
use Rattle.std.specs.Prelude.{if◌then◌else◌}
use Rattle.sim_base.specs.declared.event.Event.{Event}
use Rattle.world_order.specs.EventOrder.{take_least}
use Rattle.world_order.specs.Model.{Model, Firing, fires}
use Rattle.world_order.specs.Premises.{Simulation}
use Rattle.world_order.specs.Settled.{IsSettled, next_at}
use Rattle.world_order.specs.World.{World, next, by_least, after_firing}
use Rattle.world_order.proofs.Apart.{AreApart_permutation, rest_apart, apart_append}
use Rattle.world_order.proofs.Firings.{Known, known, numbered_apart, below_kept, below_made, made_anew, hosts_kept}
use Rattle.world_order.proofs.Homes.{length_fires}
use Rattle.world_order.proofs.Keys.{due_from}
use Rattle.world_order.proofs.Least.{take_least_least, take_least_IsPermutation, take_least_there}
use Rattle.world_order.proofs.Members.{IsIn, Each, Each_from_All, All_from_Each, Each-append, IsIn_permutation}
use Rattle.std.proofs.lemmas.List.Sorted.{IsPermutation-sym}

none_left : (es : List Event) → take_least es ≡ None → Each (λ (x : Event). ⊥) es
none_left [] is x h = absurd h
none_left (e ∷ es) is x h = absurd (cc)

module _ {H L : Type 0} where
  -- the world goes on to the next by its least event
  pub record IsTurn (m : Model H L) (stop : ℕ) (w v : World H L) : Type 0 where
    pub event : Event
    pub rest : List Event
    pub taken : take_least w.events ≡ Some (event, rest)
    pub due : event.key.due.nanos < stop
    pub after : after_firing w event rest (fires m w.hosts event) ≡ v

  turn_if : (m : Model H L) (stop : ℕ) (w v : World H L) (e : Event) (rest : List Event) → take_least w.events ≡ Some (e, rest) → (b : Bool) → nat_lt e.key.due.nanos stop ≡ b
      → (if b then Some (after_firing w e rest (fires m w.hosts e)) else None) ≡ Some v → IsTurn m stop w v
  turn_if m stop w v e rest taken true due is = record { event = e; rest = rest; taken = taken; due = search rules; after = cc }
  turn_if m stop w v e rest taken false due is = absurd (let e : None ≡ Some v = is in cc)

  turn_by : (m : Model H L) (stop : ℕ) (w v : World H L) (o : Option (Event × List Event)) → take_least w.events ≡ o → by_least m stop w o ≡ Some v → IsTurn m stop w v
  turn_by m stop w v None taken is = absurd (let e : None ≡ Some v = is in cc)
  turn_by m stop w v (Some (e, rest)) taken is = turn_if m stop w v e rest taken (nat_lt e.key.due.nanos stop) refl is

  pub next_turn : (m : Model H L) (stop : ℕ) (w v : World H L) → next m stop w ≡ Some v → IsTurn m stop w v
  unfolding next
  next_turn m stop w v is = turn_by m stop w v (take_least w.events) refl is

  -- where there is no next world, no event is due before the stop
  late_if : (m : Model H L) (stop : ℕ) (w : World H L) (e : Event) (rest : List Event) (b : Bool) → nat_lt e.key.due.nanos stop ≡ b
      → (if b then Some (after_firing w e rest (fires m w.hosts e)) else None) ≡ None → stop ≤ e.key.due.nanos
  late_if m stop w e rest true due is = absurd (cc)
  late_if m stop w e rest false due is = search rules

  late_by : (m : Model H L) (stop : ℕ) (w : World H L) (o : Option (Event × List Event)) → take_least w.events ≡ o → by_least m stop w o ≡ None
      → Each (λ (x : Event). stop ≤ x.key.due.nanos) w.events
  late_by m stop w None taken is x h = absurd (none_left w.events taken x h)
  late_by m stop w (Some (e, rest)) taken is x h =
      let late : stop ≤ e.key.due.nanos = late_if m stop w e rest (nat_lt e.key.due.nanos stop) refl is in
      let order : e.key.due.nanos ≤ x.key.due.nanos = due_from x.key e.key (take_least_least w.events (e, rest) taken x h) in
      omega arith

  pub next_over : (m : Model H L) (stop : ℕ) (w : World H L) → next m stop w ≡ None → Each (λ (x : Event). stop ≤ x.key.due.nanos) w.events
  unfolding next
  next_over m stop w is = late_by m stop w (take_least w.events) refl is

  -- and where none is due, there is no next world
  over_if : (m : Model H L) (stop : ℕ) (w : World H L) (e : Event) (rest : List Event) (b : Bool) → nat_lt e.key.due.nanos stop ≡ b → stop ≤ e.key.due.nanos
      → (if b then Some (after_firing w e rest (fires m w.hosts e)) else None) ≡ None
  over_if m stop w e rest true due late = absurd (let d : e.key.due.nanos < stop = search rules in omega arith)
  over_if m stop w e rest false due late = refl

  over_by : (m : Model H L) (stop : ℕ) (w : World H L) → Each (λ (x : Event). stop ≤ x.key.due.nanos) w.events → (o : Option (Event × List Event)) → take_least w.events ≡ o → by_least m stop w o ≡ None
  over_by m stop w late None taken = refl
  over_by m stop w late (Some (e, rest)) taken = over_if m stop w e rest (nat_lt e.key.due.nanos stop) refl (late e (take_least_there w.events (e, rest) taken))

  pub next-none : (m : Model H L) (stop : ℕ) (w : World H L) → Each (λ (x : Event). stop ≤ x.key.due.nanos) w.events → next m stop w ≡ None
  unfolding next
  next-none m stop w late = over_by m stop w late (take_least w.events) refl

  -- ---- what has to hold, through a turn

  module _ (sim : Simulation H L) (w : World H L) (settled : IsSettled sim w) (e : Event) (rest : List Event) (taken : take_least w.events ≡ Some (e, rest)) where
    f : Firing H L
    f = fires sim.model w.hosts e

    there : IsIn e w.events
    there = take_least_there w.events (e, rest) taken

    moved : IsPermutation w.events (e ∷ rest)
    moved = take_least_IsPermutation w.events (e, rest) taken

    was : (x : Event) → IsIn x rest → IsIn x w.events
    was x h = IsIn_permutation x (e ∷ rest) w.events (IsPermutation-sym w.events (e ∷ rest) moved) (inr h)

    order : (x : Event) → IsIn x rest → e.key.due.nanos ≤ x.key.due.nanos
    order x h = due_from x.key e.key (take_least_least w.events (e, rest) taken x (was x h))

    pub turn_known : Known sim w.hosts e (fires sim.model w.hosts e)
    turn_known = known sim w.hosts e settled.count (Each_from_All sim.IsEvent w.events settled.events e there) settled.hosts
        (λ host is. Each_from_All (λ (y : Event). sim.model.clock host ≤ y.key.due.nanos) w.events (settled.clock (sim.model.home e) host is) e there)

    pub turn_settled : IsSettled sim (after_firing w e rest (fires sim.model w.hosts e))
    turn_settled = let k = turn_known in record {
      count = length_fires sim.model w.hosts e ∙ settled.count;
      apart = apart_append rest (fires sim.model w.hosts e).made (rest_apart e rest (AreApart_permutation w.events (e ∷ rest) moved settled.apart))
          (numbered_apart _ _ _ k.numbered)
          (λ x h g in_made. made_anew sim w.hosts e k x g (Each_from_All (λ (y : Event). y.key.number < next_at sim.model w.hosts y.key.source.index) w.events settled.below x (was x h)) in_made);
      below = All_from_Each (λ (y : Event). y.key.number < next_at sim.model (fires sim.model w.hosts e).hosts y.key.source.index) _ (Each-append (λ (y : Event). y.key.number < next_at sim.model (fires sim.model w.hosts e).hosts y.key.source.index) rest (fires sim.model w.hosts e).made
          (λ x h. below_kept sim w.hosts e k x (Each_from_All (λ (y : Event). y.key.number < next_at sim.model w.hosts y.key.source.index) w.events settled.below x (was x h)))
          (λ x h. below_made sim w.hosts e k x h));
      events = All_from_Each sim.IsEvent _ (Each-append sim.IsEvent rest (fires sim.model w.hosts e).made (λ x h. Each_from_All sim.IsEvent w.events settled.events x (was x h)) k.events);
      hosts = hosts_kept sim w.hosts e k sim.IsHost k.host settled.hosts;
      limited = hosts_kept sim w.hosts e k (λ j other. sim.model.next other ≤ sim.limit) k.limited settled.limited;
      clock = λ i host is. All_from_Each (λ (y : Event). sim.model.clock host ≤ y.key.due.nanos) _ (Each-append (λ (y : Event). sim.model.clock host ≤ y.key.due.nanos) rest (fires sim.model w.hosts e).made
          (λ x h. hosts_kept sim w.hosts e k (λ j other. sim.model.clock other ≤ x.key.due.nanos)
          (let c = k.clock in let o = order x h in omega arith)
          (λ j other at. Each_from_All (λ (y : Event). sim.model.clock other ≤ y.key.due.nanos) w.events (settled.clock j other at) x (was x h)) i host is)
          (λ x h. hosts_kept sim w.hosts e k (λ j other. sim.model.clock other ≤ x.key.due.nanos)
          (let c = k.clock in let l = k.later x h in omega arith)
          (λ j other at. (let c : sim.model.clock other ≤ e.key.due.nanos = Each_from_All (λ (y : Event). sim.model.clock other ≤ y.key.due.nanos) w.events (settled.clock j other at) e there in let l = k.later x h in omega arith)) i host is));
    }

  -- the next world of a settled one is settled
  pub settled_next : (sim : Simulation H L) (stop : ℕ) (w v : World H L) → IsSettled sim w → next sim.model stop w ≡ Some v → IsSettled sim v
  settled_next sim stop w v settled is =
      let t = next_turn sim.model stop w v is in
      subst (IsSettled sim) t.after (turn_settled sim w settled t.event t.rest t.taken)
