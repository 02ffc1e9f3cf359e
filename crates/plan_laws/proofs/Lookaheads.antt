-- Where each route that hosts need is there, one of them takes least.
use Rattle.std.proofs.Common.{◌≡◌, ◌≢◌, ℕ, zero, suc, ◌<◌, ◌≤◌, List, length, slice_index, Option, Some, None, IsSome, option_map, refl, sym, subst, inl, inr, true≢false, add-one, arith}
use Rattle.std.proofs.lemmas.Bool.{cases_lt}
use Rattle.sim_base.specs.declared.time.Time.{Time}
use Rattle.net_routes.specs.declared.cost.Cost.{Cost}
use Rattle.net_routes.specs.RouteMap.{RouteMap}
use Rattle.net_routes.specs.Routes.{HasRoutes, route_in}
use Rattle.net_routes.specs.Least.{IsLookahead}
use Rattle.net_routes.specs.inside.LeastSteps.{IsLatency, IsLeastIf, IsFromTo, IsFromFirst, lesser}
use Rattle.net_routes.proofs.LeastLemmas.{from_none, from_more, first_none, first_more, lookahead_least}
use Rattle.run_plan.specs.Plan.{nanos_of}

latency_in : (o : Option Cost) → IsSome o → (t : ℕ) × (option_map (λ (c : Cost). c.latency) o ≡ Some t)
latency_in None h = absurd (true≢false (sym h))
latency_in (Some c) h = (c.latency, refl)

module _ (nodes : List ℕ) (routes : RouteMap) (has : HasRoutes nodes routes) where
  -- between two hosts
  between_others : (p q : ℕ) → p < length nodes → q < length nodes → p ≢ q → (o : Option ℕ) × IsLatency nodes routes p q o
  between_others p q first second others =
      let there = latency_in (route_in routes (slice_index nodes p) (slice_index nodes q)) (has (slice_index nodes p) (slice_index nodes q) (record {
        first = p;
        second = q;
        others = others;
        from = record { within = first; is = refl };
        to = record { within = second; is = refl };
      })) in
      (Some there.0, (others, there.1))

  between : (p q : ℕ) → p < length nodes → q < length nodes → (o : Option ℕ) × IsLatency nodes routes p q o
  between p q first second = elim (cases_lt p q) [
    | inl less ↦ between_others p q first second (λ e. omega (arith, less, e))
    | inr at_most ↦ elim (cases_lt q p) [
      | inl less ↦ between_others p q first second (λ e. omega (arith, less, e))
      | inr at_least ↦ (None, omega (arith, at_most, at_least))
    ]
  ]

  -- from one host to the first others
  from_host : (p : ℕ) → p < length nodes → (count : ℕ) → count ≤ length nodes → (o : Option ℕ) × IsLeastIf (IsFromTo p count) nodes routes o
  from_host p first zero within = (None, from_none nodes routes p)
  from_host p first (suc i) within =
      let before = from_host p first i (omega (arith, within)) in
      let one = between p i first (omega (arith, within)) in
      (lesser before.0 one.0, subst (λ (n : ℕ). IsLeastIf (IsFromTo p n) nodes routes (lesser before.0 one.0)) (add-one i) (from_more nodes routes p i before.0 one.0 before.1 one.1))

  -- from the first hosts
  from_hosts : (count : ℕ) → count ≤ length nodes → (o : Option ℕ) × IsLeastIf (IsFromFirst count (length nodes)) nodes routes o
  from_hosts zero within = (None, first_none nodes routes (length nodes))
  from_hosts (suc i) within =
      let less : i < length nodes = omega (arith, within) in
      let before = from_hosts i (omega (arith, within)) in
      let one = from_host i less (length nodes) (omega arith) in
      (lesser before.0 one.0, subst (λ (n : ℕ). IsLeastIf (IsFromFirst n (length nodes)) nodes routes (lesser before.0 one.0)) (add-one i) (first_more nodes routes (length nodes) i before.0 one.0 less before.1 one.1))

as_time : (nodes : List ℕ) (routes : RouteMap) (o : Option ℕ) → IsLookahead nodes routes o → (t : Option Time) × IsLookahead nodes routes (nanos_of t)
as_time nodes routes None h = (None, h)
as_time nodes routes (Some n) h = (Some (record { nanos = n }), h)

-- where hosts have their routes, these have a least latency, or there are no two hosts
pub some_lookahead : (nodes : List ℕ) (routes : RouteMap) → HasRoutes nodes routes → (t : Option Time) × IsLookahead nodes routes (nanos_of t)
some_lookahead nodes routes has =
    let found = from_hosts nodes routes has (length nodes) (omega arith) in
    as_time nodes routes found.0 (lookahead_least nodes routes found.0 found.1)
