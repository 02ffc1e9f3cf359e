-- The best way of each pair of nodes, or that none goes.
use Rattle.std.proofs.Common.{◌≡◌, ℕ, ◌<◌, Bool, true, false, List, [], ◌∷◌, length, Option, Some, None, refl, sym, subst, inl, inr, ⊎_elim, arith}
use Rattle.std.specs.Prelude.{Contains, ◌⊎◌}
use Rattle.std.proofs.lemmas.Bool.{cases_eq}
use Rattle.gml_graph.specs.declared.graph.Graph.{Graph}
use Rattle.net_routes.specs.declared.cost.Cost.{Cost}
use Rattle.net_routes.specs.declared.hop.Hop.{Hop}
use Rattle.net_routes.specs.Cost.{nothing, IsAsGood}
use Rattle.net_routes.specs.Table.{IsRouteIfAny}
use Rattle.net_routes.specs.Walk.{Leads, then_hop, cost_of, Goes, AreHops, hops}
use Rattle.net_routes.proofs.CostLemmas.{good_refl}
use Rattle.net_routes.proofs.ListLemmas.{contains_cons, contains_head, contains_cases}
use Rattle.plan_laws.proofs.Bests.{HasBestIfAny, AreBoth, best_of_both, same_best}
use Rattle.plan_laws.proofs.Walks.{HasWalk, walk_best}

-- ---- one hop

-- the hop leads from a to b, and costs so much
record IsHop (s : Hop) (a b : ℕ) (c : Cost) : Type 0 where
  from : s.from ≡ a
  to : s.to ≡ b
  costs : then_hop nothing s ≡ c

-- some hop does
record HasHop (ss : List Hop) (a b : ℕ) (c : Cost) : Type 0 where
  hop : Hop
  there : Contains ss hop
  is : IsHop hop a b c

hop_alone : (s : Hop) (a b : ℕ) → HasBestIfAny (IsHop s a b)
hop_alone s a b =
    ⊎_elim
    (λ (from : s.from ≡ a). ⊎_elim
    (λ (to : s.to ≡ b). inl (
      then_hop nothing s,
      record {
        has = record { from = from; to = to; costs = refl };
        best = λ d h. subst (λ x. IsAsGood (then_hop nothing s) x) h.costs (good_refl (then_hop nothing s));
      },
    ))
    (λ (other : s.to ≡ b → ⊥). inr (λ d h. other h.to))
    (cases_eq s.to b))
    (λ (other : s.from ≡ a → ⊥). inr (λ d h. other h.from))
    (cases_eq s.from a)

both_hops : (s : Hop) (ss : List Hop) (a b : ℕ) → AreBoth (IsHop s a b) (HasHop ss a b) (HasHop (s ∷ ss) a b)
both_hops s ss a b = record {
  first = λ d h. record { hop = s; there = contains_head s ss; is = h };
  second = λ d h. record { hop = h.hop; there = contains_cons s ss h.hop h.there; is = h.is };
  cases = λ d h. (
    d,
    ⊎_elim
        (λ (same : s ≡ h.hop). inl (subst (λ x. IsHop x a b d) (sym same) h.is))
        (λ (there : Contains ss h.hop). inr (record { hop = h.hop; there = there; is = h.is }))
        (contains_cases s ss h.hop h.there),
    good_refl d,
  );
}

hop_best : (ss : List Hop) (a b : ℕ) → HasBestIfAny (HasHop ss a b)
hop_best [] a b = inr (λ d h. absurd (omega (arith, h.there.1)))
hop_best (s ∷ ss) a b = best_of_both (IsHop s a b) (HasHop ss a b) (HasHop (s ∷ ss) a b) (both_hops s ss a b) (hop_alone s a b) (hop_best ss a b)

-- ---- where walks have one hop

goes_hop : (ss : List Hop) (shortest : Bool) (a b : ℕ) (c : Cost) → HasHop ss a b c → Goes ss shortest a b c
goes_hop ss shortest a b c h = record {
  walk = h.hop ∷ [];
  leads = (h.there, h.is.from, h.is.to);
  may = record { some = omega arith; one = λ either. refl };
  costs = h.is.costs;
}

one_hop : (ss : List Hop) (a b : ℕ) (c : Cost) (walk : List Hop) → length walk ≡ 1 → Leads ss a b walk → cost_of walk ≡ c → HasHop ss a b c
one_hop ss a b c [] one h costs = absurd (omega (arith, one))
one_hop ss a b c (s ∷ []) one h costs = record { hop = s; there = h.0; is = record { from = h.1; to = h.2; costs = costs } }
one_hop ss a b c (s ∷ t ∷ walk) one h costs = absurd (omega (arith, one))

one_best : (ss : List Hop) (shortest : Bool) (a b : ℕ) → (shortest ≡ false) ⊎ (a ≡ b) → HasBestIfAny (Goes ss shortest a b)
one_best ss shortest a b either =
    same_best (HasHop ss a b) (Goes ss shortest a b)
    (λ c h. goes_hop ss shortest a b c h)
    (λ c h. one_hop ss a b c h.walk (h.may.one either) h.leads h.costs)
    (hop_best ss a b)

-- ---- where they may have more

some_hop : (ss : List Hop) (a b : ℕ) (walk : List Hop) → (a ≡ b → ⊥) → Leads ss a b walk → 0 < length walk
some_hop ss a b [] other h = absurd (other h)
some_hop ss a b (s ∷ walk) other h = omega arith

not_one : (a b : ℕ) → (a ≡ b → ⊥) → (true ≡ false) ⊎ (a ≡ b) → ⊥
not_one a b other (inl e) = cc
not_one a b other (inr e) = other e

goes_walk : (ss : List Hop) (a b : ℕ) (c : Cost) → (a ≡ b → ⊥) → HasWalk ss nothing a b c → Goes ss true a b c
goes_walk ss a b c other h = record {
  walk = h.walk;
  leads = h.leads;
  may = record { some = some_hop ss a b h.walk other h.leads; one = λ either. absurd (not_one a b other either) };
  costs = h.costs;
}

more_best : (ss : List Hop) → ((s : Hop) → Contains ss s → 0 < s.cost.latency) → (a b : ℕ) → (a ≡ b → ⊥) → HasBestIfAny (Goes ss true a b)
more_best ss some a b other =
    same_best (HasWalk ss nothing a b) (Goes ss true a b)
    (λ c h. goes_walk ss a b c other h)
    (λ c h. record { walk = h.walk; leads = h.leads; costs = h.costs })
    (walk_best ss some nothing a b)

-- ---- both

either_best : (ss : List Hop) → ((s : Hop) → Contains ss s → 0 < s.cost.latency) → (shortest : Bool) (a b : ℕ) → HasBestIfAny (Goes ss shortest a b)
either_best ss some false a b = one_best ss false a b (inl refl)
either_best ss some true a b = ⊎_elim (λ (same : a ≡ b). one_best ss true a b (inr same)) (λ (other : a ≡ b → ⊥). more_best ss some a b other) (cases_eq a b)

-- the best way of a pair
pub way_best : (ss : List Hop) → AreHops ss → (shortest : Bool) (a b : ℕ) → HasBestIfAny (Goes ss shortest a b)
way_best ss are shortest a b = either_best ss (λ s h. (are.each s h).some) shortest a b

-- the route of a pair, or nothing
pub route_if_any : (g : Graph) (shortest : Bool) (a b : ℕ) → HasBestIfAny (Goes (hops g) shortest a b) → (o : Option Cost) × IsRouteIfAny g shortest a b o
route_if_any g shortest a b (inl h) = (Some h.0, record { goes = h.1.has; best = h.1.best })
route_if_any g shortest a b (inr none) = (None, none)
