-- The definitions determine the routes, and what is refused.
use Rattle.std.proofs.Common.{◌≡◌, ℕ, ◌<◌, ◌≤◌, Bool, List, Option, Some, None, ap, ◌∙◌, inl, inr, arith}
use Rattle.std.specs.Prelude.{◌⊎◌, IsSomeAnd}
use Rattle.gml_graph.specs.declared.graph.Graph.{Graph}
use Rattle.net_routes.specs.declared.cost.Cost.{Cost}
use Rattle.net_routes.specs.RouteMap.{RouteMap}
use Rattle.net_routes.specs.Cost.{IsAsGood}
use Rattle.net_routes.specs.Walk.{IsRoute}
use Rattle.net_routes.specs.Needed.{IsNeeded}
use Rattle.net_routes.specs.Routes.{route_in, AreRoutes, LacksRoute, IsLeastLack}

abbrev cost : ℕ → ℕ → Cost
cost latency reliability = record { latency = latency; reliability = reliability }

-- costs of which each is as good as the other
good_antisym : (c d : Cost) → IsAsGood c d → IsAsGood d c → c ≡ d
good_antisym c d (inl p) (inl q) = absurd (omega arith)
good_antisym c d (inl p) (inr q) = absurd (omega (arith, q.0))
good_antisym c d (inr p) (inl q) = absurd (omega (arith, p.0))
good_antisym c d (inr p) (inr q) =
    let part : c.reliability ≡ d.reliability = omega (arith, p.1, q.1) in
    ap (λ (l : ℕ). cost l c.reliability) p.0 ∙ ap (λ (k : ℕ). cost d.latency k) part

-- a pair's route
pub one_route : (g : Graph) (shortest : Bool) (a b : ℕ) (c d : Cost) → IsRoute g shortest a b c → IsRoute g shortest a b d → c ≡ d
one_route g shortest a b c d h k = good_antisym c d (h.best d k.goes) (k.best c h.goes)

-- all routes
same_some : (P : Cost → Type 0) (o p : Option Cost) → ((c d : Cost) → P c → P d → c ≡ d) → IsSomeAnd o P → IsSomeAnd p P → o ≡ p
same_some P (Some c) (Some d) one h k = ap (λ (x : Cost). Some x) (one c d h k)
same_some P (Some c) None one h k = absurd k
same_some P None p one h k = absurd h

pub same_routes : (g : Graph) (shortest : Bool) (nodes : List ℕ) (r s : RouteMap) → AreRoutes g shortest nodes r → AreRoutes g shortest nodes s → (a b : ℕ) → IsNeeded nodes a b → route_in r a b ≡ route_in s a b
same_routes g shortest nodes r s h k a b need = same_some (IsRoute g shortest a b) (route_in r a b) (route_in s a b) (one_route g shortest a b) (h a b need) (k a b need)

-- refusals
no_some : (P : Cost → Type 0) (o : Option Cost) → ((c : Cost) → P c → ⊥) → IsSomeAnd o P → ⊥
no_some P (Some c) none h = none c h
no_some P None none h = absurd h

pub no_lack : (g : Graph) (shortest : Bool) (nodes : List ℕ) (r : RouteMap) (a b : ℕ) → AreRoutes g shortest nodes r → LacksRoute g shortest nodes a b → ⊥
no_lack g shortest nodes r a b h lack = no_some (IsRoute g shortest a b) (route_in r a b) (λ c route. lack.none c route.goes) (h a b lack.needed)

order_antisym : (a b p q : ℕ) → (a < p) ⊎ ((a ≡ p) × (b ≤ q)) → (p < a) ⊎ ((p ≡ a) × (q ≤ b)) → (a ≡ p) × (b ≡ q)
order_antisym a b p q (inl x) (inl y) = absurd (omega arith)
order_antisym a b p q (inl x) (inr y) = absurd (omega (arith, y.0))
order_antisym a b p q (inr x) (inl y) = absurd (omega (arith, x.0))
order_antisym a b p q (inr x) (inr y) = (x.0, omega (arith, x.1, y.1))

pub one_least_lack : (g : Graph) (shortest : Bool) (nodes : List ℕ) (a b p q : ℕ) → IsLeastLack g shortest nodes a b → IsLeastLack g shortest nodes p q → (a ≡ p) × (b ≡ q)
one_least_lack g shortest nodes a b p q h k = order_antisym a b p q (h.least p q k.lacks) (k.least a b h.lacks)
