-- A graph and the nodes of hosts have one table of routes of routes.
use Rattle.std.proofs.Common.{◌≡◌, ℕ, Bool, List, Option, Some, None, refl, sym, ap, ◌∙◌}
use Rattle.std.specs.Prelude.{Contains}
use Rattle.std.specs.FinMap.{same_map}
use Rattle.gml_graph.specs.declared.graph.Graph.{Graph}
use Rattle.net_routes.specs.declared.cost.Cost.{Cost}
use Rattle.net_routes.specs.RouteMap.{RouteMap}
use Rattle.net_routes.specs.Routes.{route_in}
use Rattle.net_routes.specs.Table.{IsRouteIfAny, IsTable}
use Rattle.net_routes.proofs.RouteLaws.{one_route}
use Rattle.net_routes.proofs.RouteLemmas.{some_there}
use Rattle.net_routes.proofs.RouteMapLemmas.{pairs_total, exact_nodes}

one_if_any : (g : Graph) (shortest : Bool) (a b : ℕ) (o p : Option Cost) → IsRouteIfAny g shortest a b o → IsRouteIfAny g shortest a b p → o ≡ p
one_if_any g shortest a b None None h k = refl
one_if_any g shortest a b None (Some d) h k = absurd (h d k.goes)
one_if_any g shortest a b (Some c) None h k = absurd (k c h.goes)
one_if_any g shortest a b (Some c) (Some d) h k = ap (λ (x : Cost). Some x) (one_route g shortest a b c d h k)

module _ (g : Graph) (shortest : Bool) (nodes : List ℕ) (r s : RouteMap) (h : IsTable g shortest nodes r) (k : IsTable g shortest nodes s) where
  same_between : (a b : ℕ) → Contains nodes a × Contains nodes b → route_in r a b ≡ route_in s a b
  same_between a b there = one_if_any g shortest a b (route_in r a b) (route_in s a b) (h.each a b there.0 there.1) (k.each a b there.0 there.1)

  same_at : (a b : ℕ) (o p : Option Cost) → route_in r a b ≡ o → route_in s a b ≡ p → route_in r a b ≡ route_in s a b
  same_at a b None None e f = e ∙ sym f
  same_at a b (Some c) p e f = same_between a b (h.others a b (some_there (route_in r a b) c e))
  same_at a b None (Some d) e f = same_between a b (k.others a b (some_there (route_in s a b) d f))

  pub one_table : r ≡ s
  one_table = same_map pairs_total exact_nodes r s (λ q. same_at q.0 q.1 (route_in r q.0 q.1) (route_in s q.0 q.1) refl refl)
