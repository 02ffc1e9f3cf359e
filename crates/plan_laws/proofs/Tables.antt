-- A graph and the nodes of hosts have a table of routes.
use Rattle.std.proofs.Common.{◌≡◌, ℕ, ◌<◌, ◌≤◌, Bool, false, cond, ◌==◌, nat_lt, List, [], length, get_or, map, Option, Some, None, sym, ap, ◌∙◌, subst, ⊎_elim, arith}
use Rattle.std.specs.Prelude.{Contains}
use Rattle.std.specs.List.{position_or_len}
use Rattle.std.proofs.lemmas.Bool.{cases_lt}
use Rattle.std.proofs.lemmas.Bool.Decides.{nat_tests}
use Rattle.std.proofs.lemmas.List.{get_or-map}
use Rattle.std.proofs.lemmas.List.Sums.{fails_before_first}
use Rattle.gml_graph.specs.declared.graph.Graph.{Graph}
use Rattle.net_routes.specs.declared.cost.Cost.{Cost}
use Rattle.net_routes.specs.RouteMap.{RouteMap}
use Rattle.net_routes.specs.Routes.{route_in}
use Rattle.net_routes.specs.Table.{IsRouteIfAny, IsTable}
use Rattle.net_routes.specs.inside.Places.{place_of}
use Rattle.net_routes.specs.inside.RouteMaps.{map_of}
use Rattle.net_routes.proofs.PlaceLemmas.{place_at}
use Rattle.net_routes.proofs.RouteLemmas.{route_placed}
use Rattle.net_routes.proofs.RouteMapLemmas.{routes_kept, kept_between}

-- ---- each member has a place

test_fails : (n id : ℕ) → n ≡ id → (n == id) ≡ false → ⊥
test_fails n id e f = grind (arith, nat_tests)

within_some : (i n : ℕ) → i < n → cond (nat_lt i n) (Some i) None ≡ Some i
within_some i n lt = grind (arith, nat_tests)

member_place : (ids : List ℕ) (id : ℕ) → Contains ids id → (i : ℕ) × (place_of ids id ≡ Some i)
member_place ids id h =
    let first : ℕ = position_or_len (λ n. n == id) ids in
    ⊎_elim
    (λ (before : h.0 < first). absurd (test_fails (get_or ids h.0 id) id h.2 (fails_before_first (λ n. n == id) ids h.0 id before)))
    (λ (at : first ≤ h.0). (first, within_some first (length ids) (omega (arith, at, h.1))))
    (cases_lt h.0 first)

-- ---- rows with a cost for each pair

module _ (f : ℕ → ℕ → Option Cost) (nodes : List ℕ) where
  abbrev pub rows_of : List (List (Option Cost))
  rows_of = map (λ (a : ℕ). map (f a) nodes) nodes

  cost_placed : (i j a b : ℕ) → i < length nodes → j < length nodes → get_or nodes i 0 ≡ a → get_or nodes j 0 ≡ b → get_or (get_or rows_of i []) j None ≡ f a b
  cost_placed i j a b within inside from to =
      ap (λ (row : List (Option Cost)). get_or row j None) (get_or-map (λ (a : ℕ). map (f a) nodes) nodes i 0 [] within)
      ∙ get_or-map (f (get_or nodes i 0)) nodes j 0 None inside
      ∙ ap (λ (x : ℕ). f x (get_or nodes j 0)) from
      ∙ ap (λ (y : ℕ). f a y) to

  pair_kept : (a b : ℕ) → Contains nodes a → Contains nodes b → route_in (map_of nodes rows_of) a b ≡ f a b
  pair_kept a b from to =
      let i = member_place nodes a from in
      let j = member_place nodes b to in
      let at = place_at nodes a i.0 i.1 in
      let there = place_at nodes b j.0 j.1 in
      routes_kept nodes rows_of a b ∙ route_placed nodes rows_of a b i.0 j.0 i.1 j.1 ∙ cost_placed i.0 j.0 a b at.within there.within at.is there.is

-- what is found of each pair makes a table
pub table_of : (g : Graph) (shortest : Bool) (nodes : List ℕ) → ((a b : ℕ) → (o : Option Cost) × IsRouteIfAny g shortest a b o) → (r : RouteMap) × IsTable g shortest nodes r
table_of g shortest nodes found =
    let f : ℕ → ℕ → Option Cost = λ a b. (found a b).0 in (
      map_of nodes (rows_of f nodes),
      record {
        each = λ a b from to. subst (λ o. IsRouteIfAny g shortest a b o) (sym (pair_kept f nodes a b from to)) (found a b).1;
        others = kept_between nodes (rows_of f nodes);
      },
    )
