-- what rows stand for: at each pair of nodes the cost that they keep
use Rattle.std.proofs.Common.{◌≡◌, ℕ, zero, suc, Bool, true, false, cond, List, [], ◌∷◌, Option, Some, None, refl, sym, ap, ◌∙◌, subst, arith}
use Rattle.std.specs.Prelude.{Contains, IsSome, option_and_then, slice_index_or}
use Rattle.std.specs.Cmp.{IsTotalOrder}
use Rattle.std.specs.FinMap.{empty, get-insert, get-empty}
use Rattle.std.specs.Ordering.{nat_cmp, eq_by_cmp}
use Rattle.std.proofs.lemmas.Cmp.{nat_cmp_total, on_total, then_total, eq_by_cmp_equiv}
use Rattle.std.proofs.lemmas.Map.Lookups.{CmpEqualImpliesEq, exact_pairs, exact_unsigned}
use Rattle.std.proofs.lemmas.Map.Views.{tells_apart}
use Rattle.net_routes.specs.declared.cost.Cost.{Cost}
use Rattle.net_routes.specs.Needed.{IsAt}
use Rattle.net_routes.specs.RouteMap.{RouteMap, pair_order}
use Rattle.net_routes.specs.Routes.{route_in, AreBetween}
use Rattle.net_routes.specs.inside.Places.{place_of}
use Rattle.net_routes.specs.inside.RouteMaps.{route_at, with_route, with_routes, with_all, map_of}
use Rattle.net_routes.proofs.PlaceLemmas.{at_contains, contains_at, place_at}
use Rattle.net_routes.proofs.RouteLemmas.{some_there}

-- ---- pairs of nodes are in order, and no two are alike

pub pairs_total : IsTotalOrder pair_order
pairs_total = then_total (on_total (λ (p : ℕ × ℕ). p.0) nat_cmp_total) (on_total (λ (p : ℕ × ℕ). p.1) nat_cmp_total)

pub exact_nodes : CmpEqualImpliesEq pair_order
exact_nodes = exact_pairs nat_cmp nat_cmp exact_unsigned exact_unsigned

-- ---- routes that are added one by one: where the map has what f has it keeps it, and what is added it has

not_some : (c : Cost) → ◌≡◌ {A = Option Cost} None (Some c) → ⊥
not_some c e = cc

module _ (f : ℕ → ℕ → Option Cost) (p q : ℕ) where
  abbrev IsRight : RouteMap → Type 0
  IsRight m = route_in m p q ≡ f p q

  right_either : (m : RouteMap) (a b : ℕ) (c : Cost) (alike : Bool) → eq_by_cmp pair_order (p, q) (a, b) ≡ alike → f a b ≡ Some c → IsRight m → cond alike (Some c) (route_in m p q) ≡ f p q
  right_either m a b c true e is right =
      let same : ◌≡◌ {A = ℕ × ℕ} (p, q) (a, b) = tells_apart exact_nodes (p, q) (a, b) e in
      subst (λ (x : ℕ × ℕ). Some c ≡ f x.0 x.1) (sym same) (sym is)
  right_either m a b c false e is right = right

  right_kept : (m : RouteMap) (a b : ℕ) (o : Option Cost) → f a b ≡ o → IsRight m → IsRight (with_route a b o m)
  right_kept m a b None is right = right
  right_kept m a b (Some c) is right =
      get-insert pairs_total m (a, b) c (p, q) ∙ right_either m a b c (eq_by_cmp pair_order (p, q) (a, b)) refl is right

  right_put : (m : RouteMap) (c : Cost) (o : Option Cost) → f p q ≡ o → o ≡ Some c → IsRight (with_route p q o m)
  right_put m c None e is = absurd (not_some c is)
  right_put m c (Some d) e is =
      get-insert pairs_total m (p, q) d (p, q)
      ∙ ap (λ (alike : Bool). cond alike (Some d) (route_in m p q)) ((eq_by_cmp_equiv pairs_total).refl (p, q)) ∙ sym e

  -- from a node to some
  row_kept : (a : ℕ) (bs : List ℕ) (m : RouteMap) → IsRight m → IsRight (with_routes (f a) a bs m)
  row_kept a [] m right = right
  row_kept a (b ∷ bs) m right = right_kept (with_routes (f a) a bs m) a b (f a b) refl (row_kept a bs m right)

  row_put : (bs : List ℕ) (m : RouteMap) (c : Cost) (j : ℕ) → f p q ≡ Some c → IsAt bs j q → IsRight (with_routes (f p) p bs m)
  row_put [] m c j is at = absurd (omega (arith, at.within))
  row_put (b ∷ bs) m c zero is at =
      let same : b ≡ q = at.is in
      let P : ℕ → Type 0 = λ x. IsRight (with_route p x (f p x) (with_routes (f p) p bs m)) in
      subst P (sym same) (right_put (with_routes (f p) p bs m) c (f p q) refl is)
  row_put (b ∷ bs) m c (suc j) is at =
      right_kept (with_routes (f p) p bs m) p b (f p b) refl (row_put bs m c j is (record { within = omega (arith, at.within); is = at.is }))

  -- from some nodes to some
  all_kept : (more bs : List ℕ) (m : RouteMap) → IsRight m → IsRight (with_all f more bs m)
  all_kept [] bs m right = right
  all_kept (a ∷ more) bs m right = row_kept a bs (with_all f more bs m) (all_kept more bs m right)

  all_put : (more bs : List ℕ) (m : RouteMap) (c : Cost) (i j : ℕ) → f p q ≡ Some c → IsAt more i p → IsAt bs j q → IsRight (with_all f more bs m)
  all_put [] bs m c i j is from to = absurd (omega (arith, from.within))
  all_put (a ∷ more) bs m c zero j is from to =
      let same : a ≡ p = from.is in
      let P : ℕ → Type 0 = λ x. IsRight (with_routes (f x) x bs (with_all f more bs m)) in
      subst P (sym same) (row_put bs (with_all f more bs m) c j is to)
  all_put (a ∷ more) bs m c (suc i) j is from to =
      row_kept a bs (with_all f more bs m) (all_put more bs m c i j is (record { within = omega (arith, from.within); is = from.is }) to)

  all_right : (stops : List ℕ) (o : Option Cost) → f p q ≡ o → ((c : Cost) → o ≡ Some c → Contains stops p × Contains stops q) → IsRight (with_all f stops stops empty)
  all_right stops None e there = all_kept stops stops empty (get-empty pair_order (p, q) ∙ sym e)
  all_right stops (Some c) e there =
      let both = there c refl in
      let from = at_contains stops p both.0 in
      let to = at_contains stops q both.1 in
      all_put stops stops empty c from.0 to.0 e from.1 to.1

-- ---- rows keep routes between their nodes, and the map has them

both_there : (stops : List ℕ) (rows : List (List (Option Cost))) (a b : ℕ) (p q : Option ℕ) → place_of stops a ≡ p → place_of stops b ≡ q
    → IsSome (option_and_then (λ i. option_and_then (λ j. slice_index_or (slice_index_or rows i []) j None) q) p) → Contains stops a × Contains stops b
both_there stops rows a b None q e f h = absurd (let never : ⊥ = cc in never)
both_there stops rows a b (Some i) None e f h = absurd (let never : ⊥ = cc in never)
both_there stops rows a b (Some i) (Some j) e f h = (contains_at stops i a (place_at stops a i e), contains_at stops j b (place_at stops b j f))

nodes_there : (stops : List ℕ) (rows : List (List (Option Cost))) (a b : ℕ) → IsSome (route_at stops rows a b) → Contains stops a × Contains stops b
nodes_there stops rows a b some = both_there stops rows a b (place_of stops a) (place_of stops b) refl refl some

pub routes_kept : (stops : List ℕ) (rows : List (List (Option Cost))) (a b : ℕ) → route_in (map_of stops rows) a b ≡ route_at stops rows a b
unfolding map_of
routes_kept stops rows a b =
    all_right (route_at stops rows) a b stops (route_at stops rows a b) refl
    (λ c is. nodes_there stops rows a b (some_there (route_at stops rows a b) c is))

pub kept_between : (stops : List ℕ) (rows : List (List (Option Cost))) → AreBetween stops (map_of stops rows)
kept_between stops rows a b some = nodes_there stops rows a b (subst (λ (o : Option Cost). IsSome o) (routes_kept stops rows a b) some)
