-- walks along hops and paths along arcs
use Rattle.std.proofs.Common.{◌≡◌, ℕ, suc, ◌<◌, ◌≤◌, Bool, false, List, [], ◌∷◌, ◌++◌, length, get_or, set, fold, Option, Some, None, refl, sym, ap, ◌∙◌, subst, inl, inr, ⊎_elim, arith, length-set}
use Rattle.std.specs.Prelude.{Contains, All, ◌⊎◌, option_and_then}
use Rattle.std.specs.List.Sorted.{IsStrictlyIncreasing}
use Rattle.std.proofs.lemmas.Bool.{cases_eq, cases_lt}
use Rattle.std.proofs.lemmas.List.{get_or-set_same, get_or-set_other, get_or_past}
use Rattle.std.proofs.lemmas.List.Elements.{Contains-push, Contains-push_cases, Contains-append_left}
use Rattle.net_routes.specs.declared.cost.Cost.{Cost}
use Rattle.net_routes.specs.declared.hop.Hop.{Hop}
use Rattle.net_routes.specs.declared.arc.Arc.{Arc}
use Rattle.net_routes.specs.Cost.{nothing, and_then, IsHopCost}
use Rattle.net_routes.specs.Walk as walks
use Rattle.net_routes.specs.Walk.{then_hop, cost_of, MayGo, Goes, AreHops}
use Rattle.net_routes.specs.Needed.{IsAt}
use Rattle.net_routes.specs.inside.Places.{place_of}
use Rattle.net_routes.specs.inside.Path.{Leaves, Leads, then_arc, HasWay, AreArcs, IsBest}
use Rattle.net_routes.specs.inside.Adjacency.{IsArcOf, IsAdjacency, AddsArc, cost_to}
use Rattle.net_routes.proofs.PlaceLemmas.{at_once, at_is, place_found, place_at}
use Rattle.net_routes.proofs.ArcLemmas.{found}

-- THE ARCS OF STEPS

empty_row : (rows : List (List Arc)) (place : ℕ) → All (λ (row : List Arc). row ≡ []) rows → get_or rows place [] ≡ []
empty_row rows place none =
    ⊎_elim
    (λ (lt : place < length rows). none place [] lt)
    (λ (ge : length rows ≤ place). get_or_past rows place [] ge)
    (cases_lt place (length rows))

none_leaves : (rows : List (List Arc)) (place : ℕ) (x : Arc) → get_or rows place [] ≡ [] → Leaves rows place x → ⊥
none_leaves rows place x e l =
    let P : List Arc → Type 0 = λ row. Contains row x in
    let h = subst P e l in
    omega (arith, h.1)

pub adjacency_none : (ids : List ℕ) (rows : List (List Arc)) → length rows ≡ length ids → All (λ (row : List Arc). row ≡ []) rows → IsAdjacency [] ids rows
adjacency_none ids rows size none = record {
  size = size;
  arcs = λ place x l. absurd (none_leaves rows place x (empty_row rows place none) l);
  hops = λ s h. absurd (omega (arith, h.1));
}

more : List (List Arc) → ℕ → Arc → List (List Arc)
more rows place x = set rows place (get_or rows place [] ++ x ∷ [])

leaves_still : (rows : List (List Arc)) (place : ℕ) (x : Arc) (q : ℕ) (y : Arc) → place < length rows → Leaves rows q y → Leaves (more rows place x) q y
unfolding more
leaves_still rows place x q y lt l =
    ⊎_elim
    (λ (same : q ≡ place).
    let L : ℕ → Type 0 = λ p. Leaves rows p y in
    let P : ℕ → Type 0 = λ p. Leaves (more rows place x) p y in
    let R : List Arc → Type 0 = λ row. Contains row y in
    subst P (sym same) (subst R (sym (get_or-set_same rows place (get_or rows place [] ++ x ∷ []) [] lt)) (Contains-append_left (get_or rows place []) (x ∷ []) y (subst L same l))))
    (λ (other : q ≡ place → ⊥).
    let R : List Arc → Type 0 = λ row. Contains row y in
    subst R (sym (get_or-set_other rows place q (get_or rows place [] ++ x ∷ []) [] other)) l)
    (cases_eq q place)

leaves_now : (rows : List (List Arc)) (place : ℕ) (x : Arc) → place < length rows → Leaves (more rows place x) place x
unfolding more
leaves_now rows place x lt =
    let R : List Arc → Type 0 = λ row. Contains row x in
    subst R (sym (get_or-set_same rows place (get_or rows place [] ++ x ∷ []) [] lt)) (Contains-push (get_or rows place []) x)

leaves_cases : (rows : List (List Arc)) (place : ℕ) (x : Arc) (q : ℕ) (y : Arc) → place < length rows → Leaves (more rows place x) q y → Leaves rows q y ⊎ ((q ≡ place) × (x ≡ y))
unfolding more
leaves_cases rows place x q y lt l =
    ⊎_elim
    (λ (same : q ≡ place).
    let L : ℕ → Type 0 = λ p. Leaves (more rows place x) p y in
    let R : List Arc → Type 0 = λ row. Contains row y in
    let here : Contains (get_or rows place [] ++ x ∷ []) y = subst R (get_or-set_same rows place (get_or rows place [] ++ x ∷ []) [] lt) (subst L same l) in
    ⊎_elim
    (λ (old : Contains (get_or rows place []) y). let P : ℕ → Type 0 = λ p. Leaves rows p y in inl (subst P (sym same) old))
    (λ (now : x ≡ y). inr (same, now))
    (Contains-push_cases (get_or rows place []) x y here))
    (λ (other : q ≡ place → ⊥).
    let R : List Arc → Type 0 = λ row. Contains row y in
    inl (subst R (get_or-set_other rows place q (get_or rows place [] ++ x ∷ []) [] other) l))
    (cases_eq q place)

adjacency_set : (ss : List Hop) (ids : List ℕ) (rows : List (List Arc)) (s : Hop) (place : ℕ) (x : Arc) → IsAdjacency ss ids rows → IsArcOf ids place x s → IsAdjacency (ss ++ s ∷ []) ids (more rows place x)
unfolding more
adjacency_set ss ids rows s place x adjacency of =
    let lt : place < length rows = omega (arith, of.from.within, adjacency.size) in
    record {
      size = length-set rows place (get_or rows place [] ++ x ∷ []) ∙ adjacency.size;
      arcs = λ q y l. ⊎_elim
          (λ (old : Leaves rows q y). let w = adjacency.arcs q y old in (w.0, Contains-append_left ss (s ∷ []) w.0 w.1, w.2))
          (λ (now : (q ≡ place) × (x ≡ y)).
          let P : ℕ → Type 0 = λ p. IsArcOf ids p y s in
          let Q : Arc → Type 0 = λ z. IsArcOf ids place z s in
          (s, Contains-push ss s, subst P (sym now.0) (subst Q now.1 of)))
          (leaves_cases rows place x q y lt l);
      hops = λ t h. ⊎_elim
          (λ (old : Contains ss t). let w = adjacency.hops t old in (w.0, w.1, leaves_still rows place x w.0 w.1 lt w.2, w.3))
          (λ (now : s ≡ t). let P : Hop → Type 0 = λ z. IsArcOf ids place x z in (place, x, leaves_now rows place x lt, subst P now of))
          (Contains-push_cases ss s t h);
    }

-- one hop more
pub adjacency_more : (ss : List Hop) (ids : List ℕ) (rows new : List (List Arc)) (s : Hop) → IsAdjacency ss ids rows → AddsArc ids s rows new → IsAdjacency (ss ++ s ∷ []) ids new
unfolding more
adjacency_more ss ids rows new s adjacency adds =
    let P : List (List Arc) → Type 0 = λ r. IsAdjacency (ss ++ s ∷ []) ids r in
    subst P (sym adds.added) (adjacency_set ss ids rows s adds.place adds.arc adjacency adds.arc_of)

pub adjacency_arcs : (ss : List Hop) (ids : List ℕ) (rows : List (List Arc)) → IsAdjacency ss ids rows → AreHops ss → AreArcs rows
adjacency_arcs ss ids rows adjacency sound place x l =
    let w = adjacency.arcs place x l in
    let P : Cost → Type 0 = λ c. IsHopCost c in
    record { ends = omega (arith, w.2.to.within, adjacency.size); hop = subst P (sym w.2.cost) (sound.each w.0 w.1) }

-- WALKS AND PATHS

-- the cost behind the same hop
same_hop : (c : Cost) (x : Arc) (s : Hop) → x.cost ≡ s.cost → then_hop c s ≡ then_arc c x
same_hop c x s e = ap (λ (k : Cost). and_then c k) (sym e)

pub walk_of_path : (ss : List Hop) (ids : List ℕ) (rows : List (List Arc)) → IsAdjacency ss ids rows → (a b from : ℕ) (path : List Arc) (c : Cost) → IsAt ids a from → Leads rows a b path
    → (to : ℕ) × (walk : List Hop) × IsAt ids b to × walks.Leads ss from to walk × (length walk ≡ length path) × (fold then_hop c walk ≡ fold then_arc c path)
walk_of_path ss ids rows adjacency a b from [] c at l = (from, [], (let P : ℕ → Type 0 = λ p. IsAt ids p from in subst P l at), refl, refl, refl)
walk_of_path ss ids rows adjacency a b from (x ∷ path) c at l =
    let w = adjacency.arcs a x l.0 in
    let r = walk_of_path ss ids rows adjacency x.to b w.0.to path (then_arc c x) w.2.to l.1 in
    let starts : w.0.from ≡ from = at_is ids a w.0.from from w.2.from at in
    (r.0, w.0 ∷ r.1, r.2, (w.1, starts, r.3), ap (λ (n : ℕ). suc n) r.4, ap (λ (k : Cost). fold then_hop k r.1) (same_hop c x w.0 w.2.cost) ∙ r.5)

pub path_of_walk : (ss : List Hop) (ids : List ℕ) (rows : List (List Arc)) → IsStrictlyIncreasing ids → IsAdjacency ss ids rows → (a from to : ℕ) (walk : List Hop) (c : Cost) → IsAt ids a from → walks.Leads ss from to walk
    → (b : ℕ) × (path : List Arc) × IsAt ids b to × Leads rows a b path × (length path ≡ length walk) × (fold then_arc c path ≡ fold then_hop c walk)
path_of_walk ss ids rows up adjacency a from to [] c at l = (a, [], (let P : ℕ → Type 0 = λ p. IsAt ids a p in subst P l at), refl, refl, refl)
path_of_walk ss ids rows up adjacency a from to (s ∷ walk) c at l =
    let w = adjacency.hops s l.0 in
    let F : ℕ → Type 0 = λ p. IsAt ids w.0 p in
    let same : w.0 ≡ a = at_once ids w.0 a from up (subst F l.1 w.3.from) at in
    let r = path_of_walk ss ids rows up adjacency w.1.to s.to to walk (then_hop c s) w.3.to l.2 in
    let L : ℕ → Type 0 = λ p. Leaves rows p w.1 in
    (r.0, w.1 ∷ r.1, r.2, (subst L same w.2, r.3), ap (λ (n : ℕ). suc n) r.4, ap (λ (k : Cost). fold then_arc k r.1) (sym (same_hop c w.1 s w.3.cost)) ∙ r.5)

-- WHAT IS FOUND FOR NODES

abbrev at_place : List (Option Cost) → Option ℕ → Option Cost
at_place costs o = option_and_then (λ place. get_or costs place None) o

cost_found : (ids : List ℕ) (costs : List (Option Cost)) (node place : ℕ) → place_of ids node ≡ Some place → cost_to ids costs node ≡ get_or costs place None
cost_found ids costs node place e = ap (at_place costs) e

none_some : (c : Cost) → None ≡ Some c → ⊥
none_some c e = cc

cost_or : (ids : List ℕ) (costs : List (Option Cost)) (node : ℕ) (c : Cost) (o : Option ℕ) → place_of ids node ≡ o → cost_to ids costs node ≡ Some c → (place : ℕ) × (place_of ids node ≡ Some place) × (get_or costs place None ≡ Some c)
cost_or ids costs node c (Some place) e h = (place, e, sym (cost_found ids costs node place e) ∙ h)
cost_or ids costs node c None e h =
    let gone : None ≡ Some c = sym (ap (at_place costs) e) ∙ h in
    absurd (none_some c gone)

pub adjacency_best : (ss : List Hop) (ids : List ℕ) (rows : List (List Arc)) (shortest : Bool) (start from : ℕ) (costs : List (Option Cost)) → IsStrictlyIncreasing ids → IsAdjacency ss ids rows → IsAt ids start from
    → IsBest (HasWay rows shortest start) (found costs) → IsBest (Goes ss shortest from) (cost_to ids costs)
adjacency_best ss ids rows shortest start from costs up adjacency at k = record {
  goes = λ to c t.
      let p = cost_or ids costs to c (place_of ids to) refl t in
      let way = k.goes p.0 c p.2 in
      let w = walk_of_path ss ids rows adjacency start p.0 from way.path nothing at way.leads in
      let there = place_at ids to p.0 p.1 in
      let ends : w.0 ≡ to = at_is ids p.0 w.0 to w.2 there in
      let L : ℕ → Type 0 = λ q. walks.Leads ss from q w.1 in
      record {
        walk = w.1;
        leads = subst L ends w.3;
        may = record {
          some = omega (arith, w.4, way.may.some);
          one = λ h. w.4 ∙ way.may.one (⊎_elim
              (λ (e : shortest ≡ false). inl e)
              (λ (e : from ≡ to). let T : ℕ → Type 0 = λ q. IsAt ids p.0 q in inr (at_once ids start p.0 from up at (subst T (sym e) there)))
              h);
        };
        costs = w.5 ∙ way.costs;
      };
  least = λ to c h.
      let w = path_of_walk ss ids rows up adjacency start from to h.walk nothing at h.leads in
      let way : HasWay rows shortest start w.0 c = record {
        path = w.1;
        leads = w.3;
        may = record {
          some = omega (arith, w.4, h.may.some);
          one = λ o. w.4 ∙ h.may.one (⊎_elim
              (λ (e : shortest ≡ false). inl e)
              (λ (e : start ≡ w.0). let T : ℕ → Type 0 = λ q. IsAt ids q to in inr (at_is ids start from to at (subst T (sym e) w.2)))
              o);
        };
        costs = w.5 ∙ h.costs;
      } in
      let d = k.least w.0 c way in
      (d.0, cost_found ids costs to w.0 (place_found ids w.0 to up w.2) ∙ d.1, d.2);
}

no_walk : (ss : List Hop) (ids : List ℕ) (rows : List (List Arc)) (up : IsStrictlyIncreasing ids) (from to : ℕ) (walk : List Hop) → IsAdjacency ss ids rows → place_of ids from ≡ None → 0 < length walk → walks.Leads ss from to walk → ⊥
no_walk ss ids rows up from to [] adjacency none some l = omega (arith, some)
no_walk ss ids rows up from to (s ∷ walk) adjacency none some l =
    let w = adjacency.hops s l.0 in
    let F : ℕ → Type 0 = λ p. IsAt ids w.0 p in
    let there = place_found ids w.0 from up (subst F l.1 w.3.from) in
    let gone : None ≡ Some w.0 = sym none ∙ there in
    let never : ⊥ = cc in
    never

-- no hop joins a node without a place
pub adjacency_alone : (ss : List Hop) (ids : List ℕ) (rows : List (List Arc)) (shortest : Bool) (from : ℕ) → IsStrictlyIncreasing ids → IsAdjacency ss ids rows → place_of ids from ≡ None → IsBest (Goes ss shortest from) (cost_to ids [])
adjacency_alone ss ids rows shortest from up adjacency none = record {
  goes = λ to c t. absurd (let p = cost_or ids [] to c (place_of ids to) refl t in none_some c p.2);
  least = λ to c h. absurd (no_walk ss ids rows up from to h.walk adjacency none h.may.some h.leads);
}
