-- the hops of a graph
use Rattle.std.proofs.Common.{◌≡◌, ℕ, ◌+◌, ◌*◌, ◌<◌, ◌≤◌, Bool, true, false, List, [], ◌∷◌, ◌++◌, length, get_or, take, sym, ap, ◌∙◌, subst, ⊎_elim, arith, length-append}
use Rattle.std.specs.Prelude.{Contains, All, flat_map}
use Rattle.std.proofs.lemmas.List.{append_assoc, flat_map_more, take_more, length_push}
use Rattle.std.proofs.lemmas.List.Elements.{All-head, All-tail, All-more, All-weaker, Contains-push, Contains-append_left, Contains-append_cases}
use Rattle.gml_graph.specs.declared.graph.Edge.{Edge}
use Rattle.gml_graph.specs.Edges.{IsEdge, AreEdges}
use Rattle.net_routes.specs.declared.hop.Hop.{Hop}
use Rattle.net_routes.specs.Cost.{IsHopCost}
use Rattle.net_routes.specs.Walk.{along, against, ways, AreHops}
use Rattle.net_routes.specs.inside.Adjacency.{ends_of}
use Rattle.net_routes.proofs.ListLemmas.{contains_cases}

-- one edge more
pub hops_more : (directed : Bool) (es : List Edge) (i : ℕ) (e : Edge) → i < length es → e ≡ get_or es i e → flat_map (ways directed) (take i es) ++ ways directed e ≡ flat_map (ways directed) (take (i + 1) es)
hops_more directed es i e lt is =
    let front : take (i + 1) es ≡ take i es ++ e ∷ [] = take_more es i e lt ∙ ap (λ (o : Edge). take i es ++ o ∷ []) (sym is) in
    flat_map_more (ways directed) [] (take i es) e ∙ ap (flat_map (ways directed)) (sym front)

length_ways : (directed : Bool) (e : Edge) → length (ways directed e) ≤ 2
length_ways true e = omega arith
length_ways false e = omega arith

length_hops : (directed : Bool) (es : List Edge) → length (flat_map (ways directed) es) ≤ 2 * length es
length_hops directed [] = omega arith
length_hops directed (e ∷ es) = omega (arith, length-append (ways directed e) (flat_map (ways directed) es), length_ways directed e, length_hops directed es)

edge_cost : (e : Edge) → IsEdge e → IsHopCost (along e).cost
edge_cost e k = record { some = k.some; within = k.within; part = k.part }

ways_each : (directed : Bool) (e : Edge) (s : Hop) → IsEdge e → Contains (ways directed e) s → IsHopCost s.cost
ways_each true e s k h =
    let P : Hop → Type 0 = λ o. IsHopCost o.cost in
    ⊎_elim
    (λ (is : along e ≡ s). subst P is (edge_cost e k))
    (λ (there : Contains [] s). absurd (omega (arith, there.1)))
    (contains_cases (along e) [] s h)
ways_each false e s k h =
    let P : Hop → Type 0 = λ o. IsHopCost o.cost in
    ⊎_elim
    (λ (is : along e ≡ s). subst P is (edge_cost e k))
    (λ (there : Contains (against e ∷ []) s). ⊎_elim
    (λ (is : against e ≡ s). subst P is (edge_cost e k))
    (λ (none : Contains [] s). absurd (omega (arith, none.1)))
    (contains_cases (against e) [] s there))
    (contains_cases (along e) (against e ∷ []) s h)

hops_each : (directed : Bool) (es : List Edge) → All IsEdge es → (s : Hop) → Contains (flat_map (ways directed) es) s → IsHopCost s.cost
hops_each directed [] all s h = absurd (omega (arith, h.1))
hops_each directed (e ∷ es) all s h =
    ⊎_elim
    (λ (here : Contains (ways directed e) s). ways_each directed e s (All-head IsEdge e es all) here)
    (λ (there : Contains (flat_map (ways directed) es) s). hops_each directed es (All-tail IsEdge e es all) s there)
    (Contains-append_cases (ways directed e) (flat_map (ways directed) es) s h)

pub hops_sound : (directed : Bool) (es : List Edge) → AreEdges es → AreHops (flat_map (ways directed) es)
hops_sound directed es all = record {
  few = omega (arith, all.few, length_hops directed es);
  each = hops_each directed es all.each;
}

-- THE ENDS OF STEPS

abbrev pub HasEnds : List ℕ → Hop → Type 0
HasEnds ends s = Contains ends s.from × Contains ends s.to

ends_still : (ends : List ℕ) (x y : ℕ) (s : Hop) → HasEnds ends s → HasEnds ((ends ++ x ∷ []) ++ y ∷ []) s
ends_still ends x y s h = (
  Contains-append_left (ends ++ x ∷ []) (y ∷ []) s.from (Contains-append_left ends (x ∷ []) s.from h.0),
  Contains-append_left (ends ++ x ∷ []) (y ∷ []) s.to (Contains-append_left ends (x ∷ []) s.to h.1),
)

ends_now : (ends : List ℕ) (s : Hop) → HasEnds ((ends ++ s.from ∷ []) ++ s.to ∷ []) s
ends_now ends s =
    (Contains-append_left (ends ++ s.from ∷ []) (s.to ∷ []) s.from (Contains-push ends s.from), Contains-push (ends ++ s.from ∷ []) s.to)

pub ends_more : (ss : List Hop) (old new : List ℕ) (i : ℕ) (d : Hop) → i < length ss → new ≡ (old ++ (get_or ss i d).from ∷ []) ++ (get_or ss i d).to ∷ []
    → All (HasEnds old) (take i ss) → All (HasEnds new) (take (i + 1) ss)
ends_more ss old new i d lt pushed all =
    let s = get_or ss i d in
    let both : List ℕ = (old ++ s.from ∷ []) ++ s.to ∷ [] in
    let P : List ℕ → Type 0 = λ ends. All (HasEnds ends) (take (i + 1) ss) in
    subst P (sym pushed) (All-more (HasEnds both) ss i d lt (All-weaker (HasEnds old) (HasEnds both) (λ t h. ends_still old s.from s.to t h) (take i ss) all) (ends_now old s))

pub ends_size : (old new : List ℕ) (s : Hop) (i : ℕ) → new ≡ (old ++ s.from ∷ []) ++ s.to ∷ [] → length old ≡ 2 * i → length new ≡ 2 * (i + 1)
ends_size old new s i pushed size =
    omega (arith, ap (λ (xs : List ℕ). length xs) pushed, length_push (old ++ s.from ∷ []) s.to, length_push old s.from, size)

pub ends_next : (ss : List Hop) (old new : List ℕ) (i : ℕ) (d : Hop) → i < length ss → new ≡ (old ++ (get_or ss i d).from ∷ []) ++ (get_or ss i d).to ∷ []
    → old ≡ ends_of (take i ss) → new ≡ ends_of (take (i + 1) ss)
ends_next ss old new i d lt pushed before =
    let s = get_or ss i d in
    pushed ∙ append_assoc old (s.from ∷ []) (s.to ∷ []) ∙ ap (λ (xs : List ℕ). xs ++ s.from ∷ s.to ∷ []) before
    ∙ flat_map_more (λ (h : Hop). h.from ∷ h.to ∷ []) [] (take i ss) s ∙ ap ends_of (sym (take_more ss i d lt))
