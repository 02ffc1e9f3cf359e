-- The ring of a self-load.
use Rattle.std.proofs.Common.{◌≡◌, ◌∙◌, ◌+◌, ◌%◌, ◌^◌, ◌≤◌, ◌==◌, List, [], ◌∷◌, ◌++◌, ℕ, zero, suc, Bool, true, false, map, sym, ap, subst, arith, rules}
use Rattle.std.specs.Prelude.{if◌then◌else◌}
use Rattle.std.specs.List.{range_with_len, All}
use Rattle.std.proofs.lemmas.List.FromFn.{map-range_with_len_more, length-map-range_with_len}
use Rattle.std.proofs.lemmas.List.Elements.{All-cons}
use Rattle.gml_graph.specs.Edges.{IsEdge, AreEdges}
use Rattle.gml_graph.specs.declared.graph.Edge.{Edge}
use Rattle.run_plan.specs.SelfLoad.{ring_edge}

pub one_more : {X : Type 0} (f : ℕ → X) (n : ℕ) (xs ys : List X) (x : X) → xs ≡ map f (range_with_len 0 n) → x ≡ f n → ys ≡ xs ++ x ∷ [] → ys ≡ map f (range_with_len 0 (n + 1))
one_more f n xs ys x e here more =
    more ∙ (ap (λ (zs : List _). zs ++ x ∷ []) e ∙ (ap (λ (y : _). map f (range_with_len 0 n) ++ y ∷ []) here ∙ sym (map-range_with_len_more f 0 n n (omega arith))))

part : (t : Bool) → (if t then 0 else 1000000000) ≤ 10 ^ 9
part true = omega arith
part false = omega arith

is_edge : (n i : ℕ) → IsEdge (ring_edge n i)
is_edge n i = record { some = omega arith; within = omega arith; part = part (i % 4 == 3) }

all_edges : (n a k : ℕ) → All IsEdge (map (ring_edge n) (range_with_len a k))
all_edges n a zero = search rules
all_edges n a (suc k) = All-cons IsEdge (ring_edge n a) (map (ring_edge n) (range_with_len (a + 1) k)) (is_edge n a) (all_edges n (a + 1) k)

pub are_edges : (n : ℕ) (edges : List Edge) → edges ≡ map (ring_edge n) (range_with_len 0 n) → n ≤ 4096 → AreEdges edges
are_edges n edges e few = subst AreEdges (sym e) (record { few = omega (arith, length-map-range_with_len (ring_edge n) 0 n); each = all_edges n 0 n })
