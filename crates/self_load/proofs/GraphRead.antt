-- The rows of a ring's graph are read as the graph.
use Rattle.std.proofs.Common.{◌≡◌, ℕ, zero, suc, ◌+◌, ◌*◌, ◌-◌, ◌%◌, ◌^◌, ◌<◌, ◌≤◌, Bool, true, false, ◌||◌, ◌==◌, nat_le, if◌then◌else◌, List, [], ◌∷◌, ◌++◌, map, length, codes, decimal, Some, Result, Ok, refl, sym, ap, ◌∙◌, arith, lt-ltb}
use Rattle.std.specs.List.{range_with_len}
use Rattle.std.proofs.lemmas.Bool.{ne_eqb, lt-leb, eq-eqb}
use Rattle.std.proofs.lemmas.Fmt.{decimal_digit}
use Rattle.std.proofs.lemmas.List.Folds.{list_any_at}
use Rattle.std.proofs.lemmas.List.FromFn.{map-range_with_len_more, length-map-range_with_len, get_or-map-range_with_len}
use Rattle.sim_base.specs.declared.time.Time.{Time}
use Rattle.gml_graph.specs.declared.fault.GmlFault.{GmlFault}
use Rattle.gml_graph.specs.declared.graph.Node.{Node}
use Rattle.gml_graph.specs.declared.graph.Edge.{Edge}
use Rattle.gml_graph.specs.declared.token.Key.TheVariants as keys
use Rattle.gml_graph.specs.declared.outline.Value.TheVariants as values
use Rattle.gml_graph.specs.Number.{natural, is_part, units}
use Rattle.sim_base.specs.Refusals.{◌>>=◌}
use Rattle.gml_graph.specs.Steps.{through}
use Rattle.gml_graph.specs.Token.{quoted}
use Rattle.gml_graph.specs.Grammar.{rows_of}
use Rattle.gml_graph.specs.Graph.{id_of, latency_of, knows, node_row, node_of, add_node, nodes_of, edge_row, finished_edge, edge_of, add_edge, edges_of, is_directed, graph_of}
use Rattle.run_plan.specs.SelfLoad.{next_host, ring_node, ring_edge, self_load_graph}
use Rattle.self_load.proofs.NumberWords.{whole}
use Rattle.self_load.proofs.GraphPairs.{loss, inner_pairs, ring_pairs}
use Rattle.self_load.proofs.GraphBlocks.{number_row, list_block, node_blocks, edge_rows, edge_blocks, ring_graph_rows, no_directed, ring_node_blocks, ring_edge_blocks}

-- ---- values

or_true : (a : Bool) → (a || true) ≡ true
or_true true = refl
or_true false = refl

natural_whole : (n : ℕ) → natural (whole n) ≡ Some n
natural_whole n = rw (or_true (n == 0)) refl

id_whole : (n : ℕ) → n ≤ 4096 → id_of (values.Number (whole n)) ≡ Some n
id_whole n h = rw (natural_whole n, lt-ltb n (2 ^ 32) (omega arith)) refl

-- ---- nodes

abbrev pub nodes_to : ℕ → List Node
nodes_to n = map ring_node (range_with_len 0 n)

none_knows : (a k i : ℕ) → a + k ≤ i → knows (map ring_node (range_with_len a k)) i ≡ false
none_knows a zero i h = refl
none_knows a (suc k) i h = rw (ne_eqb a i (λ e. absurd (omega (arith, e)))) (none_knows (a + 1) k i (omega arith))

some_knows : (n i : ℕ) → i < n → knows (nodes_to n) i ≡ true
some_knows n i h =
    list_any_at (λ (m : Node). m.id == i) (nodes_to n) i (ring_node 0) (let e = length-map-range_with_len ring_node 0 n in omega (arith, e))
    (rw (get_or-map-range_with_len ring_node 0 n i i (ring_node 0) h (omega arith)) (eq-eqb i i refl))

one_node : (line i : ℕ) → i < 4096 → add_node (nodes_to i) (list_block line (number_row keys.Id line i ∷ [])) ≡ Ok (nodes_to i ++ ring_node i ∷ [])
unfolding add_node node_of node_row
one_node line i h =
    let few : nat_le 4096 (length (nodes_to i)) ≡ false = lt-leb 4096 _ (let e = length-map-range_with_len ring_node 0 i in omega (arith, e)) in
    rw (few, id_whole i (omega arith), none_knows 0 i i (omega arith)) refl

all_nodes : (k line i : ℕ) → i + k ≤ 4096 → through add_node (nodes_to i) (node_blocks line i k) ≡ Ok (nodes_to (i + k))
all_nodes zero line i h = ap (λ (n : ℕ). Ok (nodes_to n)) (let e : i ≡ i + zero = omega arith in e)
all_nodes (suc k) line i h =
    let step = one_node line i (omega arith) in
    let more : nodes_to i ++ ring_node i ∷ [] ≡ nodes_to (i + 1) = sym (map-range_with_len_more ring_node 0 i i (omega arith)) in
    ap (λ (r : Result (List Node) GmlFault). r >>= λ next. through add_node next (node_blocks (line + 1) (i + 1) k)) (step ∙ ap (λ (ns : List Node). Ok ns) more)
    ∙ all_nodes k (line + 1) (i + 1) (omega arith)
    ∙ ap (λ (n : ℕ). Ok (nodes_to n)) (let e : i + 1 + k ≡ i + suc k = omega arith in e)

ring_nodes_read : (n : ℕ) → n ≤ 4096 → nodes_of (rows_of 1 (inner_pairs n)) ≡ Ok (nodes_to n)
unfolding nodes_of
ring_nodes_read n h =
    ap (through add_node []) (ring_node_blocks n) ∙ all_nodes n 3 0 (omega arith) ∙ ap (λ (m : ℕ). Ok (nodes_to m)) (let e : 0 + n ≡ n = omega arith in e)

-- ---- edges

-- a latency of this digit
abbrev latency_read : List ℕ → ℕ → Result Time GmlFault
latency_read digits line = latency_of (values.Text (quoted (digits ++ codes " ms"))) line

latency_is : (k line : ℕ) → k < 10 → latency_read ((48 + k) ∷ []) line ≡ Ok (record { nanos = k * 1000000 }) → latency_read (decimal k) line ≡ Ok (record { nanos = k * 1000000 })
latency_is k line h e = ap (λ (digits : List ℕ). latency_read digits line) (decimal_digit k h) ∙ e

milliseconds : (k line : ℕ) → k < 7 → latency_of (values.Text (quoted (decimal (1 + k) ++ codes " ms"))) line ≡ Ok (record { nanos = (1 + k) * 1000000 })
unfolding quoted
milliseconds zero line h = latency_is 1 line (omega arith) refl
milliseconds (suc zero) line h = latency_is 2 line (omega arith) refl
milliseconds (suc (suc zero)) line h = latency_is 3 line (omega arith) refl
milliseconds (suc (suc (suc zero))) line h = latency_is 4 line (omega arith) refl
milliseconds (suc (suc (suc (suc zero)))) line h = latency_is 5 line (omega arith) refl
milliseconds (suc (suc (suc (suc (suc zero))))) line h = latency_is 6 line (omega arith) refl
milliseconds (suc (suc (suc (suc (suc (suc zero)))))) line h = latency_is 7 line (omega arith) refl
milliseconds (suc (suc (suc (suc (suc (suc (suc k))))))) line h = absurd (omega arith)

part : (all : Bool) → is_part (loss all) ≡ true
part true = refl
part false = refl

share : (all : Bool) → 10 ^ 9 - units (loss all) ≡ (if all then 0 else 1000000000)
share true = refl
share false = refl

abbrev edges_to : ℕ → ℕ → List Edge
edges_to n i = map (ring_edge n) (range_with_len 0 i)

one_edge : (n line i : ℕ) → i < n → n ≤ 4096
    → add_edge (nodes_to n) (edges_to n i) (list_block line (edge_rows n line i)) ≡ Ok (edges_to n i ++ ring_edge n i ∷ [])
unfolding add_edge edge_of edge_row finished_edge
one_edge n line i h few =
    let next : next_host n i < n = omega arith in
    let room : nat_le 65536 (length (edges_to n i)) ≡ false = lt-leb 65536 _ (let e = length-map-range_with_len (ring_edge n) 0 i in omega (arith, e)) in
    rw (room, id_whole i (omega arith), some_knows n i h, id_whole (next_host n i) (omega arith), some_knows n (next_host n i) next, milliseconds (i % 7) line (omega arith), part (i % 4 == 3), share (i % 4 == 3)) refl

all_edges : (n k line i : ℕ) → i + k ≤ n → n ≤ 4096 → through (add_edge (nodes_to n)) (edges_to n i) (edge_blocks n line i k) ≡ Ok (edges_to n (i + k))
all_edges n zero line i h few = ap (λ (m : ℕ). Ok (edges_to n m)) (let e : i ≡ i + zero = omega arith in e)
all_edges n (suc k) line i h few =
    let step = one_edge n line i (omega arith) few in
    let more : edges_to n i ++ ring_edge n i ∷ [] ≡ edges_to n (i + 1) = sym (map-range_with_len_more (ring_edge n) 0 i i (omega arith)) in
    ap (λ (r : Result (List Edge) GmlFault). r >>= λ next. through (add_edge (nodes_to n)) next (edge_blocks n (line + 1) (i + 1) k)) (step ∙ ap (λ (es : List Edge). Ok es) more)
    ∙ all_edges n k (line + 1) (i + 1) (omega arith) few
    ∙ ap (λ (m : ℕ). Ok (edges_to n m)) (let e : i + 1 + k ≡ i + suc k = omega arith in e)

ring_edges_read : (n : ℕ) → n ≤ 4096 → edges_of (nodes_to n) (rows_of 1 (inner_pairs n)) ≡ Ok (edges_to n n)
unfolding edges_of
ring_edges_read n h =
    ap (through (add_edge (nodes_to n)) []) (ring_edge_blocks n) ∙ all_edges n n (3 + n) 0 (omega arith) h ∙ ap (λ (m : ℕ). Ok (edges_to n m)) (let e : 0 + n ≡ n = omega arith in e)

-- ---- the whole

directed_read : (n : ℕ) → is_directed (rows_of 1 (inner_pairs n)) ≡ Ok true
unfolding is_directed
directed_read n = rw (no_directed n) refl

pub ring_read : (n : ℕ) → n ≤ 4096 → graph_of (rows_of 0 (ring_pairs n)) ≡ Ok (self_load_graph n)
unfolding graph_of self_load_graph
ring_read n h = rw (ring_graph_rows n, directed_read n, ring_nodes_read n h, ring_edges_read n h) refl
