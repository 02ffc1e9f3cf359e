-- The text of a self-load's graph reads as this graph.
use Rattle.std.proofs.Common.{◌≡◌, ℕ, zero, suc, ◌+◌, ◌%◌, ◌<◌, ◌≤◌, Bool, true, false, ◌==◌, if◌then◌else◌, List, ◌++◌, codes, decimal, Result, Ok, Err, IfOk, refl, sym, ap, ◌∙◌, arith}
use Rattle.std.specs.List.{flat_map, range_with_len}
use Rattle.std.specs.Str.{IsAscii, is_utf8}
use Rattle.std.proofs.lemmas.Str.{IsAscii-append, IsUtf8-from_ascii, is_utf8-from_IsUtf8}
use Rattle.std.proofs.lemmas.Str.Ascii.{IsAscii-nil}
use Rattle.std.proofs.lemmas.Fmt.{IsAscii-decimal}
use Rattle.std.specs.Prelude.{nat_lt}
use Rattle.std.specs.List.{list_all}
use Rattle.gml_graph.specs.Outline.{outline}
use Rattle.gml_graph.specs.Grammar.{Pairs, height, rows_of}
use Rattle.gml_graph.specs.Gml.{graph}
use Rattle.gml_graph.proofs.GrammarLaws.{Spells_outline}
use Rattle.run_plan.specs.SelfLoad.{next_host, self_load_graph}
use Rattle.self_load.specs.GraphText.{node_line, latency_words, edge_line, graph_text}
use Rattle.self_load.proofs.AsciiTexts.{ascii}
use Rattle.self_load.proofs.GraphPairs.{ring_nodes, ring_edges, ring_pairs}
use Rattle.self_load.proofs.GraphTokens.{ring_tokens, next_small}
use Rattle.self_load.proofs.GraphRead.{ring_read}

-- ---- ASCII

behind : (word bytes : List ℕ) → list_all (λ b. nat_lt b 128) word ≡ true → IsAscii bytes → IsAscii (word ++ bytes)
behind word bytes h k = IsAscii-append word bytes (ascii word h) k

number : (n : ℕ) (bytes : List ℕ) → n < 10000 → IsAscii bytes → IsAscii (decimal n ++ bytes)
number n bytes h k = IsAscii-append (decimal n) bytes (IsAscii-decimal n (omega arith)) k

node_ascii : (i : ℕ) → i < 10000 → IsAscii (node_line i)
node_ascii i h = behind (codes "  node [ id ") _ refl (number i _ h (ascii (codes " ]\n") refl))

loss_ascii : (all : Bool) → IsAscii ((if all then codes "1.0" else codes "0.0") ++ codes " ]\n")
loss_ascii true = ascii (codes "1.0 ]\n") refl
loss_ascii false = ascii (codes "0.0 ]\n") refl

edge_ascii : (n i : ℕ) → i < 10000 → next_host n i < 10000 → IsAscii (edge_line n i)
edge_ascii n i h k =
    behind (codes "  edge [ source ") _ refl
    (number i _ h
    (behind (codes " target ") _ refl
    (number (next_host n i) _ k
    (behind (codes " latency \"") _ refl
    (IsAscii-append (latency_words i) _ (number (1 + i % 7) _ (omega arith) (ascii (codes " ms") refl))
    (behind (codes "\" packet_loss ") _ refl (loss_ascii (i % 4 == 3))))))))

nodes_ascii : (k i : ℕ) → i + k ≤ 4096 → IsAscii (flat_map node_line (range_with_len i k))
nodes_ascii zero i h = IsAscii-nil
nodes_ascii (suc k) i h = IsAscii-append (node_line i) _ (node_ascii i (omega arith)) (nodes_ascii k (i + 1) (omega arith))

edges_ascii : (n k i : ℕ) → 0 < n → n ≤ 4096 → i + k ≤ 4096 → IsAscii (flat_map (edge_line n) (range_with_len i k))
edges_ascii n zero i some few h = IsAscii-nil
edges_ascii n (suc k) i some few h = IsAscii-append (edge_line n i) _ (edge_ascii n i (omega arith) (next_small n i some few)) (edges_ascii n k (i + 1) some few (omega arith))

text_utf8 : (n : ℕ) → 0 < n → n ≤ 4096 → is_utf8 (graph_text n) ≡ true
unfolding graph_text
text_utf8 n some few =
    is_utf8-from_IsUtf8 (graph_text n)
    (IsUtf8-from_ascii (graph_text n)
    (behind (codes "graph [\n  directed 1\n") _ refl
    (IsAscii-append (flat_map node_line (range_with_len 0 n)) _ (nodes_ascii n 0 (omega arith))
    (IsAscii-append (flat_map (edge_line n) (range_with_len 0 n)) (codes "]\n") (edges_ascii n n 0 some few (omega arith)) (ascii (codes "]\n") refl)))))

-- ---- depth

edges_height : (n k line i : ℕ) → height (ring_edges n line i k) ≤ 1
edges_height n zero line i = omega arith
edges_height n (suc k) line i = omega (arith, edges_height n k (line + 1) (i + 1))

nodes_height : (k line i : ℕ) (behind : Pairs) → height behind ≤ 1 → height (ring_nodes line i k behind) ≤ 1
nodes_height zero line i behind h = h
nodes_height (suc k) line i behind h = omega (arith, nodes_height k (line + 1) (i + 1) behind h)

pub graph_back : (n : ℕ) → 0 < n → n ≤ 4096 → graph (graph_text n) ≡ Ok (self_load_graph n)
unfolding graph
graph_back n some few =
    let nested : height (ring_pairs n) ≤ 16 = omega (arith, nodes_height n 3 0 (ring_edges n (3 + n) 0 n) (edges_height n n (3 + n) 0)) in
    let rows : outline (graph_text n) ≡ Ok (rows_of 0 (ring_pairs n)) =
    Spells_outline (graph_text n) (rows_of 0 (ring_pairs n)) (record { pairs = ring_pairs n; as_tokens = sym (ring_tokens n some few); nested = nested; as_rows = refl }) in
    rw (text_utf8 n some few, rows) (ring_read n few)

-- the same of what was written, if anything
pub file_back : {E : Type 0} (n : ℕ) (r : Result (List ℕ) E) → 0 < n → n ≤ 4096 → IfOk r (λ text. text ≡ graph_text n) → IfOk r (λ text. graph text ≡ Ok (self_load_graph n))
file_back n (Ok text) some few h = ap graph h ∙ graph_back n some few
file_back n (Err e) some few h = tt
