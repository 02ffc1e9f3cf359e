-- The pairs that the text of a ring's graph spells.
use Rattle.std.specs.Prelude.{ℕ, zero, suc, ◌+◌, ◌%◌, ◌==◌, Bool, true, false}
use Rattle.gml_graph.specs.declared.number.Decimal.{Decimal}
use Rattle.gml_graph.specs.declared.token.Key.TheVariants as keys
use Rattle.gml_graph.specs.Token.{quoted}
use Rattle.gml_graph.specs.Grammar.{Pairs, no_pairs, with_number, with_text, with_list}
use Rattle.run_plan.specs.SelfLoad.{next_host}
use Rattle.self_load.specs.GraphText.{latency_words}
use Rattle.self_load.proofs.NumberWords.{whole}

-- 1.0 or 0.0
abbrev pub loss : Bool → Decimal
loss true = record { negative = false; digits = 10; up = 0; down = 1; is_whole = false }
loss false = record { negative = false; digits = 0; up = 0; down = 1; is_whole = false }

-- k nodes from node i on, each on its line, and what stands behind them
abbrev pub ring_nodes : ℕ → ℕ → ℕ → Pairs → Pairs
ring_nodes line i zero behind = behind
ring_nodes line i (suc k) behind = with_list line keys.Node line (with_number line keys.Id line (whole i) no_pairs) line (ring_nodes (line + 1) (i + 1) k behind)

abbrev pub edge_pairs : ℕ → ℕ → ℕ → Pairs
edge_pairs n line i =
    with_number line keys.Source line (whole i)
    (with_number line keys.Target line (whole (next_host n i))
    (with_text line keys.Latency line (quoted (latency_words i))
    (with_number line keys.PacketLoss line (loss (i % 4 == 3)) no_pairs)))

-- k edges from the one of node i on
abbrev pub ring_edges : ℕ → ℕ → ℕ → ℕ → Pairs
ring_edges n line i zero = no_pairs
ring_edges n line i (suc k) = with_list line keys.Edge line (edge_pairs n line i) line (ring_edges n (line + 1) (i + 1) k)

-- what stands in the graph
abbrev pub inner_pairs : ℕ → Pairs
inner_pairs n = with_number 2 keys.Directed 2 (whole 1) (ring_nodes 3 0 n (ring_edges n (3 + n) 0 n))

abbrev pub ring_pairs : ℕ → Pairs
ring_pairs n = with_list 1 keys.Graph 1 (inner_pairs n) (3 + n + n) no_pairs
