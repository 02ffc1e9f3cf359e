-- The text of the graph of a self-load: a ring, with each node and each edge on a line of its own.
use Rattle.std.specs.Prelude.{ℕ, ◌+◌, ◌%◌, ◌==◌, List, ◌++◌, codes, if◌then◌else◌}
use Rattle.std.specs.List.{flat_map, range_with_len}
use Rattle.std.specs.Fmt.{decimal}
use Rattle.run_plan.specs.SelfLoad.{next_host}

abbrev pub node_line : ℕ → List ℕ
node_line i = codes "  node [ id " ++ (decimal i ++ codes " ]\n")

-- 1 to 7 ms
abbrev pub latency_words : ℕ → List ℕ
latency_words i = decimal (1 + i % 7) ++ codes " ms"

-- each fourth edge loses all
abbrev pub loss_word : ℕ → List ℕ
loss_word i = if i % 4 == 3 then codes "1.0" else codes "0.0"

-- the edge from a node to the next one
abbrev pub edge_line : ℕ → ℕ → List ℕ
edge_line n i =
    codes "  edge [ source " ++ (decimal i ++ (codes " target " ++ (decimal (next_host n i) ++ (codes " latency \"" ++ (latency_words i ++ (codes "\" packet_loss " ++ (loss_word i ++ codes " ]\n")))))))

unfoldable pub graph_text : ℕ → List ℕ
graph_text n = codes "graph [\n  directed 1\n" ++ (flat_map node_line (range_with_len 0 n) ++ (flat_map (edge_line n) (range_with_len 0 n) ++ codes "]\n"))
