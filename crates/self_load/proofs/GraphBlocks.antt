-- The blocks of a ring's rows: the graph with all of them, and each node and each edge with its own.
use Rattle.std.proofs.Common.{◌≡◌, ℕ, zero, suc, ◌+◌, ◌%◌, Bool, true, ◌==◌, nat_lt, List, [], ◌∷◌, ◌++◌, Ok, refl, ap, ◌∙◌, append-nil, one-add}
use Rattle.std.specs.List.{list_all}
use Rattle.std.proofs.lemmas.Bool.{and_parts}
use Rattle.gml_graph.specs.declared.token.Key.{Key}
use Rattle.gml_graph.specs.declared.token.Key.TheVariants as keys
use Rattle.gml_graph.specs.declared.outline.Value.TheVariants as values
use Rattle.gml_graph.specs.declared.outline.OutlineRow.{OutlineRow}
use Rattle.gml_graph.specs.declared.block.Part.TheVariants as parts
use Rattle.gml_graph.specs.Token.{quoted}
use Rattle.gml_graph.specs.Grammar.{Pairs, rows_of}
use Rattle.gml_graph.specs.Graph.{Block, inside, blocks, graph_in, graph_rows}
use Rattle.run_plan.specs.SelfLoad.{next_host}
use Rattle.self_load.specs.GraphText.{latency_words}
use Rattle.self_load.proofs.NumberWords.{whole}
use Rattle.self_load.proofs.GraphPairs.{loss, ring_nodes, edge_pairs, ring_edges, inner_pairs, ring_pairs}

-- ---- the graph

-- every row of them lies deeper
abbrev deeper : OutlineRow → Bool
deeper r = nat_lt 0 r.depth

all_inside : (rows : List OutlineRow) → list_all deeper rows ≡ true → inside 0 rows ≡ rows
all_inside [] h = refl
all_inside (r ∷ rows) h =
    let p = and_parts (deeper r) (list_all deeper rows) h in
    rw (p.0, one-add) (ap (λ (rest : List OutlineRow). r ∷ rest) (all_inside rows p.1))

nodes_deeper : (k line i : ℕ) (behind : Pairs) → list_all deeper (rows_of 1 behind) ≡ true → list_all deeper (rows_of 1 (ring_nodes line i k behind)) ≡ true
nodes_deeper zero line i behind h = h
nodes_deeper (suc k) line i behind h = nodes_deeper k (line + 1) (i + 1) behind h

edges_deeper : (n k line i : ℕ) → list_all deeper (rows_of 1 (ring_edges n line i k)) ≡ true
edges_deeper n zero line i = refl
edges_deeper n (suc k) line i = edges_deeper n k (line + 1) (i + 1)

nodes_no_graph : (k line i : ℕ) (behind : Pairs) → blocks parts.Graph (rows_of 1 (ring_nodes line i k behind)) ≡ blocks parts.Graph (rows_of 1 behind)
nodes_no_graph zero line i behind = refl
nodes_no_graph (suc k) line i behind = nodes_no_graph k (line + 1) (i + 1) behind

edges_no_graph : (n k line i : ℕ) → blocks parts.Graph (rows_of 1 (ring_edges n line i k)) ≡ []
edges_no_graph n zero line i = refl
edges_no_graph n (suc k) line i = edges_no_graph n k (line + 1) (i + 1)

pub ring_graph_rows : (n : ℕ) → graph_rows (rows_of 0 (ring_pairs n)) ≡ Ok (rows_of 1 (inner_pairs n))
unfolding graph_rows
ring_graph_rows n =
    let rows = rows_of 1 (inner_pairs n) in
    let edges = ring_edges n (3 + n) 0 n in
    let all : inside 0 rows ≡ rows = all_inside rows (nodes_deeper n 3 0 edges (edges_deeper n n (3 + n) 0)) in
    let none : blocks parts.Graph rows ≡ [] = nodes_no_graph n 3 0 edges ∙ edges_no_graph n n (3 + n) 0 in
    ap (λ (rs : List OutlineRow). graph_in (blocks parts.Graph (graph_row ∷ rs))) (append-nil rows)
    ∙ ap (λ (own : List OutlineRow). graph_in (record { line = 1; value = values.List; rows = own } ∷ blocks parts.Graph rows)) all
    ∙ ap (λ (bs : List Block). graph_in (record { line = 1; value = values.List; rows = rows } ∷ bs)) none
  where
    graph_row : OutlineRow
    graph_row = record { depth = 0; line = 1; key = keys.Graph; value = values.List }

-- ---- directed

nodes_no_directed : (k line i : ℕ) (behind : Pairs) → blocks parts.Directed (rows_of 1 (ring_nodes line i k behind)) ≡ blocks parts.Directed (rows_of 1 behind)
nodes_no_directed zero line i behind = refl
nodes_no_directed (suc k) line i behind = nodes_no_directed k (line + 1) (i + 1) behind

edges_no_directed : (n k line i : ℕ) → blocks parts.Directed (rows_of 1 (ring_edges n line i k)) ≡ []
edges_no_directed n zero line i = refl
edges_no_directed n (suc k) line i = edges_no_directed n k (line + 1) (i + 1)

pub no_directed : (n : ℕ) → blocks parts.Directed (rows_of 1 (ring_nodes 3 0 n (ring_edges n (3 + n) 0 n))) ≡ []
no_directed n = nodes_no_directed n 3 0 (ring_edges n (3 + n) 0 n) ∙ edges_no_directed n n (3 + n) 0

-- ---- nodes

abbrev pub number_row : Key → ℕ → ℕ → OutlineRow
number_row key line n = record { depth = 2; line = line; key = key; value = values.Number (whole n) }

abbrev pub list_block : ℕ → List OutlineRow → Block
list_block line rows = record { line = line; value = values.List; rows = rows }

abbrev pub node_blocks : ℕ → ℕ → ℕ → List Block
node_blocks line i zero = []
node_blocks line i (suc k) = list_block line (number_row keys.Id line i ∷ []) ∷ node_blocks (line + 1) (i + 1) k

-- no row at the front lies deeper
nodes_at_front : (k line i : ℕ) (behind : Pairs) → inside 1 (rows_of 1 behind) ≡ [] → inside 1 (rows_of 1 (ring_nodes line i k behind)) ≡ []
nodes_at_front zero line i behind h = h
nodes_at_front (suc k) line i behind h = refl

edges_at_front : (n k line i : ℕ) → inside 1 (rows_of 1 (ring_edges n line i k)) ≡ []
edges_at_front n zero line i = refl
edges_at_front n (suc k) line i = refl

one_inside : (r : OutlineRow) (rest : List OutlineRow) → nat_lt 1 r.depth ≡ true → inside 1 rest ≡ [] → inside 1 (r ∷ rest) ≡ r ∷ []
one_inside r rest h e = rw (h, one-add) (ap (λ (rows : List OutlineRow). r ∷ rows) e)

edges_no_node : (n k line i : ℕ) → blocks parts.Node (rows_of 1 (ring_edges n line i k)) ≡ []
edges_no_node n zero line i = refl
edges_no_node n (suc k) line i = edges_no_node n k (line + 1) (i + 1)

nodes_are : (k line i : ℕ) (behind : Pairs) → inside 1 (rows_of 1 behind) ≡ [] → blocks parts.Node (rows_of 1 behind) ≡ []
    → blocks parts.Node (rows_of 1 (ring_nodes line i k behind)) ≡ node_blocks line i k
nodes_are zero line i behind h e = e
nodes_are (suc k) line i behind h e =
    let rest = rows_of 1 (ring_nodes (line + 1) (i + 1) k behind) in
    let own : inside 1 (number_row keys.Id line i ∷ rest) ≡ number_row keys.Id line i ∷ [] = one_inside (number_row keys.Id line i) rest refl (nodes_at_front k (line + 1) (i + 1) behind h) in
    ap (λ (rows : List OutlineRow). list_block line rows ∷ blocks parts.Node rest) own
    ∙ ap (λ (bs : List Block). list_block line (number_row keys.Id line i ∷ []) ∷ bs) (nodes_are k (line + 1) (i + 1) behind h e)

pub ring_node_blocks : (n : ℕ) → blocks parts.Node (rows_of 1 (inner_pairs n)) ≡ node_blocks 3 0 n
ring_node_blocks n = nodes_are n 3 0 (ring_edges n (3 + n) 0 n) (edges_at_front n n (3 + n) 0) (edges_no_node n n (3 + n) 0)

-- ---- edges

abbrev pub edge_rows : ℕ → ℕ → ℕ → List OutlineRow
edge_rows n line i = rows_of 2 (edge_pairs n line i)

abbrev pub edge_blocks : ℕ → ℕ → ℕ → ℕ → List Block
edge_blocks n line i zero = []
edge_blocks n line i (suc k) = list_block line (edge_rows n line i) ∷ edge_blocks n (line + 1) (i + 1) k

nodes_no_edge : (k line i : ℕ) (behind : Pairs) → blocks parts.Edge (rows_of 1 (ring_nodes line i k behind)) ≡ blocks parts.Edge (rows_of 1 behind)
nodes_no_edge zero line i behind = refl
nodes_no_edge (suc k) line i behind = nodes_no_edge k (line + 1) (i + 1) behind

four_inside : (a b c d : OutlineRow) (rest : List OutlineRow) → nat_lt 1 a.depth ≡ true → nat_lt 1 b.depth ≡ true → nat_lt 1 c.depth ≡ true → nat_lt 1 d.depth ≡ true
    → inside 1 rest ≡ [] → inside 1 (a ∷ b ∷ c ∷ d ∷ rest) ≡ a ∷ b ∷ c ∷ d ∷ []
four_inside a b c d rest ha hb hc hd e =
    more a (b ∷ c ∷ d ∷ rest) (b ∷ c ∷ d ∷ []) ha (more b (c ∷ d ∷ rest) (c ∷ d ∷ []) hb (more c (d ∷ rest) (d ∷ []) hc (one_inside d rest hd e)))
  where
    more : (r : OutlineRow) (rows own : List OutlineRow) → nat_lt 1 r.depth ≡ true → inside 1 rows ≡ own → inside 1 (r ∷ rows) ≡ r ∷ own
    more r rows own h k = rw (h, one-add) (ap (λ (xs : List OutlineRow). r ∷ xs) k)

edges_are : (n k line i : ℕ) → blocks parts.Edge (rows_of 1 (ring_edges n line i k)) ≡ edge_blocks n line i k
edges_are n zero line i = refl
edges_are n (suc k) line i =
    let rest = rows_of 1 (ring_edges n (line + 1) (i + 1) k) in
    let last : OutlineRow = record { depth = 2; line = line; key = keys.PacketLoss; value = values.Number (loss (i % 4 == 3)) } in
    let latency : OutlineRow = record { depth = 2; line = line; key = keys.Latency; value = values.Text (quoted (latency_words i)) } in
    let own : inside 1 (edge_rows n line i ++ rest) ≡ edge_rows n line i =
    four_inside (number_row keys.Source line i) (number_row keys.Target line (next_host n i)) latency last rest refl refl refl refl (edges_at_front n k (line + 1) (i + 1)) in
    ap (λ (rows : List OutlineRow). list_block line rows ∷ blocks parts.Edge rest) own
    ∙ ap (λ (bs : List Block). list_block line (edge_rows n line i) ∷ bs) (edges_are n k (line + 1) (i + 1))

pub ring_edge_blocks : (n : ℕ) → blocks parts.Edge (rows_of 1 (inner_pairs n)) ≡ edge_blocks n (3 + n) 0 n
ring_edge_blocks n = nodes_no_edge n 3 0 (ring_edges n (3 + n) 0 n) ∙ edges_are n n (3 + n) 0
