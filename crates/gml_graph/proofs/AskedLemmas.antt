-- rows that aren't asked for change no graph
use Rattle.std.proofs.Common.{◌≡◌, ℕ, ◌+◌, ◌≤◌, Bool, true, false, List, [], ◌∷◌, map, min, Result, Ok, Err, refl, sym, ap, ◌∙◌, one-add, arith}
use Rattle.std.specs.Prelude.{if◌then◌else◌, ◌==◌, ◌&&◌, ◌||◌, nat_lt, nat_le}
use Rattle.std.proofs.lemmas.Bool.Decides.{nat_tests}
use Rattle.gml_graph.specs.declared.fault.GmlFault.{GmlFault}
use Rattle.gml_graph.specs.declared.token.Key.{Key}
use Rattle.gml_graph.specs.declared.token.Key.TheVariants as keys
use Rattle.gml_graph.specs.declared.outline.Value.{Value}
use Rattle.gml_graph.specs.declared.outline.Value.TheVariants as values
use Rattle.gml_graph.specs.declared.outline.OutlineRow.{OutlineRow}
use Rattle.gml_graph.specs.declared.block.Part.{Part}
use Rattle.gml_graph.specs.declared.block.Part.TheVariants as parts
use Rattle.gml_graph.specs.declared.graph.Node.{Node}
use Rattle.gml_graph.specs.declared.graph.Edge.{Edge}
use Rattle.gml_graph.specs.declared.graph.Graph.{Graph}
use Rattle.gml_graph.specs.declared.node.NodeDraft.{NodeDraft}
use Rattle.gml_graph.specs.declared.edge.EdgeDraft.{EdgeDraft}
use Rattle.sim_base.specs.Refusals.{◌>>=◌}
use Rattle.gml_graph.specs.Steps.{through}
use Rattle.gml_graph.specs.Graph.{names, depth_of, is_block, inside, Block, block, blocks, list_at, only, graph_in, graph_rows, directed_in, is_directed, node_attribute, node_row, new_node, node_of, add_node, nodes_of, edge_attribute, edge_row, new_edge, edge_of, add_edge, edges_of, graph_of}
use Rattle.gml_graph.specs.inside.Asked.{is_attribute, is_asked, is_kept, asked}

-- the rows at the front that lie deeper, row by row
inside_step : (d : ℕ) (r : OutlineRow) (rest : List OutlineRow) (b : Bool) → nat_lt d r.depth ≡ b → inside d (r ∷ rest) ≡ (if b then r ∷ inside d rest else [])
inside_step d r rest true e = rw (e, one-add) refl
inside_step d r rest false e = rw e refl

-- the rows that are kept, row by row
asked_step : (reach : ℕ) (r : OutlineRow) (rest : List OutlineRow) (b : Bool) → is_kept reach r ≡ b
    → asked reach (r ∷ rest) ≡ (if b then r ∷ asked (r.depth + 1) rest else asked (min reach r.depth) rest)
asked_step reach r rest true e = rw e refl
asked_step reach r rest false e = rw e refl

both_true : (a b : Bool) → (a && b) ≡ true → (a ≡ true) × (b ≡ true)
both_true true true h = (refl, refl)
both_true true false h = absurd (let no : ⊥ = cc in no)
both_true false b h = absurd (let no : ⊥ = cc in no)

kept_reached : (reach : ℕ) (r : OutlineRow) → is_kept reach r ≡ true → r.depth ≤ reach
kept_reached reach r h = let e = (both_true (nat_le r.depth reach) (is_asked r.depth r.key) h).0 in grind (arith, nat_tests)

-- nothing is kept that lies deeper than a pair that isn't
none_step : (d reach : ℕ) (r : OutlineRow) (rest : List OutlineRow) (b : Bool) → is_kept reach r ≡ b → reach ≤ d
    → ((n : ℕ) → n ≤ d → inside d (asked n rest) ≡ []) → inside d (asked reach (r ∷ rest)) ≡ []
none_step d reach r rest true e h more =
    let le = kept_reached reach r e in
    ap (inside d) (asked_step reach r rest true e) ∙ inside_step d r (asked (r.depth + 1) rest) false (grind (arith, nat_tests))
none_step d reach r rest false e h more = ap (inside d) (asked_step reach r rest false e) ∙ more (min reach r.depth) (omega arith)

none_inside : (d reach : ℕ) (rows : List OutlineRow) → reach ≤ d → inside d (asked reach rows) ≡ []
none_inside d reach [] h = refl
none_inside d reach (r ∷ rest) h = none_step d reach r rest (is_kept reach r) refl h (λ n le. none_inside d n rest le)

-- what is kept of the rows at the front that lie deeper
inside_cases : (d reach : ℕ) (r : OutlineRow) (rest : List OutlineRow) (b c : Bool) → is_kept reach r ≡ b → nat_lt d r.depth ≡ c
    → ((n : ℕ) → inside d (asked n rest) ≡ asked n (inside d rest)) → inside d (asked reach (r ∷ rest)) ≡ asked reach (inside d (r ∷ rest))
inside_cases d reach r rest true true e f more =
    ap (inside d) (asked_step reach r rest true e)
    ∙ inside_step d r (asked (r.depth + 1) rest) true f
    ∙ ap (λ t. r ∷ t) (more (r.depth + 1))
    ∙ sym (asked_step reach r (inside d rest) true e)
    ∙ ap (asked reach) (sym (inside_step d r rest true f))
inside_cases d reach r rest false true e f more =
    ap (inside d) (asked_step reach r rest false e)
    ∙ more (min reach r.depth)
    ∙ sym (asked_step reach r (inside d rest) false e)
    ∙ ap (asked reach) (sym (inside_step d r rest true f))
inside_cases d reach r rest true false e f more =
    ap (inside d) (asked_step reach r rest true e)
    ∙ inside_step d r (asked (r.depth + 1) rest) false f
    ∙ ap (asked reach) (sym (inside_step d r rest false f))
inside_cases d reach r rest false false e f more =
    let le : r.depth ≤ d = grind (arith, nat_tests) in
    ap (inside d) (asked_step reach r rest false e)
    ∙ none_inside d (min reach r.depth) rest (omega arith)
    ∙ ap (asked reach) (sym (inside_step d r rest false f))

inside_asked : (d reach : ℕ) (rows : List OutlineRow) → inside d (asked reach rows) ≡ asked reach (inside d rows)
inside_asked d reach [] = refl
inside_asked d reach (r ∷ rest) = inside_cases d reach r rest (is_kept reach r) (nat_lt d r.depth) refl refl (λ n. inside_asked d n rest)

-- rows that all lie so deep at least
abbrev Deep : ℕ → List OutlineRow → Type 0
Deep d [] = Unit {0}
Deep d (r ∷ rest) = (d ≤ r.depth) × Deep d rest

deep_cases : (d : ℕ) (r : OutlineRow) (rest : List OutlineRow) (b : Bool) → nat_lt d r.depth ≡ b → Deep (d + 1) (inside d rest) → Deep (d + 1) (inside d (r ∷ rest))
deep_cases d r rest true e more = rw (inside_step d r rest true e) (grind (arith, nat_tests), more)
deep_cases d r rest false e more = rw (inside_step d r rest false e) tt

inside_deep : (d : ℕ) (rows : List OutlineRow) → Deep (d + 1) (inside d rows)
inside_deep d [] = tt
inside_deep d (r ∷ rest) = deep_cases d r rest (nat_lt d r.depth) refl (inside_deep d rest)

-- blocks whose rows do
abbrev AreDeep : ℕ → List Block → Type 0
AreDeep d [] = Unit {0}
AreDeep d (b ∷ bs) = Deep d b.rows × AreDeep d bs

block_depth : (part : Part) (r : OutlineRow) → is_block part r ≡ true → r.depth ≡ depth_of part
block_depth part r h = let e = (both_true (r.depth == depth_of part) (names part r.key) h).0 in grind (arith, nat_tests)

blocks_step : (part : Part) (r : OutlineRow) (rest : List OutlineRow) (b : Bool) → is_block part r ≡ b
    → blocks part (r ∷ rest) ≡ (if b then block r rest ∷ blocks part rest else blocks part rest)
blocks_step part r rest true e = rw e refl
blocks_step part r rest false e = rw e refl

block_cases : (part : Part) (r : OutlineRow) (rest : List OutlineRow) (b : Bool) → is_block part r ≡ b
    → AreDeep (depth_of part + 1) (blocks part rest) → AreDeep (depth_of part + 1) (blocks part (r ∷ rest))
block_cases part r rest true e more =
    rw (blocks_step part r rest true e) (rw (← block_depth part r e) (inside_deep r.depth rest), more)
block_cases part r rest false e more = rw (blocks_step part r rest false e) more

blocks_deep : (part : Part) (rows : List OutlineRow) → AreDeep (depth_of part + 1) (blocks part rows)
blocks_deep part [] = tt
blocks_deep part (r ∷ rest) = block_cases part r rest (is_block part r) refl (blocks_deep part rest)

-- a block with the rows that are kept of it
abbrev asked_block : Part → Block → Block
asked_block part b = record b { rows = asked (depth_of part + 1) b.rows }

-- the row of a block is kept
or_left : (a b : Bool) → a ≡ true → (a || b) ≡ true
or_left a b h = rw h refl

or_right : (a b : Bool) → b ≡ true → (a || b) ≡ true
or_right true b h = refl
or_right false b h = h

named_asked : (part : Part) (key : Key) → names part key ≡ true → is_asked (depth_of part) key ≡ true
named_asked parts.Graph key h = h
named_asked parts.Directed key h = or_left (names parts.Directed key) (names parts.Node key || names parts.Edge key) h
named_asked parts.Node key h =
    or_right (names parts.Directed key) (names parts.Node key || names parts.Edge key) (or_left (names parts.Node key) (names parts.Edge key) h)
named_asked parts.Edge key h =
    or_right (names parts.Directed key) (names parts.Node key || names parts.Edge key) (or_right (names parts.Node key) (names parts.Edge key) h)

block_kept : (part : Part) (reach : ℕ) (r : OutlineRow) → depth_of part ≤ reach → is_block part r ≡ true → is_kept reach r ≡ true
block_kept part reach r le h =
    let d = block_depth part r h in
    let a = named_asked part r.key (both_true (r.depth == depth_of part) (names part r.key) h).1 in
    let n : nat_le r.depth reach ≡ true = grind (arith, nat_tests) in
    rw (n, d) a

same_block : (part : Part) (r : OutlineRow) (rest : List OutlineRow) → r.depth ≡ depth_of part → block r (asked (r.depth + 1) rest) ≡ asked_block part (block r rest)
same_block part r rest d =
    let with_rows : List OutlineRow → Block = λ rows. record { line = r.line; value = r.value; rows = rows } in
    ap with_rows (inside_asked r.depth (r.depth + 1) rest) ∙ ap (λ n. with_rows (asked (n + 1) (inside r.depth rest))) d

kept_cases : (part : Part) (reach : ℕ) (r : OutlineRow) (rest : List OutlineRow) (b c : Bool) → is_kept reach r ≡ b → is_block part r ≡ c
    → depth_of part ≤ reach → depth_of part ≤ r.depth
    → ((n : ℕ) → depth_of part ≤ n → blocks part (asked n rest) ≡ map (asked_block part) (blocks part rest))
    → blocks part (asked reach (r ∷ rest)) ≡ map (asked_block part) (blocks part (r ∷ rest))
kept_cases part reach r rest true true e f le deep more =
    ap (blocks part) (asked_step reach r rest true e)
    ∙ blocks_step part r (asked (r.depth + 1) rest) true f
    ∙ ap (λ b. b ∷ blocks part (asked (r.depth + 1) rest)) (same_block part r rest (block_depth part r f))
    ∙ ap (λ bs. asked_block part (block r rest) ∷ bs) (more (r.depth + 1) (omega arith))
    ∙ ap (map (asked_block part)) (sym (blocks_step part r rest true f))
kept_cases part reach r rest true false e f le deep more =
    ap (blocks part) (asked_step reach r rest true e)
    ∙ blocks_step part r (asked (r.depth + 1) rest) false f
    ∙ more (r.depth + 1) (omega arith)
    ∙ ap (map (asked_block part)) (sym (blocks_step part r rest false f))
kept_cases part reach r rest false true e f le deep more = let k = block_kept part reach r le f in absurd (let no : ⊥ = cc in no)
kept_cases part reach r rest false false e f le deep more =
    ap (blocks part) (asked_step reach r rest false e)
    ∙ more (min reach r.depth) (omega arith)
    ∙ ap (map (asked_block part)) (sym (blocks_step part r rest false f))

blocks_asked : (part : Part) (reach : ℕ) (rows : List OutlineRow) → depth_of part ≤ reach → Deep (depth_of part) rows
    → blocks part (asked reach rows) ≡ map (asked_block part) (blocks part rows)
blocks_asked part reach [] le deep = refl
blocks_asked part reach (r ∷ rest) le deep =
    kept_cases part reach r rest (is_kept reach r) (is_block part r) refl refl le deep.0 (λ n more. blocks_asked part n rest more deep.1)

-- a step for each block or row that gives the same
bind_same : {A B : Type 0} (x : Result A GmlFault) (f g : A → Result B GmlFault) → ((a : A) → f a ≡ g a) → (x >>= f) ≡ (x >>= g)
bind_same (Ok a) f g h = h a
bind_same (Err e) f g h = refl

through_asked_block : {S : Type 0} (part : Part) (step : S → Block → Result S GmlFault)
    → ((s : S) (b : Block) → Deep (depth_of part + 1) b.rows → step s (asked_block part b) ≡ step s b)
    → (bs : List Block) → AreDeep (depth_of part + 1) bs → (s : S) → through step s (map (asked_block part) bs) ≡ through step s bs
through_asked_block part step same [] deep s = refl
through_asked_block part step same (b ∷ bs) deep s =
    ap (λ n. n >>= λ next. through step next (map (asked_block part) bs)) (same s b deep.0)
    ∙ bind_same (step s b) (λ next. through step next (map (asked_block part) bs)) (λ next. through step next bs) (λ next. through_asked_block part step same bs deep.1 next)

-- a row that is dropped in a node or in an edge
dropped_cases : (depth reach : ℕ) (key : Key) (b : Bool) → (depth == 2) ≡ b → 2 ≤ reach → (nat_le depth reach && is_asked depth key) ≡ false → ((depth == 2) && is_attribute key) ≡ false
dropped_cases depth reach key true e le h =
    let two : depth ≡ 2 = grind (arith, nat_tests) in
    let n : nat_le 2 reach ≡ true = grind (arith, nat_tests) in
    rw two (let k = rw two at h in rw n at k)
dropped_cases depth reach key false e le h = rw e refl

rows_cases : {D : Type 0} (step : D → OutlineRow → Result D GmlFault)
    → ((d : D) (r : OutlineRow) → ((r.depth == 2) && is_attribute r.key) ≡ false → step d r ≡ Ok d)
    → (reach : ℕ) (r : OutlineRow) (rest : List OutlineRow) (b : Bool) → is_kept reach r ≡ b → 2 ≤ reach → 2 ≤ r.depth
    → ((n : ℕ) → 2 ≤ n → (d : D) → through step d (asked n rest) ≡ through step d rest)
    → (d : D) → through step d (asked reach (r ∷ rest)) ≡ through step d (r ∷ rest)
rows_cases step skips reach r rest true e le deep more d =
    ap (through step d) (asked_step reach r rest true e)
    ∙ bind_same (step d r) (λ next. through step next (asked (r.depth + 1) rest)) (λ next. through step next rest) (λ next. more (r.depth + 1) (omega arith) next)
rows_cases step skips reach r rest false e le deep more d =
    ap (through step d) (asked_step reach r rest false e)
    ∙ more (min reach r.depth) (omega arith) d
    ∙ ap (λ n. n >>= λ next. through step next rest) (sym (skips d r (dropped_cases r.depth reach r.key (r.depth == 2) refl le e)))

through_asked : {D : Type 0} (step : D → OutlineRow → Result D GmlFault)
    → ((d : D) (r : OutlineRow) → ((r.depth == 2) && is_attribute r.key) ≡ false → step d r ≡ Ok d)
    → (reach : ℕ) (rows : List OutlineRow) → 2 ≤ reach → Deep 2 rows → (d : D) → through step d (asked reach rows) ≡ through step d rows
through_asked step skips reach [] le deep d = refl
through_asked step skips reach (r ∷ rest) le deep d =
    rows_cases step skips reach r rest (is_kept reach r) refl le deep.0 (λ n more e. through_asked step skips n rest more deep.1 e) d

-- nodes
other_node : (key : Key) (before : List Node) (d : NodeDraft) (r : OutlineRow) → is_attribute key ≡ false → node_attribute key before d r ≡ Ok d
other_node keys.Graph before d r h = refl
other_node keys.Directed before d r h = refl
other_node keys.Node before d r h = refl
other_node keys.Edge before d r h = refl
other_node keys.Id before d r h = absurd (let no : ⊥ = cc in no)
other_node keys.HostBandwidthUp before d r h = absurd (let no : ⊥ = cc in no)
other_node keys.HostBandwidthDown before d r h = absurd (let no : ⊥ = cc in no)
other_node keys.Label before d r h = absurd (let no : ⊥ = cc in no)
other_node keys.Source before d r h = refl
other_node keys.Target before d r h = refl
other_node keys.Latency before d r h = refl
other_node keys.PacketLoss before d r h = refl
other_node keys.Jitter before d r h = refl
other_node keys.Other before d r h = refl

skip_cases : {D : Type 0} (b c : Bool) (x : Result D GmlFault) (d : D) → (b && c) ≡ false → (c ≡ false → x ≡ Ok d) → (if b then x else Ok d) ≡ Ok d
skip_cases true c x d h other = other h
skip_cases false c x d h other = refl

node_skips : (before : List Node) (d : NodeDraft) (r : OutlineRow) → ((r.depth == 2) && is_attribute r.key) ≡ false → node_row before d r ≡ Ok d
unfolding node_row
node_skips before d r h = skip_cases (r.depth == 2) (is_attribute r.key) (node_attribute r.key before d r) d h (λ e. other_node r.key before d r e)

same_node : (before : List Node) (b : Block) → Deep 2 b.rows → add_node before (asked_block parts.Node b) ≡ add_node before b
unfolding add_node node_of
same_node before b deep = rw (through_asked (node_row before) (node_skips before) 2 b.rows (omega arith) deep new_node) refl

nodes_asked : (rows : List OutlineRow) → Deep 1 rows → nodes_of (asked 1 rows) ≡ nodes_of rows
unfolding nodes_of
nodes_asked rows deep =
    ap (through add_node []) (blocks_asked parts.Node 1 rows (omega arith) deep)
    ∙ through_asked_block parts.Node add_node same_node (blocks parts.Node rows) (blocks_deep parts.Node rows) []

-- edges
other_edge : (key : Key) (nodes : List Node) (d : EdgeDraft) (r : OutlineRow) → is_attribute key ≡ false → edge_attribute key nodes d r ≡ Ok d
other_edge keys.Graph nodes d r h = refl
other_edge keys.Directed nodes d r h = refl
other_edge keys.Node nodes d r h = refl
other_edge keys.Edge nodes d r h = refl
other_edge keys.Id nodes d r h = refl
other_edge keys.HostBandwidthUp nodes d r h = refl
other_edge keys.HostBandwidthDown nodes d r h = refl
other_edge keys.Label nodes d r h = absurd (let no : ⊥ = cc in no)
other_edge keys.Source nodes d r h = absurd (let no : ⊥ = cc in no)
other_edge keys.Target nodes d r h = absurd (let no : ⊥ = cc in no)
other_edge keys.Latency nodes d r h = absurd (let no : ⊥ = cc in no)
other_edge keys.PacketLoss nodes d r h = absurd (let no : ⊥ = cc in no)
other_edge keys.Jitter nodes d r h = absurd (let no : ⊥ = cc in no)
other_edge keys.Other nodes d r h = refl

edge_skips : (nodes : List Node) (d : EdgeDraft) (r : OutlineRow) → ((r.depth == 2) && is_attribute r.key) ≡ false → edge_row nodes d r ≡ Ok d
unfolding edge_row
edge_skips nodes d r h = skip_cases (r.depth == 2) (is_attribute r.key) (edge_attribute r.key nodes d r) d h (λ e. other_edge r.key nodes d r e)

same_edge : (nodes : List Node) (before : List Edge) (b : Block) → Deep 2 b.rows → add_edge nodes before (asked_block parts.Edge b) ≡ add_edge nodes before b
unfolding add_edge edge_of
same_edge nodes before b deep = rw (through_asked (edge_row nodes) (edge_skips nodes) 2 b.rows (omega arith) deep new_edge) refl

edges_asked : (nodes : List Node) (rows : List OutlineRow) → Deep 1 rows → edges_of nodes (asked 1 rows) ≡ edges_of nodes rows
unfolding edges_of
edges_asked nodes rows deep =
    ap (through (add_edge nodes) []) (blocks_asked parts.Edge 1 rows (omega arith) deep)
    ∙ through_asked_block parts.Edge (add_edge nodes) (same_edge nodes) (blocks parts.Edge rows) (blocks_deep parts.Edge rows) []

-- whether edges go one way alone
directed_cases : (bs : List Block) → directed_in (map (asked_block parts.Directed) bs) ≡ directed_in bs
directed_cases [] = refl
directed_cases (b ∷ []) = refl
directed_cases (b ∷ c ∷ bs) = refl

directed_asked : (rows : List OutlineRow) → Deep 1 rows → is_directed (asked 1 rows) ≡ is_directed rows
unfolding is_directed
directed_asked rows deep = ap directed_in (blocks_asked parts.Directed 1 rows (omega arith) deep) ∙ directed_cases (blocks parts.Directed rows)

-- THE GRAPH

abbrev graph_in_rows : List OutlineRow → Result Graph GmlFault
graph_in_rows inner = do
  directed ← is_directed inner
  nodes ← nodes_of inner
  edges ← edges_of nodes inner
  Ok (record { directed = directed; nodes = nodes; edges = edges })

same_inside : (inner : List OutlineRow) → Deep 1 inner → graph_in_rows (asked 1 inner) ≡ graph_in_rows inner
same_inside inner deep =
    rw (directed_asked inner deep, nodes_asked inner deep)
    (bind_same (is_directed inner) _ _ (λ directed. bind_same (nodes_of inner) _ _ (λ nodes. rw (edges_asked nodes inner deep) refl)))

one_cases : (v : Value) (line : ℕ) (rows : List OutlineRow) (bs : List Block) → Deep 1 rows
    → ((list_at v line >>= λ _. only (asked 1 rows) (map (asked_block parts.Graph) bs)) >>= graph_in_rows) ≡ ((list_at v line >>= λ _. only rows bs) >>= graph_in_rows)
one_cases (values.Number d) line rows bs deep = refl
one_cases (values.Text t) line rows bs deep = refl
one_cases values.List line rows [] deep = same_inside rows deep
one_cases values.List line rows (b ∷ bs) deep = refl

graph_cases : (bs : List Block) → AreDeep 1 bs → (graph_in (map (asked_block parts.Graph) bs) >>= graph_in_rows) ≡ (graph_in bs >>= graph_in_rows)
graph_cases [] deep = refl
graph_cases (b ∷ bs) deep = one_cases b.value b.line b.rows bs deep.0

all_deep : (rows : List OutlineRow) → Deep 0 rows
all_deep [] = tt
all_deep (r ∷ rest) = (omega arith, all_deep rest)

-- the rows that are kept have the same graph
pub graph_of_asked : (rows : List OutlineRow) → graph_of (asked 0 rows) ≡ graph_of rows
unfolding graph_of graph_rows
graph_of_asked rows =
    ap (λ bs. graph_in bs >>= graph_in_rows) (blocks_asked parts.Graph 0 rows (omega arith) (all_deep rows))
    ∙ graph_cases (blocks parts.Graph rows) (blocks_deep parts.Graph rows)
