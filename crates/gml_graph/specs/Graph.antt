-- The graph of a text.
use Rattle.std.specs.Prelude.{ℕ, ◌-◌, ◌^◌, Bool, true, false, ◌&&◌, if◌then◌else◌, ◌==◌, nat_lt, nat_le, List, [], ◌∷◌, ◌++◌, length, take, Option, Some, None, unwrap_or, option_and_then, is_some, Result, Ok}
use Rattle.std.specs.List.{prefix_len, list_any}
use Rattle.sim_base.specs.Units.{hour}
use Rattle.sim_base.specs.declared.time.Time.{Time}
use Rattle.gml_graph.specs.declared.fault.GmlFault.{GmlFault}
use Rattle.gml_graph.specs.declared.fault.GmlKind.TheVariants as kinds
use Rattle.gml_graph.specs.declared.token.Key.{Key}
use Rattle.gml_graph.specs.declared.token.Key.TheVariants as keys
use Rattle.gml_graph.specs.declared.outline.Value.{Value}
use Rattle.gml_graph.specs.declared.outline.Value.TheVariants as values
use Rattle.gml_graph.specs.declared.outline.OutlineRow.{OutlineRow}
use Rattle.gml_graph.specs.declared.graph.Node.{Node}
use Rattle.gml_graph.specs.declared.graph.Edge.{Edge}
use Rattle.gml_graph.specs.declared.graph.Graph.{Graph}
use Rattle.gml_graph.specs.declared.block.Part.{Part}
use Rattle.gml_graph.specs.declared.block.Part.TheVariants as parts
use Rattle.gml_graph.specs.declared.node.NodeDraft.{NodeDraft}
use Rattle.gml_graph.specs.declared.edge.EdgeDraft.{EdgeDraft}
use Rattle.gml_graph.specs.Number.{natural, is_part, units}
use Rattle.sim_base.specs.Refusals.{◌>>=◌}
use Rattle.gml_graph.specs.Steps.{through, refused}
use Rattle.gml_graph.specs.Limits.{most_nodes, most_edges}
use Rattle.gml_graph.specs.Edges.{lossless}

-- BLOCKS: a pair with the rows that lie in it

-- the pairs that a graph is made of
abbrev pub names : Part → Key → Bool
names parts.Graph keys.Graph = true
names parts.Graph k = false
names parts.Directed keys.Directed = true
names parts.Directed k = false
names parts.Node keys.Node = true
names parts.Node k = false
names parts.Edge keys.Edge = true
names parts.Edge k = false

-- The graph is at the top, the others are in it.
abbrev pub depth_of : Part → ℕ
depth_of parts.Graph = 0
depth_of parts.Directed = 1
depth_of parts.Node = 1
depth_of parts.Edge = 1

abbrev pub is_block : Part → OutlineRow → Bool
is_block part r = r.depth == depth_of part && names part r.key

-- the rows at the front that lie deeper
abbrev pub inside : ℕ → List OutlineRow → List OutlineRow
inside depth rows = take (prefix_len (λ r. nat_lt depth r.depth) rows) rows

pub record Block : Type 0 where
  pub line : ℕ
  pub value : Value
  pub rows : List OutlineRow

abbrev pub block : OutlineRow → List OutlineRow → Block
block r rest = record { line = r.line; value = r.value; rows = inside r.depth rest }

abbrev pub blocks : Part → List OutlineRow → List Block
blocks part [] = []
blocks part (r ∷ rest) = (if is_block part r then block r rest ∷ [] else []) ++ blocks part rest

-- VALUES

-- a value of an attribute, or a bad one
abbrev pub valued : {A : Type 0} → Option A → ℕ → Result A GmlFault
valued None line = refused kinds.BadValue line
valued (Some x) line = Ok x

-- an attribute that was given before is given twice
abbrev pub once : Bool → ℕ → Result (Unit {0}) GmlFault
once given line = if given then refused kinds.Duplicate line else Ok tt

abbrev pub needed : {A : Type 0} → Option A → ℕ → Result A GmlFault
needed None line = refused kinds.Missing line
needed (Some x) line = Ok x

-- a whole number that isn't below 0
abbrev pub number_of : Value → Option ℕ
number_of (values.Number d) = natural d
number_of (values.Text t) = None
number_of values.List = None

abbrev pub id_of : Value → Option ℕ
id_of v = option_and_then (λ n. if nat_lt n (2 ^ 32) then Some n else None) (number_of v)

abbrev pub truth_of : Value → Option Bool
truth_of v = option_and_then (λ n. if n == 0 then Some false else (if n == 1 then Some true else None)) (number_of v)

-- bits a second, at least 1
abbrev pub bandwidth_of : Value → Option ℕ
bandwidth_of (values.Number d) = None
bandwidth_of (values.Text t) = option_and_then (λ n. if nat_lt 0 n then Some n else None) t.rate
bandwidth_of values.List = None

abbrev pub time_of : Value → Option Time
time_of (values.Number d) = None
time_of (values.Text t) = t.time
time_of values.List = None

-- 1 ns to 1 h
abbrev pub latency_at : Time → ℕ → Result Time GmlFault
latency_at t line = if t.nanos == 0 then refused kinds.ZeroLatency line
    else (if nat_le t.nanos hour then Ok t else refused kinds.BadValue line)

abbrev pub latency_of : Value → ℕ → Result Time GmlFault
latency_of v line = do
  time ← valued (time_of v) line
  latency_at time line

-- units of 10^-9 that are lost, rounded down
abbrev pub loss_of : Value → ℕ → Result ℕ GmlFault
loss_of (values.Number d) line = if is_part d then Ok (units d) else refused kinds.Loss line
loss_of (values.Text t) line = refused kinds.BadValue line
loss_of values.List line = refused kinds.BadValue line

-- a value that isn't a list is bad where a list is wanted
abbrev pub list_at : Value → ℕ → Result (Unit {0}) GmlFault
list_at (values.Number d) line = refused kinds.BadValue line
list_at (values.Text t) line = refused kinds.BadValue line
list_at values.List line = Ok tt

-- THE GRAPH ITSELF

-- the first and only one
abbrev pub only : {A : Type 0} → A → List Block → Result A GmlFault
only x [] = Ok x
only x (b ∷ bs) = refused kinds.Duplicate b.line

abbrev pub graph_in : List Block → Result (List OutlineRow) GmlFault
graph_in [] = refused kinds.Missing 1
graph_in (b ∷ bs) = list_at b.value b.line >>= λ _. only b.rows bs

-- the rows in the one graph of a text
unfoldable pub graph_rows : List OutlineRow → Result (List OutlineRow) GmlFault
graph_rows rows = graph_in (blocks parts.Graph rows)

abbrev pub directed_in : List Block → Result Bool GmlFault
directed_in [] = Ok false
directed_in (b ∷ bs) = valued (truth_of b.value) b.line >>= λ d. only d bs

-- whether edges go one way alone; they go both ways where nothing is said
unfoldable pub is_directed : List OutlineRow → Result Bool GmlFault
is_directed rows = directed_in (blocks parts.Directed rows)

-- NODES

abbrev pub knows : List Node → ℕ → Bool
knows nodes id = list_any (λ n. n.id == id) nodes

abbrev pub node_attribute : Key → List Node → NodeDraft → OutlineRow → Result NodeDraft GmlFault
node_attribute keys.Id before d r = do
  _ ← once (is_some d.id) r.line
  id ← valued (id_of r.value) r.line
  _ ← once (knows before id) r.line
  Ok (record d { id = Some id })
node_attribute keys.HostBandwidthUp before d r = do
  _ ← once (is_some d.bandwidth_up) r.line
  rate ← valued (bandwidth_of r.value) r.line
  Ok (record d { bandwidth_up = Some rate })
node_attribute keys.HostBandwidthDown before d r = do
  _ ← once (is_some d.bandwidth_down) r.line
  rate ← valued (bandwidth_of r.value) r.line
  Ok (record d { bandwidth_down = Some rate })
node_attribute keys.Label before d r = do
  _ ← once d.labelled r.line
  Ok (record d { labelled = true })
node_attribute k before d r = Ok d

-- A row of a node; rows that lie deeper are parts of unknown attributes.
unfoldable pub node_row : List Node → NodeDraft → OutlineRow → Result NodeDraft GmlFault
node_row before d r = if r.depth == 2 then node_attribute r.key before d r else Ok d

abbrev pub new_node : NodeDraft
new_node = record { id = None; bandwidth_up = None; bandwidth_down = None; labelled = false }

abbrev pub finished_node : ℕ → NodeDraft → Result Node GmlFault
finished_node line d = do
  id ← needed d.id line
  Ok (record { id = id; bandwidth_up = d.bandwidth_up; bandwidth_down = d.bandwidth_down })

-- there is room for one more
abbrev pub within : ℕ → ℕ → ℕ → Result (Unit {0}) GmlFault
within most count line = if nat_le most count then refused kinds.TooMany line else Ok tt

-- the node of a block, behind those before it
unfoldable pub node_of : List Node → Block → Result Node GmlFault
node_of before b = do
  _ ← list_at b.value b.line
  _ ← within most_nodes (length before) b.line
  d ← through (node_row before) new_node b.rows
  finished_node b.line d

unfoldable pub add_node : List Node → Block → Result (List Node) GmlFault
add_node before b = do
  n ← node_of before b
  Ok (before ++ n ∷ [])

unfoldable pub nodes_of : List OutlineRow → Result (List Node) GmlFault
nodes_of rows = through add_node [] (blocks parts.Node rows)

-- EDGES

-- the id of some node
abbrev pub known_id : List Node → Value → ℕ → Result ℕ GmlFault
known_id nodes v line = do
  id ← valued (id_of v) line
  if knows nodes id then Ok id else refused kinds.UnknownNode line

abbrev pub edge_attribute : Key → List Node → EdgeDraft → OutlineRow → Result EdgeDraft GmlFault
edge_attribute keys.Source nodes d r = do
  _ ← once (is_some d.source) r.line
  node ← known_id nodes r.value r.line
  Ok (record d { source = Some node })
edge_attribute keys.Target nodes d r = do
  _ ← once (is_some d.target) r.line
  node ← known_id nodes r.value r.line
  Ok (record d { target = Some node })
edge_attribute keys.Latency nodes d r = do
  _ ← once (is_some d.latency) r.line
  latency ← latency_of r.value r.line
  Ok (record d { latency = Some latency })
edge_attribute keys.PacketLoss nodes d r = do
  _ ← once (is_some d.loss) r.line
  loss ← loss_of r.value r.line
  Ok (record d { loss = Some loss })
edge_attribute keys.Jitter nodes d r = do
  _ ← once d.jittered r.line
  _ ← valued (time_of r.value) r.line
  Ok (record d { jittered = true })
edge_attribute keys.Label nodes d r = do
  _ ← once d.labelled r.line
  Ok (record d { labelled = true })
edge_attribute k nodes d r = Ok d

unfoldable pub edge_row : List Node → EdgeDraft → OutlineRow → Result EdgeDraft GmlFault
edge_row nodes d r = if r.depth == 2 then edge_attribute r.key nodes d r else Ok d

abbrev pub new_edge : EdgeDraft
new_edge = record { source = None; target = None; latency = None; loss = None; jittered = false; labelled = false }

-- What isn't lost arrives, in units of 10^-9.
unfoldable pub finished_edge : ℕ → EdgeDraft → Result Edge GmlFault
finished_edge line d = do
  source ← needed d.source line
  target ← needed d.target line
  latency ← needed d.latency line
  Ok (record { source = source; target = target; latency = latency; reliability = lossless - unwrap_or d.loss 0 })

unfoldable pub edge_of : List Node → ℕ → Block → Result Edge GmlFault
edge_of nodes count b = do
  _ ← list_at b.value b.line
  _ ← within most_edges count b.line
  d ← through (edge_row nodes) new_edge b.rows
  finished_edge b.line d

unfoldable pub add_edge : List Node → List Edge → Block → Result (List Edge) GmlFault
add_edge nodes before b = do
  e ← edge_of nodes (length before) b
  Ok (before ++ e ∷ [])

unfoldable pub edges_of : List Node → List OutlineRow → Result (List Edge) GmlFault
edges_of nodes rows = through (add_edge nodes) [] (blocks parts.Edge rows)

-- THE WHOLE

-- the graph of the rows of a text
unfoldable pub graph_of : List OutlineRow → Result Graph GmlFault
graph_of rows = do
  inner ← graph_rows rows
  directed ← is_directed inner
  nodes ← nodes_of inner
  edges ← edges_of nodes inner
  Ok (record { directed = directed; nodes = nodes; edges = edges })
