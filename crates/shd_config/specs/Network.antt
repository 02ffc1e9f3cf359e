-- The key `network`.
use Rattle.std.specs.Prelude.{ℕ, Bool, true, false, ◌||◌, not, if◌then◌else◌, List, [], ◌∷◌, Option, Some, None, is_some, unwrap_or, option_and_then, Result, Ok, codes}
use Rattle.std.specs.Str.{bytes_eq}
use Rattle.sim_base.specs.Refusals.{◌>>=◌}
use Rattle.yaml_merge.specs.Plain.{is_null, text_in}
use Rattle.yaml_merge.specs.declared.plain.Pair.{Pair}
use Rattle.shd_config.specs.declared.fault.ConfigKind.TheVariants.{UnknownKey, BadValue, Unsupported}
use Rattle.shd_config.specs.declared.fault.ConfigFault.{ConfigFault}
use Rattle.shd_config.specs.declared.key.Key.{Key}
use Rattle.shd_config.specs.declared.key.Key.TheVariants as keys
use Rattle.shd_config.specs.declared.config.GraphSource.{GraphSource}
use Rattle.shd_config.specs.declared.config.GraphSource.TheVariants as sources
use Rattle.net_iface.specs.declared.lane.QueueRule.{QueueRule}
use Rattle.net_iface.specs.declared.lane.QueueRule.TheVariants.{Fifo, Codel}
use Rattle.shd_config.specs.declared.graph.GraphKind.{GraphKind}
use Rattle.shd_config.specs.declared.graph.GraphKind.TheVariants.{Gml, OneGbitSwitch}
use Rattle.shd_config.specs.declared.graph.GraphDraft.{GraphDraft}
use Rattle.shd_config.specs.declared.network.Network.{Network}
use Rattle.shd_config.specs.declared.network.NetworkDraft.{NetworkDraft}
use Rattle.shd_config.specs.Steps.{refused, needed, checked, below, through, optional, mapping_line}
use Rattle.shd_config.specs.Keys.{key_of}
use Rattle.shd_config.specs.Values.{mapping_at, text_at, scalar_at, truth_at}

-- ---- the file of a graph

-- a compression isn't supported, but null
abbrev pub compression_at : Pair → Result (Unit {0}) ConfigFault
compression_at p = text_at p >>= λ text. refused (if bytes_eq text (codes "xz") then Unsupported else BadValue) p

abbrev pub file_key : Option Key → Option (List ℕ) → Pair → Result (Option (List ℕ)) ConfigFault
file_key (Some keys.Path) d p = text_at p >>= λ path. Ok (Some path)
file_key (Some keys.Compression) d p = optional p (compression_at p) >>= λ _. Ok d
file_key _ d p = refused UnknownKey p

abbrev pub file_row : Option (List ℕ) → Pair → Result (Option (List ℕ)) ConfigFault
file_row d p = file_key (key_of p.key) d p

unfoldable pub file_of : ℕ → List Pair → Result (List ℕ) ConfigFault
file_of line pairs = through file_row None pairs >>= needed (codes "path") (mapping_line line pairs)

-- the file's name
unfoldable pub file_at : Pair → Result (List ℕ) ConfigFault
file_at p = mapping_at p >>= λ pairs. below p (file_of p.line pairs)

-- ---- the graph

abbrev pub graph_kind : List ℕ → Option GraphKind
graph_kind text = if bytes_eq text (codes "gml") then Some Gml else (if bytes_eq text (codes "1_gbit_switch") then Some OneGbitSwitch else None)

-- the type that a mapping gives, if it gives one that can be read
abbrev pub kind_in_row : Option Key → Pair → Option GraphKind → Option GraphKind
kind_in_row (Some keys.Type) p rest = option_and_then graph_kind (text_in p.value)
kind_in_row _ p rest = rest

abbrev pub kind_in : List Pair → Option GraphKind
kind_in [] = None
kind_in (p ∷ ps) = kind_in_row (key_of p.key) p (kind_in ps)

abbrev pub is_switch : Option GraphKind → Bool
is_switch (Some OneGbitSwitch) = true
is_switch (Some Gml) = false
is_switch None = false

-- `inline` and `file` exclude each other, and a switch excludes both; a null isn't given
abbrev pub graph_alone : Option GraphKind → Bool → Pair → Result (Unit {0}) ConfigFault
graph_alone kind other p = checked BadValue p (is_null p.value || not (is_switch kind || other))

abbrev pub new_graph : GraphDraft
new_graph = record { kind = None; inline = None; file = None }

abbrev pub graph_key : Option GraphKind → Option Key → GraphDraft → Pair → Result GraphDraft ConfigFault
graph_key kind (Some keys.Type) d p = scalar_at graph_kind p >>= λ v. Ok (record d { kind = Some v })
graph_key kind (Some keys.Inline) d p = do
  _ ← graph_alone kind (is_some d.file) p
  text ← optional p (text_at p)
  Ok (record d { inline = text })
graph_key kind (Some keys.File) d p = do
  _ ← graph_alone kind (is_some d.inline) p
  file ← optional p (file_at p)
  Ok (record d { file = file })
graph_key kind _ d p = refused UnknownKey p

abbrev pub graph_row : Option GraphKind → GraphDraft → Pair → Result GraphDraft ConfigFault
graph_row kind d p = graph_key kind (key_of p.key) d p

-- the text of a graph, else its file
abbrev pub gml_source : ℕ → Option (List ℕ) → Option (List ℕ) → Result GraphSource ConfigFault
gml_source line (Some text) file = Ok (sources.Inline text)
gml_source line None file = needed (codes "inline") line file >>= λ name. Ok (sources.File name)

abbrev pub source_of : ℕ → GraphDraft → GraphKind → Result GraphSource ConfigFault
source_of line d OneGbitSwitch = Ok sources.OneGbitSwitch
source_of line d Gml = gml_source line d.inline d.file

abbrev pub finished_graph : ℕ → GraphDraft → Result GraphSource ConfigFault
finished_graph line d = needed (codes "type") line d.kind >>= source_of line d

unfoldable pub graph_of : ℕ → List Pair → Result GraphSource ConfigFault
graph_of line pairs = through (graph_row (kind_in pairs)) new_graph pairs >>= finished_graph (mapping_line line pairs)

unfoldable pub graph_at : Pair → Result GraphSource ConfigFault
graph_at p = mapping_at p >>= λ pairs. below p (graph_of p.line pairs)

-- ---- the network

abbrev pub queue_rule : List ℕ → Option QueueRule
queue_rule text = if bytes_eq text (codes "fifo") then Some Fifo else (if bytes_eq text (codes "codel") then Some Codel else None)

abbrev pub new_network : NetworkDraft
new_network = record { graph = None; use_shortest_path = None; router_queue = None }

abbrev pub network_key : Option Key → NetworkDraft → Pair → Result NetworkDraft ConfigFault
network_key (Some keys.Graph) d p = graph_at p >>= λ v. Ok (record d { graph = Some v })
network_key (Some keys.UseShortestPath) d p = optional p (truth_at p) >>= λ v. Ok (record d { use_shortest_path = v })
network_key (Some keys.RouterQueue) d p = optional p (scalar_at queue_rule p) >>= λ v. Ok (record d { router_queue = v })
network_key _ d p = refused UnknownKey p

abbrev pub network_row : NetworkDraft → Pair → Result NetworkDraft ConfigFault
network_row d p = network_key (key_of p.key) d p

abbrev pub finished_network : ℕ → NetworkDraft → Result Network ConfigFault
finished_network line d = do
  graph ← needed (codes "graph") line d.graph
  Ok (record { graph = graph; use_shortest_path = unwrap_or d.use_shortest_path true; router_queue = unwrap_or d.router_queue Fifo })

unfoldable pub network_of : ℕ → List Pair → Result Network ConfigFault
network_of line pairs = through network_row new_network pairs >>= finished_network (mapping_line line pairs)

unfoldable pub network_at : Pair → Result Network ConfigFault
network_at p = mapping_at p >>= λ pairs. below p (network_of p.line pairs)
