-- The block of a configuration.
use Rattle.std.proofs.Common.{ℕ, ◌==◌, Bool, true, false, List, [], ◌∷◌, ◌++◌, map, Option, Some, None, codes, decimal}
use Rattle.sim_base.specs.Signal.{signal_name}
use Rattle.sim_base.specs.declared.time.Time.{Time}
use Rattle.shd_config.specs.declared.config.GraphSource.{GraphSource}
use Rattle.shd_config.specs.declared.config.GraphSource.TheVariants as sources
use Rattle.host_rows.specs.declared.row.FinalState.{FinalState}
use Rattle.host_rows.specs.declared.row.FinalState.TheVariants.{Exited, Signaled, Running}
use Rattle.shd_config.specs.declared.config.Variable.{Variable}
use Rattle.shd_config.specs.declared.config.ProcessConfig.{ProcessConfig}
use Rattle.shd_config.specs.declared.config.HostConfig.{HostConfig}
use Rattle.shd_config.specs.declared.config.Config.{Config}
use Rattle.config_lines.specs.Shown.{shown_time, shown_rate, shown_truth, shown_address, shown_rule}
use Rattle.shown_config.proofs.words.Words.{Word}
use Rattle.shown_config.proofs.words.Words.Word.{bare, quote}
use Rattle.shown_config.proofs.forms.Cells.{Cell}
use Rattle.shown_config.proofs.forms.Cells.Cell.{word, items, entries}
use Rattle.shown_config.proofs.blocks.Blocks.{Leaf, Item, Block}
use Rattle.shown_config.proofs.blocks.Blocks.Block.{done, leaf_then, block_then, items_then}

-- ---- blocks

abbrev pub time_cell : Time → Cell
time_cell t = word (bare (shown_time t))

abbrev pub general_block : Config → Block
general_block c =
    leaf_then (bare (codes "stop_time")) (time_cell c.stop_time)
    (leaf_then (bare (codes "seed")) (word (bare (decimal c.seed)))
    (leaf_then (bare (codes "parallelism")) (word (bare (decimal c.parallelism)))
    (leaf_then (bare (codes "bootstrap_end_time")) (time_cell c.bootstrap_end_time)
    (leaf_then (bare (codes "data_directory")) (word (quote c.data_directory)) done))))

abbrev pub graph_block : GraphSource → Block
graph_block sources.OneGbitSwitch = leaf_then (bare (codes "type")) (word (bare (codes "1_gbit_switch"))) done
graph_block (sources.Inline text) = leaf_then (bare (codes "type")) (word (bare (codes "gml"))) (leaf_then (bare (codes "inline")) (word (quote text)) done)
graph_block (sources.File name) = leaf_then (bare (codes "type")) (word (bare (codes "gml"))) (leaf_then (bare (codes "file")) (entries ((bare (codes "path"), quote name) ∷ [])) done)

abbrev pub network_block : Config → Block
network_block c =
    block_then (bare (codes "graph")) (graph_block c.graph)
    (leaf_then (bare (codes "use_shortest_path")) (word (bare (shown_truth c.use_shortest_path)))
    (leaf_then (bare (codes "router_queue")) (word (bare (shown_rule c.router_queue))) done))

abbrev pub args_cell : List (List ℕ) → Cell
args_cell args = items (map quote args)

abbrev pub variable_words : Variable → Word × Word
variable_words v = (quote v.name, quote v.value)

abbrev pub environment_cell : List Variable → Cell
environment_cell variables = entries (map variable_words variables)

abbrev pub state_cell : FinalState → Cell
state_cell (Exited status) = entries ((bare (codes "exited"), bare (decimal status)) ∷ [])
state_cell (Signaled signal) = entries ((bare (codes "signaled"), bare (signal_name signal)) ∷ [])
state_cell Running = word (bare (codes "running"))

abbrev pub shutdown_leaves : Option Time → List Leaf → List Leaf
shutdown_leaves None rest = rest
shutdown_leaves (Some t) rest = (bare (codes "shutdown_time"), time_cell t) ∷ rest

abbrev pub process_item : ProcessConfig → Item
process_item p = (
  (bare (codes "path"), word (quote p.path)),
  (bare (codes "args"), args_cell p.args)
      ∷ (bare (codes "environment"), environment_cell p.environment)
      ∷ (bare (codes "start_time"), time_cell p.start_time)
      ∷ shutdown_leaves p.shutdown_time
      ((bare (codes "shutdown_signal"), word (bare (signal_name p.shutdown_signal)))
      ∷ (bare (codes "expected_final_state"), state_cell p.expected_final_state) ∷ []),
)

abbrev pub processes_block : List ProcessConfig → Block
processes_block [] = leaf_then (bare (codes "processes")) (items []) done
processes_block (p ∷ ps) = items_then (bare (codes "processes")) (process_item p) (map process_item ps) done

abbrev pub leaf_if : {A : Type 0} → List ℕ → (A → Cell) → Option A → Block → Block
leaf_if key cell None rest = rest
leaf_if key cell (Some x) rest = leaf_then (bare key) (cell x) rest

abbrev pub size_entry : ℕ → Word × Word
size_entry size = (bare (codes "pcap_capture_size"), bare (decimal size ++ codes " B"))

abbrev pub enabled_entry : Word × Word
enabled_entry = (bare (codes "pcap_enabled"), bare (codes "true"))

-- the options that aren't the built-in defaults, by whether the size is
abbrev pub option_entries : Bool → Bool → ℕ → Option Cell
option_entries false true size = None
option_entries false false size = Some (entries (size_entry size ∷ []))
option_entries true true size = Some (entries (enabled_entry ∷ []))
option_entries true false size = Some (entries (enabled_entry ∷ size_entry size ∷ []))

abbrev pub options_cell : HostConfig → Option Cell
options_cell h = option_entries h.pcap_enabled (h.pcap_capture_size == 65535) h.pcap_capture_size

abbrev pub rate_cell : ℕ → Cell
rate_cell n = word (bare (shown_rate n))

abbrev pub host_block : HostConfig → Block
host_block h =
    leaf_then (bare (codes "network_node_id")) (word (bare (decimal h.network_node_id)))
    (leaf_if (codes "ip_addr") (λ ip. word (bare (shown_address ip))) h.ip_addr
    (leaf_if (codes "bandwidth_up") rate_cell h.bandwidth_up
    (leaf_if (codes "bandwidth_down") rate_cell h.bandwidth_down
    (leaf_if (codes "host_options") (λ cell. cell) (options_cell h) (processes_block h.processes)))))

abbrev pub hosts_block : List HostConfig → Block
hosts_block [] = done
hosts_block (h ∷ hs) = block_then (quote h.name) (host_block h) (hosts_block hs)

abbrev pub config_block : Config → Block
config_block c =
    block_then (bare (codes "general")) (general_block c)
    (block_then (bare (codes "network")) (network_block c)
    (block_then (bare (codes "hosts")) (hosts_block c.hosts) done))
