-- `general` and `network` are read as they were shown.
use Rattle.std.proofs.Common.{◌≡◌, ℕ, ◌+◌, ◌-◌, ◌^◌, Bool, true, false, List, length, Ok, codes, refl, arith, lt-ltb}
use Rattle.yaml_tree.specs.Said.Said.{mapping}
use Rattle.yaml_merge.specs.declared.plain.Pair.{Pair}
use Rattle.shd_config.specs.declared.config.GraphSource.{GraphSource}
use Rattle.shd_config.specs.declared.config.GraphSource.TheVariants as sources
use Rattle.net_iface.specs.declared.lane.QueueRule.{QueueRule}
use Rattle.net_iface.specs.declared.lane.QueueRule.TheVariants.{Fifo, Codel}
use Rattle.shd_config.specs.declared.config.Config.{Config}
use Rattle.shd_config.specs.declared.general.General.{General}
use Rattle.shd_config.specs.declared.network.Network.{Network}
use Rattle.shd_config.specs.Keys.{key_of}
use Rattle.shd_config.specs.Values.{truth_at, is_some_text}
use Rattle.shd_config.specs.General.{general_of, general_at}
use Rattle.shd_config.specs.Network.{file_of, file_at, graph_of, graph_at, network_of, network_at}
use Rattle.config_lines.specs.Shown.{shown_truth}
use Rattle.shown_config.specs.Plain.{IsPlain}
use Rattle.shown_config.specs.Same.{no_overrides}
use Rattle.shown_config.proofs.words.Words.Word.{bare}
use Rattle.shown_config.proofs.blocks.Blocks.{block_said, pair_at}
use Rattle.shown_config.proofs.config.ConfigBlock.{general_block, graph_block, network_block}
use Rattle.shown_config.proofs.reading.ReadSteps.{text_pair, number_ok, time_ok, stop_time_ok, text_ok}

abbrev pub general_value : Config → General
general_value c = record { stop_time = c.stop_time; seed = c.seed; parallelism = c.parallelism; bootstrap_end_time = c.bootstrap_end_time; data_directory = c.data_directory }

-- a pair whose value is this block
abbrev pub general_pair : ℕ → Config → Pair
general_pair n c = pair_at n (bare (codes "general")) (block_said (1 + n) (mapping (1 + n)) (general_block c))

pub general_reads : (n : ℕ) (c : Config) → IsPlain c → general_at no_overrides (general_pair n c) ≡ Ok (general_value c)
unfolding general_at general_of key_of
general_reads n c h =
    let key = λ (l : ℕ) (k bytes : List ℕ). text_pair l k bytes in
    rw (
      stop_time_ok c.stop_time (1 + n) (codes "stop_time") h.stop.0 h.stop.1,
      number_ok 0 (2 ^ 32 - 1) c.seed (1 + (1 + n)) (codes "seed") (omega arith) (omega (arith, h.seed)) (omega arith),
      number_ok 0 (2 ^ 32 - 1) c.parallelism (1 + (1 + (1 + n))) (codes "parallelism") (omega arith) (omega (arith, h.parallelism)) (omega arith),
      time_ok c.bootstrap_end_time (1 + (1 + (1 + (1 + n)))) (codes "bootstrap_end_time") h.bootstrap,
      text_ok is_some_text c.data_directory (codes "data_directory") (1 + (1 + (1 + (1 + (1 + n))))) (lt-ltb 0 (length c.data_directory) h.named),
    ) refl

-- ---- `network`

graph_reads : (n : ℕ) (g : GraphSource) → graph_at (pair_at n (bare (codes "graph")) (block_said (1 + n) (mapping (1 + n)) (graph_block g))) ≡ Ok g
unfolding graph_at graph_of file_at file_of key_of
graph_reads n sources.OneGbitSwitch = refl
graph_reads n (sources.Inline text) = refl
graph_reads n (sources.File name) = refl

truth_reads : (b : Bool) (line : ℕ) (key : List ℕ) → truth_at (text_pair line key (shown_truth b)) ≡ Ok b
truth_reads true line key = refl
truth_reads false line key = refl

abbrev pub network_value : Config → Network
network_value c = record { graph = c.graph; use_shortest_path = c.use_shortest_path; router_queue = c.router_queue }

abbrev pub network_pair : ℕ → Config → Pair
network_pair n c = pair_at n (bare (codes "network")) (block_said (1 + n) (mapping (1 + n)) (network_block c))

network_by : (n : ℕ) (c : Config) (truth : Bool) (rule : QueueRule) (g : GraphSource) → network_at (network_pair n (record c { graph = g; use_shortest_path = truth; router_queue = rule })) ≡ Ok (record { graph = g; use_shortest_path = truth; router_queue = rule })
unfolding network_at network_of key_of
network_by n c true Fifo g = rw (graph_reads (1 + n) g) refl
network_by n c true Codel g = rw (graph_reads (1 + n) g) refl
network_by n c false Fifo g = rw (graph_reads (1 + n) g) refl
network_by n c false Codel g = rw (graph_reads (1 + n) g) refl

pub network_reads : (n : ℕ) (c : Config) → network_at (network_pair n c) ≡ Ok (network_value c)
network_reads n c = network_by n c c.use_shortest_path c.router_queue c.graph
