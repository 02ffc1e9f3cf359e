-- The experiment of a self-load: a ring of hosts, each of which sends to the next one.
use Rattle.std.specs.Prelude.{ℕ, ◌+◌, ◌*◌, ◌/◌, ◌%◌, ◌==◌, true, false, List, [], ◌∷◌, ◌++◌, map, Some, None, unwrap_or, codes, if◌then◌else◌}
use Rattle.std.specs.List.{range_with_len}
use Rattle.std.specs.Fmt.{decimal}
use Rattle.sim_base.specs.declared.signal.Signal.TheVariants.{SigTerm}
use Rattle.sim_base.specs.Units.{millisecond, second}
use Rattle.gml_graph.specs.Edges.{lossless}
use Rattle.shd_config.specs.Bounds.{default_capture}
use Rattle.gml_graph.specs.declared.graph.Graph.{Graph}
use Rattle.gml_graph.specs.declared.graph.Node.{Node}
use Rattle.gml_graph.specs.declared.graph.Edge.{Edge}
use Rattle.shd_config.specs.declared.config.Config.{Config}
use Rattle.host_rows.specs.declared.row.FinalState.TheVariants.{Exited}
use Rattle.shd_config.specs.declared.config.GraphSource.TheVariants.{File}
use Rattle.shd_config.specs.declared.config.HostConfig.{HostConfig}
use Rattle.shd_config.specs.declared.config.ProcessConfig.{ProcessConfig}
use Rattle.net_iface.specs.declared.lane.QueueRule.TheVariants.{Fifo}
use Rattle.shd_config.specs.declared.overrides.Overrides.{Overrides}
use Rattle.run_plan.specs.Network.{gigabit}

-- the name of a host, as h0007
abbrev pub host_name : ℕ → List ℕ
host_name i = codes "h" ++ (decimal (i / 1000 % 10) ++ (decimal (i / 100 % 10) ++ (decimal (i / 10 % 10) ++ decimal (i % 10))))

-- the host behind another one in the ring
abbrev pub next_host : ℕ → ℕ → ℕ
next_host n i = (i + 1) % n

-- 11.0.0.0
abbrev pub ring_network : ℕ
ring_network = 0x0b000000

-- how many last bytes there are, from 1 to 254
abbrev pub last_bytes : ℕ
last_bytes = 254

-- the address of a host as a number: 11.0.0.1 for the first, each with a last byte of 1 to 254
abbrev pub address_number : ℕ → ℕ
address_number j = ring_network + 256 * (j / last_bytes) + j % last_bytes + 1

-- the guest `ring`, which sends to the host of this number
abbrev pub ring_process : ℕ → ProcessConfig
ring_process next = record {
  path = codes "ring";
  args = decimal (address_number next) ∷ [];
  environment = [];
  start_time = record { nanos = 0 };
  shutdown_time = None;
  shutdown_signal = SigTerm;
  expected_final_state = Exited 0;
}

-- a host on the node of its number, with 1 Gbit both ways
abbrev pub ring_host : ℕ → ℕ → HostConfig
ring_host n i = record {
  name = host_name i;
  line = 1;
  network_node_id = i;
  ip_addr = None;
  bandwidth_up = Some gigabit;
  bandwidth_down = Some gigabit;
  pcap_enabled = false;
  pcap_capture_size = default_capture;
  processes = ring_process (next_host n i) ∷ [];
}

-- 5 s over n hosts
unfoldable pub self_load_config : Overrides → ℕ → Config
self_load_config o n = record {
  stop_time = unwrap_or o.stop_time (record { nanos = 5 * second });
  seed = unwrap_or o.seed 1;
  parallelism = unwrap_or o.parallelism 0;
  bootstrap_end_time = record { nanos = 0 };
  data_directory = unwrap_or o.data_directory (codes "shadow.data");
  graph = File (codes "graph.gml");
  use_shortest_path = true;
  router_queue = Fifo;
  hosts = map (ring_host n) (range_with_len 0 n);
  notes = [];
}

abbrev pub ring_node : ℕ → Node
ring_node i = record { id = i; bandwidth_up = None; bandwidth_down = None }

-- from a node to the next one: 1 to 7 ms; each fourth edge loses all
abbrev pub ring_edge : ℕ → ℕ → Edge
ring_edge n i = record {
  source = i;
  target = next_host n i;
  latency = record { nanos = (1 + i % 7) * millisecond };
  reliability = if i % 4 == 3 then 0 else lossless;
}

unfoldable pub self_load_graph : ℕ → Graph
self_load_graph n = record {
  directed = true;
  nodes = map ring_node (range_with_len 0 n);
  edges = map (ring_edge n) (range_with_len 0 n);
}
