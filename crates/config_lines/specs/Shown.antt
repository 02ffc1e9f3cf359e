-- The text that shows a configuration, line by line.
use Rattle.std.specs.Prelude.{ℕ, ◌/◌, ◌%◌, ◌^◌, ◌==◌, Bool, true, false, if◌then◌else◌, List, [], ◌∷◌, ◌++◌, Option, Some, None, codes}
use Rattle.std.specs.List.{flat_map}
use Rattle.std.specs.Fmt.{decimal}
use Rattle.sim_base.specs.declared.time.Time.{Time}
use Rattle.sim_base.specs.declared.address.Ip.{Ip}
use Rattle.sim_base.specs.Signal.{signal_name}
use Rattle.shd_config.specs.declared.config.GraphSource.{GraphSource}
use Rattle.shd_config.specs.declared.config.GraphSource.TheVariants as sources
use Rattle.net_iface.specs.declared.lane.QueueRule.{QueueRule}
use Rattle.net_iface.specs.declared.lane.QueueRule.TheVariants.{Fifo, Codel}
use Rattle.host_rows.specs.declared.row.FinalState.{FinalState}
use Rattle.host_rows.specs.declared.row.FinalState.TheVariants.{Exited, Signaled, Running}
use Rattle.shd_config.specs.declared.config.Variable.{Variable}
use Rattle.shd_config.specs.declared.config.ProcessConfig.{ProcessConfig}
use Rattle.shd_config.specs.declared.config.HostConfig.{HostConfig}
use Rattle.shd_config.specs.declared.config.Config.{Config}
use Rattle.config_lines.specs.Quoted.{quoted}
use Rattle.shd_config.specs.Bounds.{default_capture}

-- ---- values

abbrev pub shown_time : Time → List ℕ
shown_time t = decimal t.nanos ++ codes " ns"

abbrev pub shown_rate : ℕ → List ℕ
shown_rate n = decimal n ++ codes " bit"

abbrev pub shown_truth : Bool → List ℕ
shown_truth true = codes "true"
shown_truth false = codes "false"

abbrev pub shown_address : Ip → List ℕ
shown_address ip =
    decimal (ip.bits / 2 ^ 24) ++ (codes "." ++ (decimal (ip.bits / 2 ^ 16 % 256) ++ (codes "." ++ (decimal (ip.bits / 2 ^ 8 % 256) ++ (codes "." ++ decimal (ip.bits % 256))))))

abbrev pub shown_rule : QueueRule → List ℕ
shown_rule Fifo = codes "fifo"
shown_rule Codel = codes "codel"

abbrev pub shown_state : FinalState → List ℕ
shown_state (Exited status) = codes "{exited: " ++ (decimal status ++ codes "}")
shown_state (Signaled signal) = codes "{signaled: " ++ (signal_name signal ++ codes "}")
shown_state Running = codes "running"

-- items, with a comma and a space between them
abbrev pub listed : {A : Type 0} → (A → List ℕ) → List A → List ℕ
listed show [] = []
listed show (x ∷ xs) = show x ++ flat_map (λ y. codes ", " ++ show y) xs

abbrev pub shown_args : List (List ℕ) → List ℕ
shown_args args = codes "[" ++ (listed quoted args ++ codes "]")

abbrev pub shown_variable : Variable → List ℕ
shown_variable v = quoted v.name ++ (codes ": " ++ quoted v.value)

abbrev pub shown_environment : List Variable → List ℕ
shown_environment variables = codes "{" ++ (listed shown_variable variables ++ codes "}")

-- ---- lines

-- a key with its value on one line, before the lines that follow
abbrev pub line : List ℕ → List ℕ → List ℕ → List ℕ
line key value rest = key ++ (codes ": " ++ (value ++ (codes "\n" ++ rest)))

-- a line that is shown only where the key has a value
abbrev pub line_if : {A : Type 0} → List ℕ → (A → List ℕ) → Option A → List ℕ
line_if key show None = []
line_if key show (Some x) = line key (show x) []

-- ---- `general`

abbrev pub shown_general : Config → List ℕ
shown_general c =
    codes "general:\n"
    ++ line (codes "  stop_time") (shown_time c.stop_time)
    (line (codes "  seed") (decimal c.seed)
    (line (codes "  parallelism") (decimal c.parallelism)
    (line (codes "  bootstrap_end_time") (shown_time c.bootstrap_end_time)
    (line (codes "  data_directory") (quoted c.data_directory) []))))

-- ---- `network`

-- a file, in flow form
abbrev pub shown_file : List ℕ → List ℕ
shown_file name = codes "{path: " ++ (quoted name ++ codes "}")

abbrev pub shown_graph : GraphSource → List ℕ
shown_graph sources.OneGbitSwitch = line (codes "    type") (codes "1_gbit_switch") []
shown_graph (sources.Inline text) = line (codes "    type") (codes "gml") (line (codes "    inline") (quoted text) [])
shown_graph (sources.File name) = line (codes "    type") (codes "gml") (line (codes "    file") (shown_file name) [])

abbrev pub shown_network : Config → List ℕ
shown_network c =
    codes "network:\n  graph:\n"
    ++ (shown_graph c.graph
    ++ line (codes "  use_shortest_path") (shown_truth c.use_shortest_path)
    (line (codes "  router_queue") (shown_rule c.router_queue) []))

-- ---- `hosts`

-- the lines of a process, of the texts of its values, before the lines that end it
unfoldable pub process_lines : List ℕ → List ℕ → List ℕ → List ℕ → List ℕ → List ℕ
process_lines path args environment start rest =
    line (codes "    - path") path
    (line (codes "      args") args
    (line (codes "      environment") environment
    (line (codes "      start_time") start rest)))

-- the lines that end a process, behind that of its shutdown
unfoldable pub end_lines : List ℕ → List ℕ → List ℕ → List ℕ
end_lines shutdown signal state =
    shutdown
    ++ line (codes "      shutdown_signal") signal
    (line (codes "      expected_final_state") state [])

abbrev pub shown_end : ProcessConfig → List ℕ
shown_end p = end_lines (line_if (codes "      shutdown_time") shown_time p.shutdown_time) (signal_name p.shutdown_signal) (shown_state p.expected_final_state)

unfoldable pub shown_process : ProcessConfig → List ℕ
shown_process p = process_lines (quoted p.path) (shown_args p.args) (shown_environment p.environment) (shown_time p.start_time) (shown_end p)

abbrev pub shown_processes : List ProcessConfig → List ℕ
shown_processes [] = codes "    processes: []\n"
shown_processes (p ∷ ps) = codes "    processes:\n" ++ flat_map shown_process (p ∷ ps)

-- the options of a host that aren't the built-in defaults, in flow form; none where each is its default
abbrev pub changed_options : Bool → ℕ → Option (List ℕ)
changed_options false size = if size == default_capture then None else Some (codes "{pcap_capture_size: " ++ (decimal size ++ codes " B}"))
changed_options true size =
    if size == default_capture then Some (codes "{pcap_enabled: true}")
    else Some (codes "{pcap_enabled: true, pcap_capture_size: " ++ (decimal size ++ codes " B}"))

-- the address and the rates that are given
abbrev pub shown_interface : HostConfig → List ℕ
shown_interface h =
    line_if (codes "    ip_addr") shown_address h.ip_addr
    ++ (line_if (codes "    bandwidth_up") shown_rate h.bandwidth_up
    ++ line_if (codes "    bandwidth_down") shown_rate h.bandwidth_down)

-- the options that aren't the built-in defaults
abbrev pub shown_options : HostConfig → List ℕ
shown_options h = line_if (codes "    host_options") (λ options. options) (changed_options h.pcap_enabled h.pcap_capture_size)

-- the lines of a host, of the texts of its values
unfoldable pub host_lines : List ℕ → ℕ → List ℕ → List ℕ → List ℕ → List ℕ
host_lines name node interface options processes =
    codes "  " ++ (name ++ (codes ":\n"
    ++ line (codes "    network_node_id") (decimal node)
    (interface ++ (options ++ processes))))

unfoldable pub shown_host : HostConfig → List ℕ
shown_host h = host_lines (quoted h.name) h.network_node_id (shown_interface h) (shown_options h) (shown_processes h.processes)

-- each key of the table that has an effect; the configuration's notes aren't shown
unfoldable pub shown : Config → List ℕ
shown c = shown_general c ++ (shown_network c ++ (codes "hosts:\n" ++ flat_map shown_host c.hosts))
