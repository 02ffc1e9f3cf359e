-- The keys of a configuration.
use Rattle.std.specs.Prelude.{ℕ, if◌then◌else◌, List, [], ◌∷◌, Option, Some, None, codes, map}
use Rattle.std.specs.Str.{bytes_eq}
use Rattle.std.specs.Borrow.{Bor}
use Rattle.shd_config.specs.declared.key.Key.{Key}
use Rattle.shd_config.specs.declared.key.Key.TheVariants as keys

-- the name of each key
abbrev pub names : List (List ℕ × Key)
names =
    (codes "general", keys.General)
    ∷ (codes "network", keys.Network)
    ∷ (codes "hosts", keys.Hosts)
    ∷ (codes "host_option_defaults", keys.HostOptionDefaults)
    ∷ (codes "experimental", keys.Experimental)
    ∷ (codes "stop_time", keys.StopTime)
    ∷ (codes "seed", keys.Seed)
    ∷ (codes "parallelism", keys.Parallelism)
    ∷ (codes "bootstrap_end_time", keys.BootstrapEndTime)
    ∷ (codes "data_directory", keys.DataDirectory)
    ∷ (codes "log_level", keys.LogLevel)
    ∷ (codes "heartbeat_interval", keys.HeartbeatInterval)
    ∷ (codes "progress", keys.Progress)
    ∷ (codes "model_unblocked_syscall_latency", keys.ModelUnblockedSyscallLatency)
    ∷ (codes "graph", keys.Graph)
    ∷ (codes "use_shortest_path", keys.UseShortestPath)
    ∷ (codes "router_queue", keys.RouterQueue)
    ∷ (codes "type", keys.Type)
    ∷ (codes "inline", keys.Inline)
    ∷ (codes "file", keys.File)
    ∷ (codes "path", keys.Path)
    ∷ (codes "compression", keys.Compression)
    ∷ (codes "network_node_id", keys.NetworkNodeId)
    ∷ (codes "ip_addr", keys.IpAddr)
    ∷ (codes "bandwidth_up", keys.BandwidthUp)
    ∷ (codes "bandwidth_down", keys.BandwidthDown)
    ∷ (codes "host_options", keys.HostOptions)
    ∷ (codes "pcap_enabled", keys.PcapEnabled)
    ∷ (codes "pcap_capture_size", keys.PcapCaptureSize)
    ∷ (codes "processes", keys.Processes)
    ∷ (codes "args", keys.Args)
    ∷ (codes "environment", keys.Environment)
    ∷ (codes "start_time", keys.StartTime)
    ∷ (codes "shutdown_time", keys.ShutdownTime)
    ∷ (codes "shutdown_signal", keys.ShutdownSignal)
    ∷ (codes "expected_final_state", keys.ExpectedFinalState)
    ∷ (codes "exited", keys.Exited)
    ∷ (codes "signaled", keys.Signaled) ∷ []

abbrev pub key_in : List (List ℕ × Key) → List ℕ → Option Key
key_in [] name = None
key_in (row ∷ rows) name = if bytes_eq row.0 name then Some row.1 else key_in rows name

-- the key of this name
unfoldable pub key_of : List ℕ → Option Key
key_of name = key_in names name

-- the table of a program's constant
abbrev pub table : List (Bor (List ℕ) × Key) → List (List ℕ × Key)
table rows = map (λ row. (row.0.now, row.1)) rows
