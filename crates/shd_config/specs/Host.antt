-- The keys `hosts` and `host_option_defaults`.
use Rattle.std.specs.Prelude.{ℕ, false, List, [], ◌∷◌, ◌++◌, length, Option, Some, None, unwrap_or, Result, Ok, codes}
use Rattle.sim_base.specs.Limits.{most_hosts}
use Rattle.sim_base.specs.Units.{max_u32}
use Rattle.shd_values.specs.Word.{is_name_of_host}
use Rattle.sim_base.specs.Refusals.{◌>>=◌}
use Rattle.yaml_merge.specs.declared.plain.Pair.{Pair}
use Rattle.shd_config.specs.declared.fault.ConfigKind.TheVariants.{UnknownKey, OutOfRange, BadValue}
use Rattle.shd_config.specs.declared.fault.ConfigFault.{ConfigFault}
use Rattle.shd_config.specs.declared.key.Key.{Key}
use Rattle.shd_config.specs.declared.key.Key.TheVariants as keys
use Rattle.shd_config.specs.declared.config.HostConfig.{HostConfig}
use Rattle.shd_config.specs.declared.options.HostOptions.{HostOptions}
use Rattle.shd_config.specs.declared.host.HostDraft.{HostDraft}
use Rattle.shd_config.specs.declared.host.HostRead.{HostRead}
use Rattle.shd_config.specs.Steps.{refused, needed, checked, below, through, optional, mapping_line}
use Rattle.shd_config.specs.Keys.{key_of}
use Rattle.shd_config.specs.Values.{mapping_at, text_at, number_at, truth_at, size_at, rate_at, address_at, is_within}
use Rattle.shd_config.specs.Process.{processes_at}
use Rattle.shd_config.specs.Bounds.{default_capture}

-- ---- the options of hosts

abbrev pub no_options : HostOptions
no_options = record { pcap_enabled = None; pcap_capture_size = None }

abbrev pub options_key : Option Key → HostOptions → Pair → Result HostOptions ConfigFault
options_key (Some keys.LogLevel) d p = optional p (text_at p) >>= λ _. Ok d
options_key (Some keys.PcapEnabled) d p = optional p (truth_at p) >>= λ v. Ok (record d { pcap_enabled = v })
options_key (Some keys.PcapCaptureSize) d p = optional p (size_at p) >>= λ v. Ok (record d { pcap_capture_size = v })
options_key _ d p = refused UnknownKey p

abbrev pub options_row : HostOptions → Pair → Result HostOptions ConfigFault
options_row d p = options_key (key_of p.key) d p

unfoldable pub options_at : Pair → Result HostOptions ConfigFault
options_at p = mapping_at p >>= λ pairs. below p (through options_row no_options pairs)

-- ---- a host

abbrev pub new_host : HostDraft
new_host = record { network_node_id = None; ip_addr = None; bandwidth_up = None; bandwidth_down = None; options = no_options; processes = [] }

abbrev pub host_key : Option Key → HostDraft → Pair → Result HostDraft ConfigFault
host_key (Some keys.NetworkNodeId) d p = number_at 0 max_u32 p >>= λ v. Ok (record d { network_node_id = Some v })
host_key (Some keys.IpAddr) d p = optional p (address_at p) >>= λ v. Ok (record d { ip_addr = v })
host_key (Some keys.BandwidthUp) d p = optional p (rate_at p) >>= λ v. Ok (record d { bandwidth_up = v })
host_key (Some keys.BandwidthDown) d p = optional p (rate_at p) >>= λ v. Ok (record d { bandwidth_down = v })
host_key (Some keys.HostOptions) d p = optional p (options_at p) >>= λ v. Ok (record d { options = unwrap_or v no_options })
host_key (Some keys.Processes) d p = optional p (processes_at p) >>= λ v. Ok (record d { processes = unwrap_or v [] })
host_key _ d p = refused UnknownKey p

abbrev pub host_row : HostDraft → Pair → Result HostDraft ConfigFault
host_row d p = host_key (key_of p.key) d p

abbrev pub finished_host : Pair → ℕ → HostDraft → Result HostRead ConfigFault
finished_host p line d = do
  node ← needed (codes "network_node_id") line d.network_node_id
  Ok (record {
    name = p.key;
    line = p.line;
    network_node_id = node;
    ip_addr = d.ip_addr;
    bandwidth_up = d.bandwidth_up;
    bandwidth_down = d.bandwidth_down;
    options = d.options;
    processes = d.processes;
  })

unfoldable pub host_of : Pair → List Pair → Result HostRead ConfigFault
host_of p pairs = through host_row new_host pairs >>= finished_host p (mapping_line p.line pairs)

-- the name of a host is looked at first
unfoldable pub host_at : Pair → Result HostRead ConfigFault
host_at p = do
  _ ← checked BadValue p (is_name_of_host p.key)
  pairs ← mapping_at p
  below p (host_of p pairs)

-- ---- the hosts

abbrev pub hosts_row : List HostRead → Pair → Result (List HostRead) ConfigFault
hosts_row before p = host_at p >>= λ host. Ok (before ++ host ∷ [])

-- 1 to 16,384 hosts
unfoldable pub hosts_at : Pair → Result (List HostRead) ConfigFault
hosts_at p = do
  pairs ← mapping_at p
  _ ← checked OutOfRange p (is_within 1 most_hosts (length pairs))
  below p (through hosts_row [] pairs)

-- an option of a host, else that of all hosts, else the default
abbrev pub chosen : {A : Type 0} → Option A → Option A → A → A
chosen own all default = unwrap_or own (unwrap_or all default)

abbrev pub completed : HostOptions → HostRead → HostConfig
completed all h = record {
  name = h.name;
  line = h.line;
  network_node_id = h.network_node_id;
  ip_addr = h.ip_addr;
  bandwidth_up = h.bandwidth_up;
  bandwidth_down = h.bandwidth_down;
  pcap_enabled = chosen h.options.pcap_enabled all.pcap_enabled false;
  pcap_capture_size = chosen h.options.pcap_capture_size all.pcap_capture_size default_capture;
  processes = h.processes;
}
