-- What the values of a configuration are that was read: each is in the range of its key, and each text is UTF-8.
use Rattle.std.specs.Prelude.{◌≡◌, ◌≢◌, ℕ, ◌^◌, ◌<◌, ◌≤◌, true, List, [], ◌∷◌, length, map, All, IfSome, codes}
use Rattle.std.specs.Str.{IsUtf8}
use Rattle.sim_base.specs.Limits.{most_processes, most_text_bytes}
use Rattle.sim_base.specs.declared.time.Time.{Time}
use Rattle.shd_config.specs.Bounds.{greatest_status, greatest_capture}
use Rattle.shd_values.specs.Word.{is_name_of_host, names_program}
use Rattle.shd_config.specs.Values.{may_be_host}
use Rattle.shd_config.specs.Process.{texts_size}
use Rattle.shd_config.specs.Limits.{MayStop, IsSomeText, AreFewHosts}
use Rattle.shd_config.specs.declared.config.GraphSource.{GraphSource}
use Rattle.shd_config.specs.declared.config.GraphSource.TheVariants as sources
use Rattle.host_rows.specs.declared.row.FinalState.{FinalState}
use Rattle.host_rows.specs.declared.row.FinalState.TheVariants as states
use Rattle.shd_config.specs.declared.config.Variable.{Variable}
use Rattle.shd_config.specs.declared.config.ProcessConfig.{ProcessConfig}
use Rattle.shd_config.specs.declared.config.HostConfig.{HostConfig}
use Rattle.shd_config.specs.declared.config.Config.{Config}

-- no two of these names are the same
abbrev pub AreApart : List (List ℕ) → Type 0
AreApart [] = Unit {0}
AreApart (name ∷ names) = All (λ other. other ≢ name) names × AreApart names

-- a text is UTF-8, and no variable is named as a merge key
pub record IsPlainVariable (v : Variable) : Type 0 where
  pub name : IsUtf8 v.name
  pub value : IsUtf8 v.value
  pub other : v.name ≢ codes "<<"

-- a status is within its range
abbrev pub IsPlainState : FinalState → Type 0
IsPlainState (states.Exited status) = status ≤ greatest_status
IsPlainState (states.Signaled s) = Unit {0}
IsPlainState states.Running = Unit {0}

-- a shutdown comes behind the start
abbrev pub IsShutdown : Time → Time → Type 0
IsShutdown start time = (start.nanos < time.nanos) × (time.nanos < 2 ^ 64)

pub record IsPlainProcess (p : ProcessConfig) : Type 0 where
  pub path : IsUtf8 p.path
  pub program : names_program p.path ≡ true
  pub args : All IsUtf8 p.args
  pub environment : All IsPlainVariable p.environment
  pub apart : AreApart (map (λ v. v.name) p.environment)
  pub start : p.start_time.nanos < 2 ^ 64
  pub shutdown : IfSome p.shutdown_time (IsShutdown p.start_time)
  pub state : IsPlainState p.expected_final_state
  pub few : texts_size p ≤ most_text_bytes

-- bits a second
abbrev pub IsRate : ℕ → Type 0
IsRate n = (1 ≤ n) × (n < 2 ^ 64)

pub record IsPlainHost (h : HostConfig) : Type 0 where
  pub name : is_name_of_host h.name ≡ true
  pub node : h.network_node_id < 2 ^ 32
  pub address : IfSome h.ip_addr (λ ip. may_be_host ip ≡ true)
  pub up : IfSome h.bandwidth_up IsRate
  pub down : IfSome h.bandwidth_down IsRate
  pub capture : (1 ≤ h.pcap_capture_size) × (h.pcap_capture_size ≤ greatest_capture)
  pub few : length h.processes ≤ most_processes
  pub processes : All IsPlainProcess h.processes

abbrev pub IsPlainGraph : GraphSource → Type 0
IsPlainGraph sources.OneGbitSwitch = Unit {0}
IsPlainGraph (sources.Inline text) = IsUtf8 text
IsPlainGraph (sources.File name) = IsUtf8 name

pub record IsPlain (c : Config) : Type 0 where
  pub stop : MayStop c.stop_time
  pub seed : c.seed < 2 ^ 32
  pub parallelism : c.parallelism < 2 ^ 32
  pub bootstrap : c.bootstrap_end_time.nanos < 2 ^ 64
  pub directory : IsUtf8 c.data_directory
  pub named : IsSomeText c.data_directory
  pub graph : IsPlainGraph c.graph
  pub few : AreFewHosts c.hosts
  pub hosts : All IsPlainHost c.hosts
  pub apart : AreApart (map (λ h. h.name) c.hosts)
