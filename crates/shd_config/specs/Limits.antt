-- The limits that each configuration keeps to, and those of what a command line may override.
use Rattle.std.specs.Prelude.{ℕ, ◌≤◌, List, length, All, IfSome}
use Rattle.sim_base.specs.Limits.{most_hosts, most_processes, most_text_bytes}
use Rattle.sim_base.specs.Units.{latest_time}
use Rattle.sim_base.specs.declared.time.Time.{Time}
use Rattle.shd_config.specs.declared.config.Config.{Config}
use Rattle.shd_config.specs.declared.config.HostConfig.{HostConfig}
use Rattle.shd_config.specs.declared.config.ProcessConfig.{ProcessConfig}
use Rattle.shd_config.specs.declared.overrides.Overrides.{Overrides}
use Rattle.shd_config.specs.Process.{texts_size}

-- 1 ns to 2^61 ns
abbrev pub MayStop : Time → Type 0
MayStop t = (1 ≤ t.nanos) × (t.nanos ≤ latest_time)

-- a text that isn't empty
abbrev pub IsSomeText : List ℕ → Type 0
IsSomeText text = 1 ≤ length text

-- 1 to 16,384 hosts
abbrev pub AreFewHosts : List HostConfig → Type 0
AreFewHosts hosts = (1 ≤ length hosts) × (length hosts ≤ most_hosts)

-- a host has at most 64 processes
abbrev pub HasFewProcesses : HostConfig → Type 0
HasFewProcesses h = length h.processes ≤ most_processes

-- the texts of a process take at most 65,536 bytes, with a zero byte after each
abbrev pub HasFewBytes : ProcessConfig → Type 0
HasFewBytes p = texts_size p ≤ most_text_bytes

abbrev pub HaveFewBytes : HostConfig → Type 0
HaveFewBytes h = All HasFewBytes h.processes

-- what a command line may override: its directory has a name, and its stop time is in its range
pub record MayOverride (o : Overrides) : Type 0 where
  pub directory : IfSome o.data_directory IsSomeText
  pub stop : IfSome o.stop_time MayStop

-- the limits of a configuration
pub record IsWithinLimits (c : Config) : Type 0 where
  pub few : AreFewHosts c.hosts
  pub processes : All HasFewProcesses c.hosts
  pub texts : All HaveFewBytes c.hosts
  pub stop : MayStop c.stop_time
  pub directory : IsSomeText c.data_directory
