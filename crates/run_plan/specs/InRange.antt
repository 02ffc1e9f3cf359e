-- What the words of a call may ask for: the size of a self-load, and what they override.
use Rattle.std.specs.Prelude.{◌≤◌}
use Rattle.sim_base.specs.Limits.{most_ring_hosts}
use Rattle.command_line.specs.declared.asked.Asked.{Asked}
use Rattle.command_line.specs.declared.asked.Subject.{Subject}
use Rattle.command_line.specs.declared.asked.Subject.TheVariants.{File, SelfLoad, Capture}
use Rattle.shd_config.specs.declared.overrides.Overrides.{Overrides}

-- a self-load has two hosts at least, and not too many
abbrev pub IsInRange : Subject → Type 0
IsInRange (File name) = Unit {0}
IsInRange (SelfLoad hosts) = (2 ≤ hosts) × (hosts ≤ most_ring_hosts)
IsInRange (Capture name) = Unit {0}

-- what the words override
abbrev pub overrides_of : Asked → Overrides
overrides_of a = record { seed = a.seed; parallelism = a.parallelism; data_directory = a.data_directory; stop_time = a.stop_time }
