-- What the lines of a round add to captures.
use Rattle.std.specs.Prelude.{ℕ, List, ◌++◌, Option, Some, None, Bool, if◌then◌else◌}
use Rattle.sim_base.specs.declared.address.Ip.{Ip}
use Rattle.run_files.specs.Captures.{is_on_eth0, is_on_lo, is_there, line_record}
use Rattle.run_files.specs.Listed.{HostNames}
use Rattle.run_files.specs.declared.capture.Captured.{Captured}
use Rattle.host_link.specs.declared.line.Line.{Line}

-- one line more of a host
abbrev pub line_behind : Bool → ℕ → Line → List ℕ → List ℕ
line_behind here size line records = if here then records ++ line_record size line else records

abbrev pub line_by : Ip → Line → Captured → Option ℕ → Captured
line_by own line c None = c
line_by own line c (Some size) = record { eth0 = line_behind (is_on_eth0 own line) size line c.eth0; lo = line_behind (is_on_lo own line) size line c.lo }

abbrev pub with_line : HostNames → Line → Captured → Captured
with_line host line c = line_by host.address line c host.capture

abbrev pub has_captures : HostNames → Bool
has_captures host = is_there host.capture
