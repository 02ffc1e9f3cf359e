use Rattle.std.proofs.Common.{◌≡◌, string_bytes, take, flat_map}
use Rattle.config_lines.specs.Shown.{shown_host}
use Rattle.config_lines.proofs.show.host.hosts_string.Given as goal

-- what has been written so far
abbrev pub invariant-loop-host : goal.invariant-loop-host
invariant-loop-host l = string_bytes l.out ≡ flat_map shown_host (take l.host-index l.hosts)
