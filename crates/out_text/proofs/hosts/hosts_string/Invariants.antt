use Rattle.std.proofs.Common.{◌≡◌, ◌++◌, string_bytes, take, codes, flat_map}
use Rattle.out_text.specs.Hosts.{host_line}
use Rattle.out_text.proofs.hosts.hosts_string.Given as goal

abbrev pub invariant-loop-host : goal.invariant-loop-host
invariant-loop-host l = string_bytes l.text ≡ codes "127.0.0.1 localhost\n" ++ flat_map host_line (take l.host-index l.hosts)
