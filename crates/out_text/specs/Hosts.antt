-- The file of hosts' addresses (hosts(5)).
use Rattle.std.specs.Prelude.{ℕ, List, ◌++◌, flat_map, codes}
use Rattle.out_text.specs.Address.{ip_text}
use Rattle.out_text.specs.declared.hosts.HostLine.{HostLine}

-- ADDRESS NAME
abbrev pub host_line : HostLine → List ℕ
host_line host = ip_text host.address ++ (codes " " ++ (host.name ++ codes "\n"))

-- the loopback address, and then a line for each host
abbrev pub hosts_text : List HostLine → List ℕ
hosts_text hosts = codes "127.0.0.1 localhost\n" ++ flat_map host_line hosts
