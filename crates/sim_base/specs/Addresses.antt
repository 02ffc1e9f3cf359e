-- The addresses of hosts and the ports of their sockets (RFC 768, RFC 9293; ip(7), udp(7), tcp(7)).
use Rattle.std.specs.BTreeMap.{BTreeMap, get}
use Rattle.std.specs.Ordering.{nat_cmp}
use Rattle.std.specs.Prelude.{◌≡◌, ℕ, ◌==◌, Bool, false, not, ◌&&◌, ◌||◌, List, Option, Some, None, option_map, find, if◌then◌else◌}
use Rattle.std.specs.List.{list_any, range_with_len, position_from}
use Rattle.sim_base.specs.declared.address.Ip.{Ip}
use Rattle.sim_base.specs.declared.address.Addr.{Addr}

-- what a socket of a host has around it: the host's address, the addresses of all hosts in the order of the hosts, and
-- what the host's sockets are bound to
pub record Surroundings : Type 0 where
  pub own : Ip
  pub hosts : List Ip
  pub bound : List Addr

-- 0.0.0.0, which stands for each address of a host (RFC 1122, section 3.2.1.3)
abbrev pub any : Ip
any = record { bits = 0 }

-- 127.0.0.1, the host itself (RFC 1122, section 3.2.1.3)
abbrev pub loopback : Ip
loopback = record { bits = 0x7f000001 }

abbrev pub is_same_ip : Ip → Ip → Bool
is_same_ip a b = a.bits == b.bits

abbrev pub is_same : Addr → Addr → Bool
is_same a b = is_same_ip a.ip b.ip && (a.port == b.port)

-- a socket of the host with this address may be bound to 0.0.0.0, to 127.0.0.1 and to that address
abbrev pub is_local : Ip → Ip → Bool
is_local own ip = is_same_ip ip any || is_same_ip ip loopback || is_same_ip ip own

-- the address is that of a host
abbrev pub has_host : List Ip → Ip → Bool
has_host hosts ip = list_any (is_same_ip ip) hosts

-- the number of the host that has the address: its place among the hosts, from 0
unfoldable pub host_at : List Ip → Ip → Option ℕ
host_at hosts ip = position_from (is_same_ip ip) 0 hosts

-- the map has the number of the host at each address
abbrev pub Tells : BTreeMap ℕ ℕ → List Ip → Type 0
Tells index hosts = (bits : ℕ) → get nat_cmp index bits ≡ host_at hosts (record { bits = bits })

-- there is a route to 127.0.0.1 and to the address of each host
abbrev pub is_reachable : List Ip → Ip → Bool
is_reachable hosts ip = is_same_ip ip loopback || has_host hosts ip

-- two ends meet that have one port, and one address or either of them 0.0.0.0
abbrev pub meets : Addr → Addr → Bool
meets a b = (a.port == b.port) && (is_same_ip a.ip b.ip || is_same_ip a.ip any || is_same_ip b.ip any)

-- one of some ends is met
abbrev pub is_taken : List Addr → Addr → Bool
is_taken bound at = list_any (meets at) bound

-- one of some ends has the port, whatever its address
abbrev pub has_port : List Addr → ℕ → Bool
has_port bound port = list_any (λ at. at.port == port) bound

-- the first of some ports in a row that none of the ends has
unfoldable pub first_free_port : List Addr → ℕ → ℕ → Option ℕ
first_free_port bound port count = find (λ candidate. not (has_port bound candidate)) (range_with_len port count)

-- the ports that a socket gets by itself: from 10000 to the last, 65535 (this project's own profile)
abbrev pub first_given_port : ℕ
first_given_port = 10000

abbrev pub given_ports : ℕ
given_ports = 55536

-- the least free port of these
abbrev pub least_free_port : List Addr → Option ℕ
least_free_port bound = first_free_port bound first_given_port given_ports

abbrev pub at_port : Ip → ℕ → Addr
at_port ip port = record { ip = ip; port = port }

-- an address at the least free port, if there is a free one
abbrev pub at_free_port : List Addr → Ip → Option Addr
at_free_port bound ip = option_map (at_port ip) (least_free_port bound)

-- the end that is asked for, for port 0 at the least free port
abbrev pub with_port : List Addr → Addr → Option Addr
with_port bound at = if at.port == 0 then at_free_port bound at.ip else Some at

-- a socket that is bound to 127.0.0.1 has no other destination
abbrev pub stays_inside : Option Addr → Bool
stays_inside None = false
stays_inside (Some at) = is_same_ip at.ip loopback

-- the source address to a destination is the bound one where that is not 0.0.0.0, else 127.0.0.1 to 127.0.0.1, else the host's own
abbrev pub source_ip : Ip → Ip → Ip → Ip
source_ip own bound to = if is_same_ip bound any then (if is_same_ip to loopback then loopback else own) else bound
