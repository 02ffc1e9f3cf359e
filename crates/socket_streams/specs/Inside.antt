-- 127.0.0.1 is the host itself (RFC 1122, section 3.2.1.3): what has it at one end has the host at the other
use Rattle.std.specs.Prelude.{◌≡◌, ◌⊎◌, ◌||◌, true, false, Contains}
use Rattle.sim_base.specs.Addresses.{loopback, is_same_ip}
use Rattle.sim_base.specs.declared.address.Ip.{Ip}
use Rattle.sim_base.specs.declared.address.Addr.{Addr}
use Rattle.sim_base.specs.declared.packet.Packet.{Packet}
use Rattle.sock_tcp.specs.connection.Tcb.{Tcb}
use Rattle.tcp_streams.specs.Exchange.{Exchange, IsVoid}
use Rattle.tcp_streams.specs.Sound.{IsSound}

-- an address of the host: 127.0.0.1, or its own
abbrev pub IsHome : Ip → Ip → Type 0
IsHome own ip = (is_same_ip ip loopback || is_same_ip ip own) ≡ true

-- with 127.0.0.1 at either end the other end is at home
pub record IsInside (own : Ip) (a b : Addr) : Type 0 where
  pub from : is_same_ip a.ip loopback ≡ true → IsHome own b.ip
  pub to : is_same_ip b.ip loopback ≡ true → IsHome own a.ip

-- so are all records of an exchange, which are sound, and all packets but those that tell nothing of a stream, where the host's own
-- address isn't 127.0.0.1
pub record StaysInside (own : Ip) (n : Exchange) : Type 0 where
  pub outside : is_same_ip own loopback ≡ false
  pub sound : (r : Tcb) → Contains n.records r → IsSound r
  pub ends : (r : Tcb) → Contains n.records r → IsInside own r.control.local r.control.peer
  pub packets : (p : Packet) → Contains n.flying p → IsVoid p.load ⊎ IsInside own p.from p.to
