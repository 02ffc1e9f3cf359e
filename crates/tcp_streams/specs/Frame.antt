-- a part of an exchange, as the records and packets of one host among those of a world
use Rattle.std.specs.Prelude.{◌⊎◌, List, ◌++◌, Bool, true, ◌||◌, Contains, IsPermutation}
use Rattle.sim_base.specs.Addresses.{loopback, is_same_ip}
use Rattle.sim_base.specs.declared.address.Addr.{Addr}
use Rattle.sim_base.specs.declared.packet.Packet.{Packet}
use Rattle.sock_tcp.specs.connection.Tcb.{Tcb}
use Rattle.tcp_streams.specs.Exchange.{Exchange, Comes}

-- every two ends
abbrev pub everywhere : Addr → Addr → Bool
everywhere own other = true

-- two ends of which one is 127.0.0.1: each host has such ends of its own
abbrev pub inside : Addr → Addr → Bool
inside own other = is_same_ip own.ip loopback || is_same_ip other.ip loopback

-- the whole has the part's records and others, and the part's packets are on their way
pub record IsPart (part : Exchange) (others : List Tcb) (whole : Exchange) : Type 0 where
  pub records : IsPermutation whole.records (part.records ++ others)
  pub flying : (p : Packet) → Contains part.flying p → Contains whole.flying p

-- the part has moved on: the others are as they were, and what is on its way was so before, or is so in the
-- part, or came
pub record MovesOn (scope : Addr → Addr → Bool) (part : Exchange) (others : List Tcb) (before after : Exchange) : Type 0 where
  pub records : IsPermutation after.records (part.records ++ others)
  pub flying : (p : Packet) → Contains after.flying p
      → Contains part.flying p ⊎ (Contains before.flying p ⊎ Comes scope p)
