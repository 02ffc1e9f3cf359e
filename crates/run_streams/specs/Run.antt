-- the worlds that a run reaches
use Rattle.std.specs.Prelude.{◌≡◌, ℕ, false, true, List, map, Some, slice_get}
use Rattle.sim_base.specs.Addresses.{loopback, is_same_ip}
use Rattle.sim_base.specs.declared.time.Time.{Time}
use Rattle.host_link.specs.Net.{Net}
use Rattle.host_rows.specs.declared.row.Row.{Row}
use Rattle.host_state.specs.Fits.{model}
use Rattle.host_state.specs.HostRecord.{HostRecord}
use Rattle.host_state.specs.World.{World}
use Rattle.world_order.specs.World.{next}
use Rattle.socket_laws.specs.Histories.{SocketsAct, sockets_of}

-- from a first one, turn by turn
pub data IsReached (net : Net) (first : World) : World → Type 0 where
  begins : (w : World) → first ≡ w → IsReached net first w
  turns : (w v : World) → IsReached net first w → next (model net) net.stop.nanos w ≡ Some v → IsReached net first v

-- the sockets of a host are what some history of calls, arrivals and alarms left of none
pub record HasHistory (net : Net) (h : HostRecord) : Type 0 where
  pub draws : List ℕ
  pub acts : List (Time × SocketsAct)
  pub is : h.parts.sockets ≡ sockets_of net.known.book h.row.address draws acts

-- no host has the address 127.0.0.1
abbrev pub AreOutside : List Row → Type 0
AreOutside rows =
    (i : ℕ) (row : Row) → slice_get rows i ≡ Some row → is_same_ip row.address loopback ≡ false

-- each row is that of the host of its place
abbrev pub ArePlaced : List Row → Type 0
ArePlaced rows = (i : ℕ) (row : Row) → slice_get rows i ≡ Some row → row.host.index ≡ i

-- no two rows have one address
abbrev pub AreApart : List Row → Type 0
AreApart rows =
    (i j : ℕ) (a b : Row) → slice_get rows i ≡ Some a → slice_get rows j ≡ Some b → is_same_ip a.address b.address ≡ true → i ≡ j

-- the rows of a net's hosts: each in its place, at an address of its own that isn't 127.0.0.1, and that the net knows
pub record AreHosts (net : Net) (rows : List Row) : Type 0 where
  pub outside : AreOutside rows
  pub placed : ArePlaced rows
  pub apart : AreApart rows
  pub listed : net.known.book ≡ map (λ (row : Row). row.address) rows
