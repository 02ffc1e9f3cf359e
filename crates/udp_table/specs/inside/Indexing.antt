-- what the index of a table knows: which places are taken, how many sockets have each given port, which has each end, and at which
-- addresses these are
use Rattle.std.specs.Prelude.{◌≡◌, ◌≢◌, ℕ, ◌+◌, Bool, true, ◌&&◌, List, Option, Some, None, is_some, slice_index_or, min}
use Rattle.std.specs.List.{list_any, sum_by}
use Rattle.std.specs.HashMap.{get}
use Rattle.sim_base.specs.declared.address.Addr.{Addr}
use Rattle.sim_base.specs.declared.address.Ip.{Ip}
use Rattle.sim_base.specs.Addresses.{is_same, is_same_ip, meets, at_port}
use Rattle.number_sets.specs.Sets.{has}
use Rattle.number_sets.specs.Bags.{Holds}
use Rattle.number_sets.specs.Ports.{given_end, once}
use Rattle.sock_udp.specs.declared.ends.UdpEnds.{UdpEnds}
use Rattle.udp_table.specs.declared.index.Index.{Index}
use Rattle.udp_table.specs.Table.{local_in}

-- the socket at a place; behind the last one there is none
abbrev pub at_place : List (Option UdpEnds) → ℕ → Option UdpEnds
at_place places k = slice_index_or places k None

-- whether the socket at a place has the given port with a number
abbrev pub times : ℕ → Option UdpEnds → ℕ
times n place = once (given_end (local_in place)) n

-- each place that is bound is found by its end, and no other
pub record Finds (found : Addr → Option ℕ) (local : ℕ → Option Addr) : Type 0 where
  pub each : (k : ℕ) (at : Addr) → local k ≡ Some at → found at ≡ Some k
  pub only : (k : ℕ) (at : Addr) → found at ≡ Some k → local k ≡ Some at

-- whether an end that is found has the port of this one at an address, and meets it
abbrev pub meets_there : (Addr → Option ℕ) → Addr → Ip → Bool
meets_there found at ip = meets at (at_port ip at.port) && is_some (found (at_port ip at.port))

-- the address of each end is noted
abbrev pub Notes : List Ip → (ℕ → Option Addr) → Type 0
Notes addresses local = (k : ℕ) (at : Addr) → local k ≡ Some at → list_any (is_same_ip at.ip) addresses ≡ true

pub record Indexes (i : Index) (places : List (Option UdpEnds)) : Type 0 where
  pub taken : (k : ℕ) → has i.taken k ≡ is_some (at_place places k)
  pub ports : Holds i.ports (λ n. sum_by (times n) places)
  pub bound : Finds (get is_same i.bound) (λ k. local_in (at_place places k))
  pub addresses : Notes i.addresses.items (λ k. local_in (at_place places k))

-- the socket at one place changes
pub record Changes (place : ℕ) (before after : Option UdpEnds) (old new : List (Option UdpEnds)) : Type 0 where
  pub was : at_place old place ≡ before
  pub is : at_place new place ≡ after
  pub others : (k : ℕ) → k ≢ place → at_place new k ≡ at_place old k
  pub sums : (n : ℕ) → sum_by (times n) new + times n before ≡ sum_by (times n) old + times n after

-- the earlier one of two places, where there are any
abbrev pub earlier : Option ℕ → Option ℕ → Option ℕ
earlier None b = b
earlier (Some a) None = Some a
earlier (Some a) (Some b) = Some (min a b)
