-- How the other end of a connection is found.
use Rattle.std.specs.Prelude.{◌≡◌, ℕ, ◌&&◌, Bool, List, length, map, find, slice_get, Some}
use Rattle.std.specs.HashMap.{HashMap, get}
use Rattle.sim_base.specs.Addresses.{is_same}
use Rattle.sim_base.specs.declared.address.Addr.{Addr}
use Rattle.sim_base.specs.declared.address.Ip.{Ip}
use Rattle.stream_pairs.specs.Directions.{Kept, is_between}
use Rattle.stream_pairs.specs.declared.entries.Pair.{Pair}
use Rattle.host_sockets.specs.declared.streams.HostStream.{HostStream}

abbrev pub same_pair : Pair → Pair → Bool
same_pair a b = is_same a.own b.own && is_same a.peer b.peer

abbrev pub pair_of : HostStream → Pair
pair_of s = record { own = s.own; peer = s.peer }

-- the table has the first entry of each pair
abbrev pub Finds : {S : Type 0} → HashMap Pair HostStream S → List HostStream → Type 0
Finds entries streams = (q : Pair) → get same_pair entries q ≡ find (is_between q.own q.peer) streams

-- how the hosts are found by their addresses, and what each keeps by the pair of ends
pub record Indexes {S : Type 0} (book : List Ip) (entries : List (HashMap Pair HostStream S)) (all : List Kept) : Type 0 where
  pub book_is : book ≡ map (λ (k : Kept). k.address) all
  pub count : length entries ≡ length all
  pub each : (i : ℕ) (k : Kept) (e : HashMap Pair HostStream S) → slice_get all i ≡ Some k → slice_get entries i ≡ Some e → Finds e k.streams
