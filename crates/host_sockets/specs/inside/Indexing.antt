-- what an index of sockets finds: it passes none by that a look at each of them would find
use Rattle.std.specs.Prelude.{◌≡◌, ◌≢◌, ℕ, ◌≤◌, ◌==◌, Bool, true, not, List, Option, Some, is_some, length, slice_get, slice_index_or}
use Rattle.std.specs.List.{list_any, sum_by}
use Rattle.std.specs.HashMap.{get}
use Rattle.number_sets.specs.Sets.{has}
use Rattle.number_sets.specs.Bags.{Holds}
use Rattle.host_sockets.specs.declared.given.Given.{Given}
use Rattle.host_sockets.specs.declared.index.Index.{Index}
use Rattle.host_sockets.specs.declared.room.Room.{Room}
use Rattle.host_sockets.specs.declared.tables.Ends.{Ends}
use Rattle.host_sockets.specs.declared.tables.Tables.{Tables}
use Rattle.host_sockets.specs.declared.tcp_sock.TcpSock.{TcpSock}
use Rattle.host_sockets.specs.TcpSocket.{TcpSocket, is_free}
use Rattle.host_sockets.specs.SocketsStand.{SocketStands}
use Rattle.host_sockets.specs.inside.Ends.{same_ends, live_ends}
use Rattle.host_sockets.specs.inside.Given.{had_of, no_ports, times}

-- the sockets at some places are found: each live record by its two ends, and each listener among the ears
pub record Finds (places : Ends → Option ℕ) (ears : List ℕ) (P : ℕ → Type 0) (socks : List TcpSock) : Type 0 where
  pub records : (k : ℕ) (c : TcpSock) (s : TcpSocket) (ends : Ends) → P k → slice_get socks k ≡ Some c → SocketStands c s → live_ends s ≡ Some ends → places ends ≡ Some k
  pub listeners : (k : ℕ) (c : TcpSock) (s : TcpSocket) → P k → slice_get socks k ≡ Some c → SocketStands c s → is_some s.listen ≡ true → list_any (λ j. j == k) ears ≡ true

-- all of them but the one at a place, which is looked at each time
abbrev pub FindsOthers : ℕ → Tables → List TcpSock → Type 0
FindsOthers last t socks = Finds (get same_ends t.places) t.ears.items (λ k. k ≢ last) socks

abbrev pub FindsAll : Tables → List TcpSock → Type 0
FindsAll t socks = Finds (get same_ends t.places) t.ears.items (λ k. Unit {0}) socks

-- of the sockets at some places it is known whether their places are free
abbrev pub Knows : (ℕ → Bool) → (ℕ → Type 0) → List TcpSock → Type 0
Knows taken P socks = (k : ℕ) (c : TcpSock) (s : TcpSocket) → P k → slice_get socks k ≡ Some c → SocketStands c s → taken k ≡ not (is_free s)

abbrev pub KnowsOthers : ℕ → Room → List TcpSock → Type 0
KnowsOthers last r socks = Knows (has r.taken) (λ k. k ≢ last) socks

abbrev pub KnowsAll : Room → List TcpSock → Type 0
KnowsAll r socks = Knows (has r.taken) (λ k. Unit {0}) socks

-- the ports of the sockets at some places are entered, and the ends that have each are counted
pub record Counts (g : Given) (P : ℕ → Type 0) (socks : List TcpSock) : Type 0 where
  pub entries : (k : ℕ) (c : TcpSock) (s : TcpSocket) → P k → slice_get socks k ≡ Some c → SocketStands c s → slice_index_or g.ends.items k no_ports ≡ had_of s
  pub counts : Holds g.counts (λ n. sum_by (times n) g.ends.items)
  pub within : length g.ends.items ≤ length socks

abbrev pub CountsOthers : ℕ → Given → List TcpSock → Type 0
CountsOthers last g socks = Counts g (λ k. k ≢ last) socks

abbrev pub CountsAll : Given → List TcpSock → Type 0
CountsAll g socks = Counts g (λ k. Unit {0}) socks

-- where the tables were given up, nothing is said of them
pub record Indexes (i : Index) (socks : List TcpSock) : Type 0 where
  pub tables : (t : Tables) → i.tables ≡ Some t → FindsOthers i.last t socks
  pub room : (r : Room) → i.room ≡ Some r → KnowsOthers i.last r socks
  pub given : (g : Given) → i.given ≡ Some g → CountsOthers i.last g socks
