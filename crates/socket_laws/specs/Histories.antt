-- what may happen to the sockets of a host, and what they are afterwards
use Rattle.std.specs.Prelude.{ℕ, ℤ, Bool, List, [], ◌∷◌, Option, Result, Ok, Err}
use Rattle.sim_base.specs.declared.address.Ip.{Ip}
use Rattle.sim_base.specs.declared.address.Addr.{Addr}
use Rattle.sim_base.specs.declared.packet.Packet.{Packet}
use Rattle.sim_base.specs.declared.time.Time.{Time}
use Rattle.sock_tcp.specs.declared.connection.effects.Shut.{Shut}
use Rattle.host_wants.specs.declared.error.Refusal.{Refusal}
use Rattle.host_wants.specs.Wanted.{Wanted, nothing_wanted}
use Rattle.host_sockets.specs.Sockets.{SocketsRecord, no_sockets, new_tcp}
use Rattle.host_sockets.specs.Udp.{new_udp, binds_udp, connects_udp, sends_udp, receives_udp, closes_udp}
use Rattle.host_sockets.specs.Binding.{binds_tcp, listens_tcp}
use Rattle.host_sockets.specs.Accepting.{accepts_tcp}
use Rattle.host_sockets.specs.Connecting.{connects_taking, connect_answers}
use Rattle.host_sockets.specs.Moving.{sends_taking, receives_taking, shuts_tcp}
use Rattle.host_sockets.specs.Names.{takes_error}
use Rattle.host_sockets.specs.Closing.{closes_tcp}
use Rattle.host_sockets.specs.Arriving.{arrives}
use Rattle.host_sockets.specs.Alarms.{alarm_comes}

-- a process calls, a packet arrives, or an alarm comes; or elsewhere words are drawn, alarms get serials, and what is wanted is
-- done or joined by other wants, so that anything may be wanted then
pub data SocketsAct : Type 0 where
  make_udp : SocketsAct
  bind_udp : (k : ℕ) (at : Addr) → SocketsAct
  connect_udp : (k : ℕ) (to : Addr) → SocketsAct
  send_udp : (k : ℕ) (bytes : List ℕ) (to : Option Addr) → SocketsAct
  recv_udp : (k count : ℕ) → SocketsAct
  close_udp : (k : ℕ) → SocketsAct
  make_tcp : SocketsAct
  bind_tcp : (k : ℕ) (at : Addr) → SocketsAct
  listen_tcp : (k : ℕ) (count : ℤ) → SocketsAct
  accept_tcp : (k : ℕ) → SocketsAct
  connect_tcp : (k : ℕ) (to : Addr) → SocketsAct
  connect_again : (k : ℕ) → SocketsAct
  send_tcp : (k : ℕ) (bytes : List ℕ) (to : Option Addr) (quiet : Bool) → SocketsAct
  recv_tcp : (k count : ℕ) → SocketsAct
  shut_tcp : (k : ℕ) (how : Shut) → SocketsAct
  take_error : (k : ℕ) → SocketsAct
  close_tcp : (k : ℕ) → SocketsAct
  arrival : (p : Packet) → SocketsAct
  alarm : (k serial : ℕ) → SocketsAct
  elsewhere : (w : Wanted) → SocketsAct

-- a call that is refused changes nothing
abbrev pub left_by : {A S : Type 0} → Result (A × S) Refusal → S → S
left_by (Ok (a, after)) before = after
left_by (Err refusal) before = before

abbrev pub alone_by : {A : Type 0} → Result (A × SocketsRecord) Refusal → SocketsRecord → Wanted → SocketsRecord × Wanted
alone_by row t w = (left_by row t, w)

-- one act at a moment, where these are the addresses of all hosts
abbrev pub sockets_acted : List Ip → Time → SocketsAct → SocketsRecord → Wanted → SocketsRecord × Wanted
sockets_acted hosts now make_udp t w = ((new_udp t).1, w)
sockets_acted hosts now (bind_udp k at) t w = alone_by (binds_udp hosts k at t) t w
sockets_acted hosts now (connect_udp k to) t w = alone_by (connects_udp hosts k to t) t w
sockets_acted hosts now (send_udp k bytes to) t w = alone_by (sends_udp hosts k bytes to t) t w
sockets_acted hosts now (recv_udp k count) t w = alone_by (receives_udp k count t) t w
sockets_acted hosts now (close_udp k) t w = (closes_udp k t, w)
sockets_acted hosts now make_tcp t w = ((new_tcp t).1, w)
sockets_acted hosts now (bind_tcp k at) t w = alone_by (binds_tcp k at t) t w
sockets_acted hosts now (listen_tcp k count) t w = alone_by (listens_tcp k count t) t w
sockets_acted hosts now (accept_tcp k) t w = alone_by (accepts_tcp k t) t w
sockets_acted hosts now (connect_tcp k to) t w = left_by (connects_taking hosts now k to t w) (t, w)
sockets_acted hosts now (connect_again k) t w = left_by (connect_answers now k t w) (t, w)
sockets_acted hosts now (send_tcp k bytes to quiet) t w = left_by (sends_taking hosts now k bytes to quiet t w) (t, w)
sockets_acted hosts now (recv_tcp k count) t w = left_by (receives_taking now k count t w) (t, w)
sockets_acted hosts now (shut_tcp k how) t w = left_by (shuts_tcp now k how t w) (t, w)
sockets_acted hosts now (take_error k) t w = left_by (takes_error now k t w) (t, w)
sockets_acted hosts now (close_tcp k) t w = closes_tcp now k t w
sockets_acted hosts now (arrival p) t w = (arrives now p t w).1
sockets_acted hosts now (alarm k serial) t w = alarm_comes now k serial t w
sockets_acted hosts now (elsewhere after) t w = (t, after)

-- acts, one behind another, each at its moment
abbrev pub sockets_after : List Ip → List (Time × SocketsAct) → SocketsRecord × Wanted → SocketsRecord × Wanted
sockets_after hosts [] (t, w) = (t, w)
sockets_after hosts ((now, act) ∷ acts) (t, w) = sockets_after hosts acts (sockets_acted hosts now act t w)

-- the sockets of a host that had none
abbrev pub sockets_of : List Ip → Ip → List ℕ → List (Time × SocketsAct) → SocketsRecord
sockets_of hosts own draws acts = (sockets_after hosts acts (no_sockets own, nothing_wanted draws)).0
