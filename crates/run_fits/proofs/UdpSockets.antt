-- what is done with the UDP sockets of a host leaves them fitting; what they send is whole, and what they receive are bytes
use Rattle.run_fits.proofs.Steps.{Gives, given, knows, tries}
use Rattle.sock_udp.specs.declared.datagram.Datagram.{Datagram}
use Rattle.std.proofs.Common.{Bool, Err, IfSome, List, None, Ok, Option, Result, Some, [], arith, is_some, length, nat_lt, not, position, slice_get, ℕ, ◌==◌, ◌∷◌}
use Rattle.std.specs.List.{AllByRecursion}
use Rattle.host_sockets.specs.Arriving.{arrives, arrives_by, datagram_arrives, datagram_at, datagram_in, takes_in}
use Rattle.host_sockets.specs.Sockets.{SocketsRecord}
use Rattle.udp_slots.specs.Slots.{oldest_datagram, only_state}
use Rattle.host_sockets.specs.Udp.{acted_udp, binds_udp, closes_udp, connects_udp, new_udp, receives_udp, sends_udp, socket_in, udp_acts, udp_around, udp_in, udp_place, with_udp}
use Rattle.host_wants.specs.Refusals.{by_errno}
use Rattle.host_wants.specs.Wanted.{Wanted}
use Rattle.host_wants.specs.declared.error.Refusal.{Refusal}
use Rattle.pcap_text.specs.Laws.{IsByte, IsText, IsWhole}
use Rattle.pcap_text.specs.Packets.{FitsAddr}
use Rattle.run_fits.proofs.Bytes.{all_append, all_set, all_take, got}
use Rattle.run_fits.proofs.TcpSockets.{BothFit, any_fits, either_fits, free_end, port_fits, segment_fits}
use Rattle.run_fits.specs.Bytes.{AreBytes}
use Rattle.run_fits.specs.Sockets.{DatagramFits, FitsIp, MayFit, SlotFits, SocketsFit, UdpFits}
use Rattle.sim_base.specs.Addresses.{Surroundings, any, at_free_port, at_port, is_local, is_same_ip, loopback, source_ip, with_port}
use Rattle.sim_base.specs.Packet.{max_datagram}
use Rattle.sim_base.specs.Refusals.{or_refuse, refuse_if}
use Rattle.sim_base.specs.declared.address.Addr.{Addr}
use Rattle.sim_base.specs.declared.address.Ip.{Ip}
use Rattle.sim_base.specs.declared.errno.Errno.{Errno}
use Rattle.sim_base.specs.declared.errno.Errno.TheVariants.{Eaddrnotavail, Edestaddrreq, Einval, Emsgsize}
use Rattle.sim_base.specs.declared.packet.Load.{Load}
use Rattle.sim_base.specs.declared.packet.Load.TheVariants.{Tcp, Udp}
use Rattle.sim_base.specs.declared.packet.Packet.{Packet}
use Rattle.sim_base.specs.declared.time.Time.{Time}
use Rattle.sock_udp.specs.Socket.{address_and_destination, address_to_bind, address_to_connect, address_to_use, arrive, bind, connect, limit, new_socket, or_else, reach, send, UdpState}
use Rattle.tcp_laws.proofs.Tests.{by_test}

with_udp_fits : (k : ℕ) (old new : UdpState) (t : SocketsRecord) → UdpFits new → SocketsFit t → SocketsFit (with_udp k old new t)
with_udp_fits k old new t here h = (h.0, all_set SlotFits t.udp k (Some new) h.1 here, h.2)

pub new_udp_fits : (t : SocketsRecord) → SocketsFit t → SocketsFit (new_udp t).1
unfolding new_udp
new_udp_fits t h = (
  h.0,
  by_test (λ (xs : List (Option UdpState)). AllByRecursion SlotFits xs) (nat_lt (udp_place t) (length t.udp)) _ _
      (λ e. all_set SlotFits t.udp (udp_place t) (Some new_socket) h.1 (tt, tt, tt))
      (λ e. all_append SlotFits t.udp (Some new_socket ∷ []) h.1 ((tt, tt, tt), tt)),
  h.2,
)

pub closes_udp_fits : (k : ℕ) (t : SocketsRecord) → SocketsFit t → SocketsFit (closes_udp k t)
unfolding closes_udp
closes_udp_fits k t h = (h.0, all_set SlotFits t.udp k None h.1 tt, h.2)

-- the socket of a number
slot_in : (found : Option (Option UdpState)) → IfSome found SlotFits → SlotFits (socket_in found)
slot_in None h = tt
slot_in (Some slot) h = h

udp_there : (k : ℕ) (t : SocketsRecord) → SocketsFit t → SlotFits (udp_in k t)
udp_there k t h = slot_in (slice_get t.udp k) (got SlotFits t.udp k h.1)

-- an act of it: of what it answers this holds
abbrev ActFits : {A : Type 0} → (A → Type 0) → A × UdpState → Type 0
ActFits P b = P b.0 × UdpFits b.1

abbrev pub AnswerFits : {A : Type 0} → (A → Type 0) → A × SocketsRecord → Type 0
AnswerFits P b = P b.0 × SocketsFit b.1

module _ {A : Type 0} (P : A → Type 0) where
  acted_slot : (act : UdpState → Result (A × UdpState) Refusal) (k : ℕ) (slot : Option UdpState) (t : SocketsRecord) → ((u : UdpState) → UdpFits u → Gives (ActFits P) (act u)) → SlotFits slot → SocketsFit t → Gives (AnswerFits P) (acted_udp act k slot t)
  acted_slot act k None t keeps there h = tt
  acted_slot act k (Some u) t keeps there h =
      knows (ActFits P) (AnswerFits P) (act u) _ (keeps u there) (λ b fits. (fits.0, with_udp_fits k u b.1 t fits.1 h))

  acts_fit : (act : UdpState → Result (A × UdpState) Refusal) (k : ℕ) (t : SocketsRecord) → ((u : UdpState) → UdpFits u → Gives (ActFits P) (act u)) → SocketsFit t → Gives (AnswerFits P) (udp_acts act k t)
  acts_fit act k t keeps h = acted_slot act k (udp_in k t) t keeps (udp_there k t h) h

abbrev pub Nothing : Unit {0} → Type 0
Nothing u = Unit {0}

only_gives : (r : Result UdpState Errno) → Gives UdpFits r → Gives (ActFits Nothing) (only_state (by_errno r))
only_gives (Ok u) h = (tt, h)
only_gives (Err errno) h = tt

-- bind(2)
bind_end : (around : Surroundings) (at : Addr) (u : UdpState) → FitsAddr at → Gives FitsAddr (address_to_bind around at u)
bind_end around at u fits =
    tries FitsAddr (refuse_if (is_some u.local) Einval) _
    (tries FitsAddr (refuse_if (not (is_local around.own at.ip)) Eaddrnotavail) _
    (knows FitsAddr FitsAddr (or_refuse (with_port around.bound at) Eaddrnotavail) _ (given FitsAddr (with_port around.bound at) Eaddrnotavail (port_fits around.bound at fits))
    (λ bound k. tries FitsAddr _ (Ok bound) k)))

bind_fits : (around : Surroundings) (at : Addr) (u : UdpState) → FitsAddr at → UdpFits u → Gives UdpFits (bind around at u)
bind_fits around at u fits h =
    knows FitsAddr UdpFits (address_to_bind around at u) _ (bind_end around at u fits) (λ bound k. (k, h.1, h.2))

pub binds_udp_fits : (hosts : List Ip) (k : ℕ) (at : Addr) (t : SocketsRecord) → FitsAddr at → SocketsFit t → Gives (AnswerFits Nothing) (binds_udp hosts k at t)
unfolding binds_udp
binds_udp_fits hosts k at t fits h =
    acts_fit Nothing (λ u. only_state (by_errno (bind (udp_around hosts t) at u))) k t (λ u g. only_gives (bind (udp_around hosts t) at u) (bind_fits (udp_around hosts t) at u fits g)) h

-- connect(2)
use_end : (around : Surroundings) (u : UdpState) → UdpFits u → Gives FitsAddr (address_to_use around u)
use_end around u h =
    given FitsAddr (or_else u.local (at_free_port around.bound any)) Eaddrnotavail
    (either_fits u.local (at_free_port around.bound any) h.0 (free_end around.bound any any_fits))

connect_fits : (around : Surroundings) (to : Addr) (u : UdpState) → FitsAddr to → UdpFits u → Gives UdpFits (connect around to u)
connect_fits around to u fits h =
    knows FitsAddr UdpFits (address_to_connect around to u) _
    (tries FitsAddr (reach around to u) _ (tries FitsAddr (refuse_if (to.port == 0) Eaddrnotavail) _ (use_end around u h)))
    (λ bound k. (k, fits, h.2))

pub connects_udp_fits : (hosts : List Ip) (k : ℕ) (to : Addr) (t : SocketsRecord) → FitsAddr to → SocketsFit t → Gives (AnswerFits Nothing) (connects_udp hosts k to t)
unfolding connects_udp
connects_udp_fits hosts k to t fits h =
    acts_fit Nothing (λ u. only_state (by_errno (connect (udp_around hosts t) to u))) k t (λ u g. only_gives (connect (udp_around hosts t) to u) (connect_fits (udp_around hosts t) to u fits g)) h

-- send(2)
source_whole : (own : Ip) (bound to : Addr) → FitsIp own → FitsAddr bound → FitsAddr (at_port (source_ip own bound.ip to.ip) bound.port)
source_whole own bound to home fits =
    (by_test FitsIp (is_same_ip bound.ip any) _ _ (λ e. by_test FitsIp (is_same_ip to.ip loopback) _ _ (λ k. omega arith) (λ k. home)) (λ e. fits.0), fits.1)

abbrev EndsFit : Addr × Addr → Type 0
EndsFit ends = FitsAddr ends.0 × FitsAddr ends.1

send_ends : (around : Surroundings) (size : ℕ) (to : Option Addr) (u : UdpState) → MayFit to → UdpFits u → Gives EndsFit (address_and_destination around size to u)
send_ends around size to u fits h =
    tries EndsFit (refuse_if (nat_lt max_datagram size) Emsgsize) _
    (knows FitsAddr EndsFit (or_refuse (or_else to u.peer) Edestaddrreq) _ (given FitsAddr (or_else to u.peer) Edestaddrreq (either_fits to u.peer fits h.1))
    (λ destination there. tries EndsFit (reach around destination u) _
    (knows FitsAddr EndsFit (address_to_use around u) _ (use_end around u h) (λ bound here. (here, there)))))

abbrev Sent : Packet × UdpState → Type 0
Sent b = IsWhole b.0 × UdpFits b.1

send_whole : (around : Surroundings) (bytes : List ℕ) (to : Option Addr) (u : UdpState) → FitsIp around.own → AreBytes bytes → MayFit to → UdpFits u → Gives Sent (send around bytes to u)
send_whole around bytes to u home are fits h =
    knows EndsFit Sent (address_and_destination around (length bytes) to u) _ (send_ends around (length bytes) to u fits h)
    (λ ends fit.
    (record { fits = record { from = source_whole around.own ends.0 ends.1 home fit.0; to = fit.1; load = tt }; text = are }, (fit.0, h.1, h.2)))

errno_gives : {A : Type 0} (P : A → Type 0) (r : Result A Errno) → Gives P r → Gives P (by_errno r)
errno_gives P (Ok a) h = h
errno_gives P (Err errno) h = tt

pub sends_udp_fits : (hosts : List Ip) (k : ℕ) (bytes : List ℕ) (to : Option Addr) (t : SocketsRecord) → AreBytes bytes → MayFit to → SocketsFit t → Gives (AnswerFits IsWhole) (sends_udp hosts k bytes to t)
unfolding sends_udp
sends_udp_fits hosts k bytes to t are fits h =
    acts_fit IsWhole (λ u. by_errno (send (udp_around hosts t) bytes to u)) k t
    (λ u g. errno_gives Sent (send (udp_around hosts t) bytes to u) (send_whole (udp_around hosts t) bytes to u h.0 are fits g)) h

-- recv(2)
oldest_fits : (u : UdpState) (waiting : List Datagram) (count : ℕ) → UdpFits u → AllByRecursion DatagramFits waiting → Gives (ActFits DatagramFits) (oldest_datagram u waiting count)
oldest_fits u [] count h k = tt
oldest_fits u (datagram ∷ behind) count h k = (all_take IsByte count datagram.bytes k.0, (h.0, h.1, k.1))

pub receives_udp_fits : (k count : ℕ) (t : SocketsRecord) → SocketsFit t → Gives (AnswerFits DatagramFits) (receives_udp k count t)
unfolding receives_udp
receives_udp_fits k count t h =
    acts_fit DatagramFits (λ u. oldest_datagram u u.waiting count) k t (λ u g. oldest_fits u u.waiting count g g.2) h

-- ---- arrivals

arrived_fits : (from : Addr) (bytes : List ℕ) (u : UdpState) → AreBytes bytes → UdpFits u → UdpFits (arrive from bytes u).1
arrived_fits from bytes u are h =
    by_test (λ (r : Bool × UdpState). UdpFits r.1) (nat_lt (length u.waiting) limit) _ _
    (λ e. (h.0, h.1, all_append DatagramFits u.waiting (record { from = from; bytes = bytes } ∷ []) h.2 (are, tt)))
    (λ e. h)

datagram_in_fits : (from : Addr) (bytes : List ℕ) (k : ℕ) (slot : Option UdpState) (t : SocketsRecord) → AreBytes bytes → SlotFits slot → SocketsFit t → SocketsFit (datagram_in from bytes k slot t).1
datagram_in_fits from bytes k None t are there h = h
datagram_in_fits from bytes k (Some u) t are there h = with_udp_fits k u (arrive from bytes u).1 t (arrived_fits from bytes u are there) h

datagram_at_fits : (from : Addr) (bytes : List ℕ) (found : Option ℕ) (t : SocketsRecord) → AreBytes bytes → SocketsFit t → SocketsFit (datagram_at from bytes found t).1
datagram_at_fits from bytes None t are h = h
datagram_at_fits from bytes (Some k) t are h = datagram_in_fits from bytes k (udp_in k t) t are (udp_there k t h) h

datagram_fits : (from to : Addr) (bytes : List ℕ) (t : SocketsRecord) → AreBytes bytes → SocketsFit t → SocketsFit (datagram_arrives from to bytes t).1
unfolding datagram_arrives
datagram_fits from to bytes t are h = datagram_at_fits from bytes (position (takes_in from to) t.udp) t are h

arrives_by_fits : (load : Load) (now : Time) (p : Packet) (t : SocketsRecord) (w : Wanted) → IsText load → IsWhole p → BothFit (t, w) → BothFit (arrives_by load now p t w).1
arrives_by_fits (Udp bytes) now p t w are whole h = (datagram_fits p.from p.to bytes t are h.0, h.1)
arrives_by_fits (Tcp flags seq ack window text) now p t w are whole h = segment_fits now p t w whole h

pub arrives_fits : (now : Time) (p : Packet) (t : SocketsRecord) (w : Wanted) → IsWhole p → BothFit (t, w) → BothFit (arrives now p t w).1
arrives_fits now p t w whole h = arrives_by_fits p.load now p t w whole.text whole h
