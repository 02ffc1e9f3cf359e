-- calls on sockets
use Rattle.std.proofs.Common.{Bool, Err, List, Ok, Option, Result, [], is_some, w32, ℕ, ◌∷◌}
use Rattle.std.specs.Int.{cast_signed, to_le_bytes}
use Rattle.file_calls.specs.Flags.{has, o_nonblock}
use Rattle.guest_args.specs.Span.{counted, filled, int_size}
use Rattle.guest_args.specs.declared.address.AddressPlace.{AddressPlace}
use Rattle.guest_mem.specs.Memory.{Memory}
use Rattle.host_calls.specs.Parts.{Scene, local_of, with_wanted}
use Rattle.host_calls.specs.Sockets.{accepts, bind, bind_asked, binds, connect_again, connect_call, connect_tcp, connect_udp, connects, getpeername, getsockname, getsockopt, listen, name_of, peer_of, receives, recv_by, recv_tcp, recv_udp, send_tcp, send_udp, sends_by, shut_of, shutdown, shuts, told_error, told_option, with_memory, with_peer, with_received, with_socket, socket}
use Rattle.call_parts.specs.Sockets.{address, getsockopt_asked, given_address, number_of, open_socket, result_address, socket_asked, tcp_number, type_of, with_option}
use Rattle.host_calls.specs.declared.accepting.AcceptPlan.{AcceptPlan}
use Rattle.call_parts.specs.declared.making.NewSocket.{NewSocket}
use Rattle.host_calls.specs.declared.connecting.ConnectPlan.{ConnectPlan}
use Rattle.host_calls.specs.declared.receiving.RecvPlan.{RecvPlan}
use Rattle.call_parts.specs.declared.messages.Message.{Message}
use Rattle.host_calls.specs.declared.sending.SendPlan.{SendPlan}
use Rattle.host_calls.specs.declared.sending.StreamSend.{StreamSend}
use Rattle.host_sockets.specs.Accepting.{accepts_tcp}
use Rattle.host_sockets.specs.Binding.{listens_tcp}
use Rattle.host_sockets.specs.Connecting.{connect_answers, connects_taking}
use Rattle.host_sockets.specs.Moving.{receives_taking, sends_taking, shuts_tcp}
use Rattle.host_sockets.specs.Names.{takes_error, tcp_peer}
use Rattle.host_sockets.specs.Sockets.{SocketsRecord}
use Rattle.host_sockets.specs.Udp.{binds_udp, connects_udp, receives_udp, sends_udp, udp_fits}
use Rattle.host_sockets.specs.declared.reply.Reply.{Reply}
use Rattle.host_sockets.specs.declared.reply.Reply.TheVariants.{Done, Failed}
use Rattle.host_wants.specs.Wanted.{Wanted}
use Rattle.pcap_text.specs.Laws.{IsWhole}
use Rattle.pcap_text.specs.Packets.{FitsAddr}
use Rattle.run_fits.proofs.Bytes.{le_are}
use Rattle.run_fits.proofs.Memories.{answered_in, filled_in}
use Rattle.run_fits.proofs.Rows.{LeavesScene, SceneFits, address_fits, bind_end_fits, given_address_fits, spans}
use Rattle.run_fits.proofs.Steps.{Gives, knows, steps, tries}
use Rattle.run_fits.proofs.TcpSockets.{BothFit, Left, LeftBoth, ReadBytes, accepts_tcp_fits, binds_tcp_fits, connect_answers_fit, connects_taking_fits, listens_tcp_fits, new_tcp_fits, receives_taking_fits, sends_fit, sends_taking_fits, shuts_tcp_fits, takes_error_fits}
use Rattle.run_fits.proofs.UdpSockets.{AnswerFits, Nothing, binds_udp_fits, connects_udp_fits, new_udp_fits, receives_udp_fits, sends_udp_fits}
use Rattle.run_fits.specs.Bytes.{HasBytes}
use Rattle.run_fits.specs.Sockets.{DatagramFits, MayFit, SocketsFit}
use Rattle.sim_base.specs.declared.address.Addr.{Addr}
use Rattle.sim_base.specs.declared.address.Ip.{Ip}
use Rattle.sim_base.specs.declared.time.Time.{Time}
use Rattle.sock_tcp.specs.declared.connection.effects.Shut.{Shut}
use Rattle.tcp_laws.proofs.Tests.{by_test}
use Rattle.host_wants.specs.declared.error.Refusal.{Refusal}
use Rattle.call_parts.specs.declared.sockets.SocketNumber.{SocketNumber}
use Rattle.call_parts.specs.declared.sockets.SocketNumber.TheVariants as number
use Rattle.host_calls.specs.declared.sending.SendPlan.TheVariants as sending
use Rattle.call_parts.specs.declared.options.Asked.{Asked}

abbrev R : {A : Type 0} → Result (A × Scene) Refusal → Type 0
R row = Gives LeavesScene row

-- what a UDP socket leaves, whatever it answers
after_udp : (r : Result (Unit {0} × SocketsRecord) Refusal) → Gives (AnswerFits Nothing) r → Gives Left r
after_udp (Ok b) h = h.1
after_udp (Err why) h = tt

-- what the sockets leave of a scene
with_both : (s : Scene) (after : SocketsRecord × Wanted) → SceneFits s → BothFit after → SceneFits (with_wanted after s)
with_both s after h k = (h.0, h.1, k.1, k.0)

made : (new : NewSocket) (nonblocking : Bool) (s : Scene) → SceneFits s → SceneFits (with_socket new nonblocking s)
made new nonblocking s h =
    by_test SceneFits new.stream _ _
    (λ e. (h.0, h.1, h.2, new_tcp_fits s.sockets h.3))
    (λ e. (h.0, h.1, h.2, new_udp_fits s.sockets h.3))

pub socket_keeps : (family type protocol : ℕ) (s : Scene) → SceneFits s → R (socket family type protocol s)
socket_keeps family type protocol s h =
    steps LeavesScene (socket_asked family type protocol s.task) _ (λ new e. made new (has o_nonblock type) s h)

bound : (hosts : List Ip) (socket : SocketNumber) (at : Addr) (t : SocketsRecord) → FitsAddr at → SocketsFit t → Gives Left (binds hosts socket at t)
bound hosts (number.Udp k) at t fits h = after_udp (binds_udp hosts k at t) (binds_udp_fits hosts k at t fits h)
bound hosts (number.Tcp k) at t fits h = binds_tcp_fits k at t fits h

pub bind_keeps : (hosts : List Ip) (fd at size : ℕ) (s : Scene) → SceneFits s → R (bind hosts fd at size s)
bind_keeps hosts fd at size s h =
    steps LeavesScene (open_socket fd (local_of s)) _
    (λ socket e. knows FitsAddr LeavesScene (bind_asked socket.number at size s.task.memory s.sockets) _ (bind_end_fits socket.number at size s.task.memory s.sockets h.0)
    (λ to fits. knows Left LeavesScene (binds hosts socket.number to s.sockets) _ (bound hosts socket.number to s.sockets fits h.3)
    (λ b left. (h.0, h.1, h.2, left))))

pub listen_keeps : (fd backlog : ℕ) (s : Scene) → SceneFits s → R (listen fd backlog s)
listen_keeps fd backlog s h =
    steps LeavesScene (open_socket fd (local_of s)) _
    (λ socket e. steps LeavesScene (tcp_number socket.number) _
    (λ k e. knows Left LeavesScene (listens_tcp k (cast_signed w32 backlog) s.sockets) _ (listens_tcp_fits k (cast_signed w32 backlog) s.sockets h.3)
    (λ b left. (h.0, h.1, h.2, left))))

pub accept_keeps : (a : AcceptPlan) (s : Scene) → SceneFits s → R (accepts a s)
accept_keeps a s h =
    knows Left LeavesScene (accepts_tcp a.listener s.sockets) _ (accepts_tcp_fits a.listener s.sockets h.3)
    (λ b left. (answered_in a.new.place b.0.peer s.task.memory h.0, h.1, h.2, left))

connecting_tcp : (hosts : List Ip) (now : Time) (nonblocking : Bool) (k at size : ℕ) (s : Scene) → SceneFits s → R (connect_tcp hosts now nonblocking k at size s)
connecting_tcp hosts now nonblocking k at size s h =
    knows FitsAddr LeavesScene (address at size s.task.memory) _ (address_fits at size s.task.memory h.0)
    (λ to fits. knows LeftBoth LeavesScene (connects_taking hosts now k to s.sockets s.shared.outlet) _ (connects_taking_fits hosts now k to s.sockets s.shared.outlet fits (h.3, h.2))
    (λ b left. with_both s b.1 h left))

connecting_again : (now : Time) (k : ℕ) (s : Scene) → SceneFits s → R (connect_again now k s)
connecting_again now k s h =
    knows LeftBoth LeavesScene (connect_answers now k s.sockets s.shared.outlet) _ (connect_answers_fit now k s.sockets s.shared.outlet (h.3, h.2))
    (λ b left. with_both s b.1 h left)

connecting_udp : (hosts : List Ip) (k at size : ℕ) (s : Scene) → SceneFits s → R (connect_udp hosts k at size s)
connecting_udp hosts k at size s h =
    knows FitsAddr LeavesScene (address at size s.task.memory) _ (address_fits at size s.task.memory h.0)
    (λ to fits. knows Left LeavesScene (connects_udp hosts k to s.sockets) _ (after_udp (connects_udp hosts k to s.sockets) (connects_udp_fits hosts k to s.sockets fits h.3))
    (λ b left. (h.0, h.1, h.2, left)))

connecting : (hosts : List Ip) (now : Time) (nonblocking : Bool) (socket : SocketNumber) (at size : ℕ) (s : Scene) → SceneFits s → R (connect_call hosts now nonblocking socket at size s)
connecting hosts now nonblocking (number.Udp k) at size s h = connecting_udp hosts k at size s h
connecting hosts now nonblocking (number.Tcp k) at size s h =
    by_test R (is_some s.task.kept) _ _ (λ e. connecting_again now k s h) (λ e. connecting_tcp hosts now nonblocking k at size s h)

pub connect_keeps : (hosts : List Ip) (now : Time) (c : ConnectPlan) (s : Scene) → SceneFits s → R (connects hosts now c s)
connect_keeps hosts now c s h = connecting hosts now c.socket.nonblocking c.socket.number c.at c.size s h

pub getsockname_keeps : (fd at size_at : ℕ) (s : Scene) → SceneFits s → R (getsockname fd at size_at s)
getsockname_keeps fd at size_at s h =
    steps LeavesScene (open_socket fd (local_of s)) _
    (λ socket e. steps LeavesScene (name_of socket.number s.sockets) _
    (λ name e. steps LeavesScene (result_address at size_at s.task.memory) _
    (λ place e. (answered_in place name s.task.memory h.0, h.1, h.2, h.3))))

pub getpeername_keeps : (fd at size_at : ℕ) (s : Scene) → SceneFits s → R (getpeername fd at size_at s)
getpeername_keeps fd at size_at s h =
    steps LeavesScene (open_socket fd (local_of s)) _
    (λ socket e. steps LeavesScene (peer_of socket.number s.sockets) _
    (λ peer e. steps LeavesScene (result_address at size_at s.task.memory) _
    (λ place e. (answered_in place peer s.task.memory h.0, h.1, h.2, h.3))))

sending_udp : (hosts : List Ip) (k : ℕ) (message : Message) (s : Scene) → SceneFits s → R (send_udp hosts k message s)
sending_udp hosts k message s h =
    tries LeavesScene (udp_fits k message.n _ s.sockets) _
    (spans LeavesScene (counted message.n) message.at s.task.memory _ _ h.0
    (λ bytes are. knows MayFit LeavesScene (given_address message.to_at message.size s.task.memory) _ (given_address_fits message.to_at message.size s.task.memory h.0)
    (λ to fits. knows (AnswerFits IsWhole) LeavesScene (sends_udp hosts k bytes to s.sockets) _ (sends_udp_fits hosts k bytes to s.sockets are fits h.3)
    (λ b sent. (h.0, h.1, sends_fit (b.0 ∷ []) s.shared.outlet (sent.0, tt) h.2, sent.1)))))

sending_tcp : (hosts : List Ip) (now : Time) (d : StreamSend) (s : Scene) → SceneFits s → R (send_tcp hosts now d s)
sending_tcp hosts now d s h =
    spans LeavesScene (counted d.n) d.at s.task.memory _ _ h.0
    (λ bytes are. knows LeftBoth LeavesScene (sends_taking hosts now d.place bytes d.to d.quiet s.sockets s.shared.outlet) _ (sends_taking_fits hosts now d.place bytes d.to d.quiet s.sockets s.shared.outlet are (h.3, h.2))
    (λ b left. with_both s b.1 h left))

pub send_keeps : (hosts : List Ip) (now : Time) (m : SendPlan) (s : Scene) → SceneFits s → R (sends_by hosts now m s)
send_keeps hosts now (sending.Datagram d) s h = sending_udp hosts d.place d.message s h
send_keeps hosts now (sending.Stream d) s h = sending_tcp hosts now d s h

receiving_udp : (k at n : ℕ) (place : Option AddressPlace) (s : Scene) → SceneFits s → R (recv_udp k at n place s)
receiving_udp k at n place s h =
    knows (AnswerFits DatagramFits) LeavesScene (receives_udp k (counted n) s.sockets) _ (receives_udp_fits k (counted n) s.sockets h.3)
    (λ b got. (answered_in place b.0.from (filled at b.0.bytes s.task.memory) (filled_in at b.0.bytes s.task.memory got.0 h.0), h.1, h.2, got.1))

peer_in_memory : (place : Option AddressPlace) (peer : Result Addr Refusal) (memory : Memory) → HasBytes memory → HasBytes (with_peer place peer memory)
peer_in_memory place (Ok peer) memory h = answered_in place peer memory h
peer_in_memory place (Err why) memory h = h

received : (s : Scene) (k at : ℕ) (place : Option AddressPlace) (b : Reply (List ℕ) × (SocketsRecord × Wanted)) → SceneFits s → ReadBytes b
    → SceneFits (with_wanted b.1 (with_memory (with_received k at place b.0 b.1.0 s.task.memory) s))
received s k at place (Done bytes, (t, w)) h got =
    (peer_in_memory place (tcp_peer k t) (filled at bytes s.task.memory) (filled_in at bytes s.task.memory got.0 h.0), h.1, got.1.1, got.1.0)
received s k at place (Failed errno, (t, w)) h got = (h.0, h.1, got.1, got.0)

receiving_tcp : (now : Time) (k at n : ℕ) (place : Option AddressPlace) (s : Scene) → SceneFits s → R (recv_tcp now k at n place s)
receiving_tcp now k at n place s h =
    knows ReadBytes LeavesScene (receives_taking now k (counted n) s.sockets s.shared.outlet) _ (receives_taking_fits now k (counted n) s.sockets s.shared.outlet (h.3, h.2))
    (λ b got. received s k at place b h got)

receiving : (now : Time) (socket : SocketNumber) (at n : ℕ) (place : Option AddressPlace) (s : Scene) → SceneFits s → R (recv_by now socket at n place s)
receiving now (number.Udp k) at n place s h = receiving_udp k at n place s h
receiving now (number.Tcp k) at n place s h = receiving_tcp now k at n place s h

pub recv_keeps : (now : Time) (r : RecvPlan) (s : Scene) → SceneFits s → R (receives now r s)
recv_keeps now r s h = receiving now r.number r.at r.n r.from s h

option_in : (at size_at value : ℕ) (memory : Memory) → HasBytes memory → HasBytes (with_option at size_at value memory)
option_in at size_at value memory h =
    filled_in size_at (to_le_bytes w32 int_size) (filled at (to_le_bytes w32 value) memory) (le_are w32 int_size) (filled_in at (to_le_bytes w32 value) memory (le_are w32 value) h)

telling_error : (now : Time) (socket : SocketNumber) (at size_at : ℕ) (s : Scene) → SceneFits s → R (told_error now socket at size_at s)
telling_error now (number.Udp k) at size_at s h = (option_in at size_at 0 s.task.memory h.0, h.1, h.2, h.3)
telling_error now (number.Tcp k) at size_at s h =
    knows LeftBoth LeavesScene (takes_error now k s.sockets s.shared.outlet) _ (takes_error_fits now k s.sockets s.shared.outlet (h.3, h.2))
    (λ b left. (option_in at size_at (number_of b.0) s.task.memory h.0, h.1, left.1, left.0))

telling : (now : Time) (asked : Asked) (at size_at : ℕ) (s : Scene) → SceneFits s → R (told_option now asked at size_at s)
telling now asked at size_at s h =
    by_test R asked.error _ _
    (λ e. telling_error now asked.number at size_at s h)
    (λ e. (option_in at size_at (type_of asked.number) s.task.memory h.0, h.1, h.2, h.3))

pub getsockopt_keeps : (now : Time) (fd level option at size_at : ℕ) (s : Scene) → SceneFits s → R (getsockopt now fd level option at size_at s)
getsockopt_keeps now fd level option at size_at s h =
    steps LeavesScene (getsockopt_asked fd level option at size_at (local_of s)) _ (λ asked e. telling now asked at size_at s h)

shutting : (now : Time) (how : Shut) (socket : SocketNumber) (s : Scene) → SceneFits s → R (shuts now how socket s)
shutting now how (number.Udp k) s h = tt
shutting now how (number.Tcp k) s h =
    knows LeftBoth LeavesScene (shuts_tcp now k how s.sockets s.shared.outlet) _ (shuts_tcp_fits now k how s.sockets s.shared.outlet (h.3, h.2))
    (λ b left. with_both s b.1 h left)

pub shutdown_keeps : (now : Time) (fd how : ℕ) (s : Scene) → SceneFits s → R (shutdown now fd how s)
shutdown_keeps now fd how s h =
    steps LeavesScene (open_socket fd (local_of s)) _
    (λ socket e. steps LeavesScene (shut_of how) _ (λ direction e. shutting now direction socket.number s h))
