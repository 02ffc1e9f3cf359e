-- the calls on sockets
use Rattle.std.proofs.Common.{◌≡◌, ℕ, Bool, List, [], ◌∷◌, Option, is_some, Result, Ok}
use Rattle.std.specs.Int.{w32, cast_signed}
use Rattle.sim_base.specs.Refusals.{or_refuse}
use Rattle.sim_base.specs.declared.address.Ip.{Ip}
use Rattle.sim_base.specs.declared.address.Addr.{Addr}
use Rattle.sim_base.specs.declared.packet.Packet.{Packet}
use Rattle.sim_base.specs.declared.time.Time.{Time}
use Rattle.guest_args.specs.Span.{counted, span}
use Rattle.tcp_laws.proofs.Tests.{by_test}
use Rattle.sock_tcp.specs.declared.connection.effects.Shut.{Shut}
use Rattle.host_wants.specs.declared.error.Refusal.{Refusal}
use Rattle.host_wants.specs.Wanted.{Wanted, sends}
use Rattle.host_sockets.specs.Sockets.{SocketsRecord}
use Rattle.host_sockets.specs.Udp.{udp_fits, binds_udp, connects_udp, sends_udp, receives_udp}
use Rattle.host_sockets.specs.Binding.{binds_tcp, listens_tcp}
use Rattle.host_sockets.specs.Accepting.{accepts_tcp}
use Rattle.host_sockets.specs.Connecting.{connects_taking, connect_answers}
use Rattle.host_sockets.specs.Moving.{sends_taking, receives_taking, shuts_tcp}
use Rattle.host_sockets.specs.Names.{takes_error}
use Rattle.call_parts.specs.declared.making.NewSocket.{NewSocket}
use Rattle.call_parts.specs.declared.options.Asked.{Asked}
use Rattle.host_calls.specs.declared.accepting.AcceptPlan.{AcceptPlan}
use Rattle.host_calls.specs.declared.connecting.ConnectPlan.{ConnectPlan}
use Rattle.host_calls.specs.declared.receiving.RecvPlan.{RecvPlan}
use Rattle.call_parts.specs.declared.messages.Message.{Message}
use Rattle.host_calls.specs.declared.sending.SendPlan.{SendPlan}
use Rattle.host_calls.specs.declared.sending.SendPlan.TheVariants as sending
use Rattle.host_calls.specs.declared.sending.StreamSend.{StreamSend}
use Rattle.guest_args.specs.declared.address.AddressPlace.{AddressPlace}
use Rattle.call_parts.specs.declared.sockets.SocketNumber.{SocketNumber}
use Rattle.call_parts.specs.declared.sockets.SocketNumber.TheVariants as number
use Rattle.host_calls.specs.Parts.{Scene, local_of}
use Rattle.call_parts.specs.Sockets.{open_socket, tcp_number, given_address, address, result_address, socket_asked, getsockopt_asked}
use Rattle.host_calls.specs.Sockets.{with_socket, socket, binds, bind_asked, bind, listen, connect_tcp, connect_udp, connect_again, connect_call, name_of, peer_of, getsockname, getpeername, send_udp, send_tcp, recv_udp, recv_tcp, told_error, told_option, getsockopt, shut_of, shuts, shutdown, accepts, connects, sends_by, recv_by, receives}
use Rattle.socket_laws.specs.Histories.{SocketsAct as act}
use Rattle.socket_streams.specs.May.{Moves}
use Rattle.socket_streams.proofs.Moving.{moves_none, moves_by, moves_both, moves_sending, moves_alone, moves_left}
use Rattle.call_streams.proofs.Rows.{sockets_at, RowMoves, answers, refused, asks, tries}
use Rattle.call_streams.proofs.Datagrams.{datagram_void}

module _ (hosts : List Ip) (flying : List Packet) where
  abbrev M : SocketsRecord × Wanted → SocketsRecord × Wanted → Type 0
  M x y = Moves hosts flying x y

  abbrev R : {A : Type 0} → Scene → Result (A × Scene) Refusal → Type 0
  R s row = RowMoves hosts flying (sockets_at s) row

  abbrev any_time : Time
  any_time = record { nanos = 0 }

  -- socket(2)
  made : (new : NewSocket) (nonblocking : Bool) (s : Scene) → M (sockets_at s) (sockets_at (with_socket new nonblocking s))
  made new nonblocking s =
      by_test (λ (x : Scene). M (sockets_at s) (sockets_at x)) new.stream _ _
      (λ e. moves_by hosts flying any_time act.make_tcp s.sockets s.shared.outlet tt tt)
      (λ e. moves_by hosts flying any_time act.make_udp s.sockets s.shared.outlet tt tt)

  pub socket_moves : (family type protocol : ℕ) (s : Scene) → R s (socket family type protocol s)
  socket_moves family type protocol s =
      asks hosts flying (sockets_at s) (socket_asked family type protocol s.task) _
      (λ new e. answers hosts flying (sockets_at s) _ _ (made new _ s))

  -- bind(2) and listen(2)
  bound : (socket : SocketNumber) (at : Addr) (t : SocketsRecord) (w : Wanted) (b : Unit {0} × SocketsRecord) → binds hosts socket at t ≡ Ok b → M (t, w) (b.1, w)
  bound (number.Udp k) at t w b e =
      moves_alone hosts flying (binds_udp hosts k at t) b t w e (moves_by hosts flying any_time (act.bind_udp k at) t w tt tt)
  bound (number.Tcp k) at t w b e =
      moves_alone hosts flying (binds_tcp k at t) b t w e (moves_by hosts flying any_time (act.bind_tcp k at) t w tt tt)

  pub bind_moves : (fd at size : ℕ) (s : Scene) → R s (bind hosts fd at size s)
  bind_moves fd at size s =
      asks hosts flying (sockets_at s) (open_socket fd (local_of s)) _
      (λ socket e. asks hosts flying (sockets_at s) (bind_asked socket.number at size s.task.memory s.sockets) _
      (λ to k. asks hosts flying (sockets_at s) (binds hosts socket.number to s.sockets) _
      (λ b q. answers hosts flying (sockets_at s) _ _ (bound socket.number to s.sockets s.shared.outlet b q))))

  pub listen_moves : (fd backlog : ℕ) (s : Scene) → R s (listen fd backlog s)
  listen_moves fd backlog s =
      asks hosts flying (sockets_at s) (open_socket fd (local_of s)) _
      (λ socket e. asks hosts flying (sockets_at s) (tcp_number socket.number) _
      (λ k m. asks hosts flying (sockets_at s) (listens_tcp k (cast_signed w32 backlog) s.sockets) _
      (λ b q. answers hosts flying (sockets_at s) _ _
      (moves_alone hosts flying (listens_tcp k (cast_signed w32 backlog) s.sockets) b s.sockets s.shared.outlet q
      (moves_by hosts flying any_time (act.listen_tcp k (cast_signed w32 backlog)) s.sockets s.shared.outlet tt tt)))))

  -- accept(2)
  pub accept_moves : (a : AcceptPlan) (s : Scene) → R s (accepts a s)
  accept_moves a s =
      asks hosts flying (sockets_at s) (accepts_tcp a.listener s.sockets) _
      (λ b q. answers hosts flying (sockets_at s) _ _
      (moves_alone hosts flying (accepts_tcp a.listener s.sockets) b s.sockets s.shared.outlet q
      (moves_by hosts flying any_time (act.accept_tcp a.listener) s.sockets s.shared.outlet tt tt)))

  -- connect(2)
  connecting_tcp : (now : Time) (nonblocking : Bool) (k at size : ℕ) (s : Scene) → R s (connect_tcp hosts now nonblocking k at size s)
  connecting_tcp now nonblocking k at size s =
      asks hosts flying (sockets_at s) (address at size s.task.memory) _
      (λ to e. asks hosts flying (sockets_at s) (connects_taking hosts now k to s.sockets s.shared.outlet) _
      (λ b q. answers hosts flying (sockets_at s) _ _
      (moves_left hosts flying (connects_taking hosts now k to s.sockets s.shared.outlet) b s.sockets s.shared.outlet q
      (moves_by hosts flying now (act.connect_tcp k to) s.sockets s.shared.outlet tt tt))))

  connecting_again : (now : Time) (k : ℕ) (s : Scene) → R s (connect_again now k s)
  connecting_again now k s =
      asks hosts flying (sockets_at s) (connect_answers now k s.sockets s.shared.outlet) _
      (λ b q. answers hosts flying (sockets_at s) _ _
      (moves_left hosts flying (connect_answers now k s.sockets s.shared.outlet) b s.sockets s.shared.outlet q
      (moves_by hosts flying now (act.connect_again k) s.sockets s.shared.outlet tt tt)))

  connecting_udp : (k at size : ℕ) (s : Scene) → R s (connect_udp hosts k at size s)
  connecting_udp k at size s =
      asks hosts flying (sockets_at s) (address at size s.task.memory) _
      (λ to e. asks hosts flying (sockets_at s) (connects_udp hosts k to s.sockets) _
      (λ b q. answers hosts flying (sockets_at s) _ _
      (moves_alone hosts flying (connects_udp hosts k to s.sockets) b s.sockets s.shared.outlet q
      (moves_by hosts flying any_time (act.connect_udp k to) s.sockets s.shared.outlet tt tt))))

  connecting : (now : Time) (nonblocking : Bool) (socket : SocketNumber) (at size : ℕ) (s : Scene) → R s (connect_call hosts now nonblocking socket at size s)
  connecting now nonblocking (number.Udp k) at size s = connecting_udp k at size s
  connecting now nonblocking (number.Tcp k) at size s =
      by_test (R s) (is_some s.task.kept) _ _ (λ e. connecting_again now k s) (λ e. connecting_tcp now nonblocking k at size s)

  pub connect_moves : (now : Time) (c : ConnectPlan) (s : Scene) → R s (connects hosts now c s)
  connect_moves now c s = connecting now c.socket.nonblocking c.socket.number c.at c.size s

  -- getsockname(2) and getpeername(2) tell alone
  pub getsockname_moves : (fd at size_at : ℕ) (s : Scene) → R s (getsockname fd at size_at s)
  getsockname_moves fd at size_at s =
      asks hosts flying (sockets_at s) (open_socket fd (local_of s)) _
      (λ socket e. asks hosts flying (sockets_at s) (name_of socket.number s.sockets) _
      (λ name k. asks hosts flying (sockets_at s) (result_address at size_at s.task.memory) _
      (λ place m. answers hosts flying (sockets_at s) _ _ (moves_none hosts flying (sockets_at s)))))

  pub getpeername_moves : (fd at size_at : ℕ) (s : Scene) → R s (getpeername fd at size_at s)
  getpeername_moves fd at size_at s =
      asks hosts flying (sockets_at s) (open_socket fd (local_of s)) _
      (λ socket e. asks hosts flying (sockets_at s) (peer_of socket.number s.sockets) _
      (λ peer k. asks hosts flying (sockets_at s) (result_address at size_at s.task.memory) _
      (λ place m. answers hosts flying (sockets_at s) _ _ (moves_none hosts flying (sockets_at s)))))

  -- send(2)
  sending_udp : (k : ℕ) (message : Message) (s : Scene) → R s (send_udp hosts k message s)
  sending_udp k message s =
      tries hosts flying (sockets_at s) (udp_fits k message.n _ s.sockets) _
      (asks hosts flying (sockets_at s) (or_refuse (span (counted message.n) message.at s.task.memory) _) _
      (λ bytes e. asks hosts flying (sockets_at s) (given_address message.to_at message.size s.task.memory) _
      (λ to m. asks hosts flying (sockets_at s) (sends_udp hosts k bytes to s.sockets) _
      (λ b q. answers hosts flying (sockets_at s) _ _
      (moves_both hosts flying (s.sockets, s.shared.outlet) (b.1, s.shared.outlet) (b.1, sends (b.0 ∷ []) s.shared.outlet)
      (moves_alone hosts flying (sends_udp hosts k bytes to s.sockets) b s.sockets s.shared.outlet q
      (moves_by hosts flying any_time (act.send_udp k bytes to) s.sockets s.shared.outlet tt tt))
      (moves_sending hosts flying b.1 s.shared.outlet b.0 (datagram_void hosts k bytes to s.sockets b q)
      (record { number = k; bytes = bytes; to = to; before = s.sockets; sent = q })))))))

  sending_tcp : (now : Time) (d : StreamSend) (s : Scene) → R s (send_tcp hosts now d s)
  sending_tcp now d s =
      asks hosts flying (sockets_at s) (or_refuse (span (counted d.n) d.at s.task.memory) _) _
      (λ bytes e. asks hosts flying (sockets_at s) (sends_taking hosts now d.place bytes d.to d.quiet s.sockets s.shared.outlet) _
      (λ b q. answers hosts flying (sockets_at s) _ _
      (moves_left hosts flying (sends_taking hosts now d.place bytes d.to d.quiet s.sockets s.shared.outlet) b s.sockets s.shared.outlet q
      (moves_by hosts flying now (act.send_tcp d.place bytes d.to d.quiet) s.sockets s.shared.outlet tt tt))))

  pub send_moves : (now : Time) (m : SendPlan) (s : Scene) → R s (sends_by hosts now m s)
  send_moves now (sending.Datagram d) s = sending_udp d.place d.message s
  send_moves now (sending.Stream d) s = sending_tcp now d s

  -- recv(2)
  receiving_udp : (k at n : ℕ) (place : Option AddressPlace) (s : Scene) → R s (recv_udp k at n place s)
  receiving_udp k at n place s =
      asks hosts flying (sockets_at s) (receives_udp k (counted n) s.sockets) _
      (λ b q. answers hosts flying (sockets_at s) _ _
      (moves_alone hosts flying (receives_udp k (counted n) s.sockets) b s.sockets s.shared.outlet q
      (moves_by hosts flying any_time (act.recv_udp k (counted n)) s.sockets s.shared.outlet tt tt)))

  receiving_tcp : (now : Time) (k at n : ℕ) (place : Option AddressPlace) (s : Scene) → R s (recv_tcp now k at n place s)
  receiving_tcp now k at n place s =
      asks hosts flying (sockets_at s) (receives_taking now k (counted n) s.sockets s.shared.outlet) _
      (λ b q. answers hosts flying (sockets_at s) _ _
      (moves_left hosts flying (receives_taking now k (counted n) s.sockets s.shared.outlet) b s.sockets s.shared.outlet q
      (moves_by hosts flying now (act.recv_tcp k (counted n)) s.sockets s.shared.outlet tt tt)))

  receiving : (now : Time) (socket : SocketNumber) (at n : ℕ) (place : Option AddressPlace) (s : Scene) → R s (recv_by now socket at n place s)
  receiving now (number.Udp k) at n place s = receiving_udp k at n place s
  receiving now (number.Tcp k) at n place s = receiving_tcp now k at n place s

  pub recv_moves : (now : Time) (r : RecvPlan) (s : Scene) → R s (receives now r s)
  recv_moves now r s = receiving now r.number r.at r.n r.from s

  -- getsockopt(2)
  telling_error : (now : Time) (socket : SocketNumber) (at size_at : ℕ) (s : Scene) → R s (told_error now socket at size_at s)
  telling_error now (number.Udp k) at size_at s =
      answers hosts flying (sockets_at s) _ _ (moves_none hosts flying (sockets_at s))
  telling_error now (number.Tcp k) at size_at s =
      asks hosts flying (sockets_at s) (takes_error now k s.sockets s.shared.outlet) _
      (λ b q. answers hosts flying (sockets_at s) _ _
      (moves_left hosts flying (takes_error now k s.sockets s.shared.outlet) b s.sockets s.shared.outlet q
      (moves_by hosts flying now (act.take_error k) s.sockets s.shared.outlet tt tt)))

  telling : (now : Time) (asked : Asked) (at size_at : ℕ) (s : Scene) → R s (told_option now asked at size_at s)
  telling now asked at size_at s =
      by_test (R s) asked.error _ _
      (λ e. telling_error now asked.number at size_at s)
      (λ e. answers hosts flying (sockets_at s) _ _ (moves_none hosts flying (sockets_at s)))

  pub getsockopt_moves : (now : Time) (fd level option at size_at : ℕ) (s : Scene) → R s (getsockopt now fd level option at size_at s)
  getsockopt_moves now fd level option at size_at s =
      asks hosts flying (sockets_at s) (getsockopt_asked fd level option at size_at (local_of s)) _
      (λ asked e. telling now asked at size_at s)

  -- shutdown(2)
  shutting : (now : Time) (how : Shut) (socket : SocketNumber) (s : Scene) → R s (shuts now how socket s)
  shutting now how (number.Udp k) s = refused hosts flying (sockets_at s) _
  shutting now how (number.Tcp k) s =
      asks hosts flying (sockets_at s) (shuts_tcp now k how s.sockets s.shared.outlet) _
      (λ b q. answers hosts flying (sockets_at s) _ _
      (moves_left hosts flying (shuts_tcp now k how s.sockets s.shared.outlet) b s.sockets s.shared.outlet q
      (moves_by hosts flying now (act.shut_tcp k how) s.sockets s.shared.outlet tt tt)))

  pub shutdown_moves : (now : Time) (fd how : ℕ) (s : Scene) → R s (shutdown now fd how s)
  shutdown_moves now fd how s =
      asks hosts flying (sockets_at s) (open_socket fd (local_of s)) _
      (λ socket e. asks hosts flying (sockets_at s) (shut_of how) _ (λ direction k. shutting now direction socket.number s))
