-- socket(2), bind(2), listen(2), accept(2), connect(2), getsockname(2), getpeername(2), send(2), recv(2), setsockopt(2),
-- getsockopt(2) and shutdown(2).
use Rattle.std.specs.Prelude.{ℕ, ◌==◌, Bool, false, not, List, [], ◌∷◌, length, Option, is_some, Result, Ok, Err, if◌then◌else◌}
use Rattle.std.specs.Int.{w32, cast_signed}
use Rattle.sim_base.specs.declared.address.Ip.{Ip}
use Rattle.sim_base.specs.declared.address.Addr.{Addr}
use Rattle.sim_base.specs.declared.packet.Packet.{Packet}
use Rattle.sim_base.specs.declared.errno.Errno.TheVariants.{Efault, Einprogress, Einval, Emfile, Enotconn}
use Rattle.sim_base.specs.declared.time.Time.{Time}
use Rattle.sim_base.specs.Refusals.{◌>>=◌, ◌>>◌, refuse_if, or_refuse}
use Rattle.guest_mem.specs.Memory.{Memory}
use Rattle.guest_args.specs.declared.address.AddressPlace.{AddressPlace}
use Rattle.guest_args.specs.Span.{counted, span, can_read, filled}
use Rattle.guest_args.specs.Address.{answered}
use Rattle.sock_tcp.specs.declared.connection.effects.Shut.{Shut}
use Rattle.sock_tcp.specs.declared.connection.effects.Shut.TheVariants.{Reading, Writing, Both}
use Rattle.host_files.specs.declared.file.File.{File}
use Rattle.host_files.specs.declared.file.Object.{Object}
use Rattle.host_files.specs.declared.file.Object.TheVariants as kind
use Rattle.host_wants.specs.declared.error.Refusal.{Refusal}
use Rattle.host_wants.specs.declared.error.Refusal.TheVariants.{Errno}
use Rattle.host_sockets.specs.declared.reply.Reply.{Reply}
use Rattle.host_sockets.specs.declared.reply.Reply.TheVariants.{Done, Failed}
use Rattle.host_sockets.specs.declared.reply.Accepted.{Accepted}
use Rattle.host_wants.specs.Wanted.{sends}
use Rattle.host_sockets.specs.Sockets.{SocketsRecord, new_tcp}
use Rattle.host_sockets.specs.Udp.{new_udp, udp_bound, binds_udp, connects_udp, udp_fits, sends_udp, receives_udp, recv_udp_asked}
use Rattle.host_sockets.specs.Binding.{tcp_bound, binds_tcp, listens_tcp}
use Rattle.host_sockets.specs.Accepting.{accept_asked, accept_ready, accepts_tcp}
use Rattle.host_sockets.specs.Connecting.{connects_taking, connect_waited, connect_answers}
use Rattle.host_sockets.specs.Moving.{send_asked, sends_taking, recv_asked, receives_taking, shuts_tcp}
use Rattle.host_sockets.specs.Names.{tcp_name, udp_name, tcp_peer, udp_peer, takes_error}
use Rattle.call_parts.specs.declared.sockets.SocketNumber.{SocketNumber}
use Rattle.call_parts.specs.declared.sockets.SocketNumber.TheVariants as number
use Rattle.host_calls.specs.declared.accepting.AcceptPlan.{AcceptPlan}
use Rattle.host_calls.specs.declared.accepting.NewPlace.{NewPlace}
use Rattle.call_parts.specs.declared.making.NewSocket.{NewSocket}
use Rattle.host_calls.specs.declared.connecting.ConnectPlan.{ConnectPlan}
use Rattle.call_parts.specs.declared.options.Asked.{Asked}
use Rattle.host_calls.specs.declared.receiving.RecvPlan.{RecvPlan}
use Rattle.call_parts.specs.declared.messages.Room.{Room}
use Rattle.call_parts.specs.declared.messages.Message.{Message}
use Rattle.host_calls.specs.declared.sending.SendPlan.{SendPlan}
use Rattle.host_calls.specs.declared.sending.SendPlan.TheVariants as sending
use Rattle.host_calls.specs.declared.sending.StreamSend.{StreamSend}
use Rattle.call_parts.specs.declared.sockets.OpenSocket.{OpenSocket}
use Rattle.file_calls.specs.declared.task.Task.{Task}
use Rattle.host_calls.specs.declared.parts.Reaction.{Reaction}
use Rattle.host_calls.specs.declared.parts.Reaction.TheVariants.{Value, Waits}
use Rattle.file_calls.specs.Flags.{o_nonblock, msg_nosignal, has}
use Rattle.file_calls.specs.Numbers.{shut_rd, shut_wr, shut_rdwr}
use Rattle.file_calls.specs.Scene.{negative, or_again, kept_answers}
use Rattle.file_calls.specs.Descriptors.{lowest_free, opens}
use Rattle.call_parts.specs.Sockets.{open_socket, tcp_number, address_bytes, inet_address, address, given_address, result_address, socket_asked, refuse_flags, is_quick, recv_place, getsockopt_asked, with_option, type_of, number_of}
use Rattle.host_calls.specs.Parts.{Scene, local_of, with_local, with_sockets, with_wanted}

abbrev pub tell_address : Option AddressPlace → Addr → Scene → Scene
tell_address place at s = record s { task = record s.task { memory = answered place at s.task.memory } }

-- what a guest sees of a reply
abbrev pub value_of : Reply ℕ → ℕ
value_of (Done value) = value
value_of (Failed errno) = negative errno

-- socket(2)
abbrev pub socket_file : Bool → Object → File
socket_file nonblocking object = record { nonblocking = nonblocking; object = object }

abbrev pub with_tcp_file : ℕ → Bool → ℕ × SocketsRecord → Scene → Scene
with_tcp_file fd nonblocking (k, t) s = with_sockets t (with_local (opens fd (socket_file nonblocking (kind.Tcp k)) (local_of s)) s)

abbrev pub with_udp_file : ℕ → Bool → ℕ × SocketsRecord → Scene → Scene
with_udp_file fd nonblocking (k, t) s = with_sockets t (with_local (opens fd (socket_file nonblocking (kind.Udp k)) (local_of s)) s)

abbrev pub with_socket : NewSocket → Bool → Scene → Scene
with_socket new nonblocking s =
    if new.stream then with_tcp_file new.fd nonblocking (new_tcp s.sockets) s else with_udp_file new.fd nonblocking (new_udp s.sockets) s

abbrev pub socket : ℕ → ℕ → ℕ → Scene → Result (ℕ × Scene) Refusal
socket family type protocol s = do
  new ← socket_asked family type protocol s.task
  Ok (new.fd, with_socket new (has o_nonblock type) s)

-- bind(2)
abbrev pub is_bound : SocketNumber → SocketsRecord → Bool
is_bound (number.Udp k) t = udp_bound k t
is_bound (number.Tcp k) t = tcp_bound k t

abbrev pub binds : List Ip → SocketNumber → Addr → SocketsRecord → Result (Unit {0} × SocketsRecord) Refusal
binds hosts (number.Udp k) at t = binds_udp hosts k at t
binds hosts (number.Tcp k) at t = binds_tcp k at t

abbrev pub bind_asked : SocketNumber → ℕ → ℕ → Memory → SocketsRecord → Result Addr Refusal
bind_asked socket at size memory t = do
  bytes ← address_bytes at size memory
  refuse_if (is_bound socket t) (Errno Einval)
  inet_address bytes

abbrev pub bind : List Ip → ℕ → ℕ → ℕ → Scene → Result (ℕ × Scene) Refusal
bind hosts fd at size s = do
  socket ← open_socket fd (local_of s)
  to ← bind_asked socket.number at size s.task.memory s.sockets
  (done, t) ← binds hosts socket.number to s.sockets
  Ok (0, with_sockets t s)

-- listen(2): the backlog is read as signed
abbrev pub listen : ℕ → ℕ → Scene → Result (ℕ × Scene) Refusal
listen fd backlog s = do
  socket ← open_socket fd (local_of s)
  k ← tcp_number socket.number
  (done, t) ← listens_tcp k (cast_signed w32 backlog) s.sockets
  Ok (0, with_sockets t s)

-- accept(2): what refuses, and then what waits
abbrev pub accept_place : ℕ → ℕ → ℕ → Task → SocketsRecord → Result NewPlace Refusal
accept_place k at size_at task t = do
  accept_asked k t
  place ← result_address at size_at task.memory
  fd ← or_refuse (lowest_free task.table) (Errno Emfile)
  Ok (record { fd = fd; place = place })

abbrev pub accept_plan_of : OpenSocket → ℕ → ℕ → Task → SocketsRecord → Result AcceptPlan Refusal
accept_plan_of socket at size_at task t = do
  k ← tcp_number socket.number
  new ← accept_place k at size_at task t
  or_again socket.nonblocking (accept_ready k t)
  Ok (record { listener = k; new = new })

abbrev pub accept_plan : ℕ → ℕ → ℕ → Scene → Result AcceptPlan Refusal
accept_plan fd at size_at s = do
  socket ← open_socket fd (local_of s)
  accept_plan_of socket at size_at s.task s.sockets

abbrev pub accepted_by : NewPlace → Accepted → SocketsRecord → Scene → Scene
accepted_by new accepted t s = tell_address new.place accepted.peer (with_tcp_file new.fd false (accepted.socket, t) s)

abbrev pub accepts : AcceptPlan → Scene → Result (ℕ × Scene) Refusal
accepts accepting s = do
  (accepted, t) ← accepts_tcp accepting.listener s.sockets
  Ok (accepting.new.fd, accepted_by accepting.new accepted t s)

-- connect(2): a TCP socket sends its SYN, and waits or answers EINPROGRESS
abbrev pub connecting : Bool → Reply (Unit {0}) → Reaction
connecting nonblocking (Done done) = if nonblocking then Value (negative Einprogress) else Waits
connecting nonblocking (Failed errno) = Value (negative errno)

abbrev pub connect_tcp : List Ip → Time → Bool → ℕ → ℕ → ℕ → Scene → Result (Reaction × Scene) Refusal
connect_tcp hosts now nonblocking k at size s = do
  to ← address at size s.task.memory
  (reply, after) ← connects_taking hosts now k to s.sockets s.shared.outlet
  Ok (connecting nonblocking reply, with_wanted after s)

abbrev pub connect_udp : List Ip → ℕ → ℕ → ℕ → Scene → Result (Reaction × Scene) Refusal
connect_udp hosts k at size s = do
  to ← address at size s.task.memory
  (done, t) ← connects_udp hosts k to s.sockets
  Ok (Value 0, with_sockets t s)

-- one that waited is called again: it tries no refusal
abbrev pub connected : Reply (Unit {0}) → Reaction
connected (Done done) = Value 0
connected (Failed errno) = Value (negative errno)

abbrev pub connect_again : Time → ℕ → Scene → Result (Reaction × Scene) Refusal
connect_again now k s = do
  (reply, after) ← connect_answers now k s.sockets s.shared.outlet
  Ok (connected reply, with_wanted after s)

abbrev pub connect_call : List Ip → Time → Bool → SocketNumber → ℕ → ℕ → Scene → Result (Reaction × Scene) Refusal
connect_call hosts now nonblocking (number.Udp k) at size s = connect_udp hosts k at size s
connect_call hosts now nonblocking (number.Tcp k) at size s =
    if is_some s.task.kept then connect_again now k s else connect_tcp hosts now nonblocking k at size s

abbrev pub connects : List Ip → Time → ConnectPlan → Scene → Result (Reaction × Scene) Refusal
connects hosts now connecting s =
    connect_call hosts now connecting.socket.nonblocking connecting.socket.number connecting.at connecting.size s

-- one that has sent its SYN waits while its record is connecting
abbrev pub connect_ready : SocketNumber → Scene → Result (Unit {0}) Refusal
connect_ready (number.Udp k) s = Ok tt
connect_ready (number.Tcp k) s = if is_some s.task.kept then kept_answers (connect_waited k s.sockets) else Ok tt

abbrev pub connect_plan : ℕ → ℕ → ℕ → Scene → Result ConnectPlan Refusal
connect_plan fd at size s = do
  socket ← open_socket fd (local_of s)
  connect_ready socket.number s
  Ok (record { socket = socket; at = at; size = size })

-- getsockname(2), getpeername(2)
abbrev pub name_of : SocketNumber → SocketsRecord → Result Addr Refusal
name_of (number.Udp k) t = udp_name k t
name_of (number.Tcp k) t = tcp_name k t

abbrev pub peer_of : SocketNumber → SocketsRecord → Result Addr Refusal
peer_of (number.Udp k) t = udp_peer k t
peer_of (number.Tcp k) t = tcp_peer k t

abbrev pub getsockname : ℕ → ℕ → ℕ → Scene → Result (ℕ × Scene) Refusal
getsockname fd at size_at s = do
  socket ← open_socket fd (local_of s)
  name ← name_of socket.number s.sockets
  place ← result_address at size_at s.task.memory
  Ok (0, tell_address place name s)

abbrev pub getpeername : ℕ → ℕ → ℕ → Scene → Result (ℕ × Scene) Refusal
getpeername fd at size_at s = do
  socket ← open_socket fd (local_of s)
  peer ← peer_of socket.number s.sockets
  place ← result_address at size_at s.task.memory
  Ok (0, tell_address place peer s)

-- what waits: nothing but a TCP socket without room
abbrev pub send_tcp_plan : List Ip → ℕ → Bool → Bool → Message → Memory → SocketsRecord → Result SendPlan Refusal
send_tcp_plan hosts k nonblocking quiet message memory t = do
  refuse_if (not (can_read (counted message.n) message.at memory)) (Errno Efault)
  to ← given_address message.to_at message.size memory
  or_again nonblocking (kept_answers (send_asked hosts k (counted message.n) to quiet t))
  Ok (sending.Stream (record { place = k; quiet = quiet; to = to; at = message.at; n = message.n }))

abbrev pub send_plan_of : List Ip → SocketNumber → Bool → Bool → Message → Memory → SocketsRecord → Result SendPlan Refusal
send_plan_of hosts (number.Udp k) nonblocking quiet message memory t = Ok (sending.Datagram (record { place = k; message = message }))
send_plan_of hosts (number.Tcp k) nonblocking quiet message memory t = send_tcp_plan hosts k nonblocking quiet message memory t

-- also write(2), without flags and address
abbrev pub send_plan : List Ip → OpenSocket → ℕ → Message → Memory → SocketsRecord → Result SendPlan Refusal
send_plan hosts socket flags message memory t = do
  refuse_flags flags
  send_plan_of hosts socket.number (is_quick socket.nonblocking flags) (has msg_nosignal flags) message memory t

abbrev pub sendto_plan : List Ip → ℕ → ℕ → Message → Scene → Result SendPlan Refusal
sendto_plan hosts fd flags message s = do
  socket ← open_socket fd (local_of s)
  send_plan hosts socket flags message s.task.memory s.sockets

abbrev pub packet_sent : Packet → SocketsRecord → Scene → Scene
packet_sent packet t s = with_wanted (t, sends (packet ∷ []) s.shared.outlet) s

abbrev pub send_udp : List Ip → ℕ → Message → Scene → Result (ℕ × Scene) Refusal
send_udp hosts k message s = do
  udp_fits k message.n (not (message.to_at == 0)) s.sockets
  bytes ← or_refuse (span (counted message.n) message.at s.task.memory) (Errno Efault)
  to ← given_address message.to_at message.size s.task.memory
  (packet, t) ← sends_udp hosts k bytes to s.sockets
  Ok (length bytes, packet_sent packet t s)

abbrev pub send_tcp : List Ip → Time → StreamSend → Scene → Result (ℕ × Scene) Refusal
send_tcp hosts now stream s = do
  bytes ← or_refuse (span (counted stream.n) stream.at s.task.memory) (Errno Efault)
  (reply, after) ← sends_taking hosts now stream.place bytes stream.to stream.quiet s.sockets s.shared.outlet
  Ok (value_of reply, with_wanted after s)

abbrev pub sends_by : List Ip → Time → SendPlan → Scene → Result (ℕ × Scene) Refusal
sends_by hosts now (sending.Datagram datagram) s = send_udp hosts datagram.place datagram.message s
sends_by hosts now (sending.Stream stream) s = send_tcp hosts now stream s

-- recv(2)
abbrev pub with_memory : Memory → Scene → Scene
with_memory memory s = record s { task = record s.task { memory = memory } }

abbrev pub recv_ready : SocketNumber → SocketsRecord → Result (Unit {0}) Refusal
recv_ready (number.Udp k) t = recv_udp_asked k t
recv_ready (number.Tcp k) t = kept_answers (recv_asked k t)

-- also read(2), without flags and address
abbrev pub recv_plan : OpenSocket → ℕ → Room → Memory → SocketsRecord → Result RecvPlan Refusal
recv_plan socket flags room memory t = do
  refuse_flags flags
  place ← recv_place room memory
  or_again (is_quick socket.nonblocking flags) (recv_ready socket.number t)
  Ok (record { number = socket.number; at = room.at; n = room.n; from = place })

abbrev pub recvfrom_plan : ℕ → ℕ → Room → Scene → Result RecvPlan Refusal
recvfrom_plan fd flags room s = do
  socket ← open_socket fd (local_of s)
  recv_plan socket flags room s.task.memory s.sockets

abbrev pub recv_udp : ℕ → ℕ → ℕ → Option AddressPlace → Scene → Result (ℕ × Scene) Refusal
recv_udp k at n place s = do
  (datagram, t) ← receives_udp k (counted n) s.sockets
  Ok (length datagram.bytes, with_sockets t (with_memory (answered place datagram.from (filled at datagram.bytes s.task.memory)) s))

-- of a TCP socket the sender is its peer
abbrev pub with_peer : Option AddressPlace → Result Addr Refusal → Memory → Memory
with_peer place (Ok peer) memory = answered place peer memory
with_peer place (Err refusal) memory = memory

abbrev pub received_count : Reply (List ℕ) → ℕ
received_count (Done bytes) = length bytes
received_count (Failed errno) = negative errno

abbrev pub with_received : ℕ → ℕ → Option AddressPlace → Reply (List ℕ) → SocketsRecord → Memory → Memory
with_received k at place (Done bytes) t memory = with_peer place (tcp_peer k t) (filled at bytes memory)
with_received k at place (Failed errno) t memory = memory

abbrev pub recv_tcp : Time → ℕ → ℕ → ℕ → Option AddressPlace → Scene → Result (ℕ × Scene) Refusal
recv_tcp now k at n place s = do
  (reply, (t, w)) ← receives_taking now k (counted n) s.sockets s.shared.outlet
  Ok (received_count reply, with_wanted (t, w) (with_memory (with_received k at place reply t s.task.memory) s))

abbrev pub recv_by : Time → SocketNumber → ℕ → ℕ → Option AddressPlace → Scene → Result (ℕ × Scene) Refusal
recv_by now (number.Udp k) at n place s = recv_udp k at n place s
recv_by now (number.Tcp k) at n place s = recv_tcp now k at n place s

abbrev pub receives : Time → RecvPlan → Scene → Result (ℕ × Scene) Refusal
receives now r s = recv_by now r.number r.at r.n r.from s

-- getsockopt(2)
abbrev pub tell_option : ℕ → ℕ → ℕ → Scene → Scene
tell_option at size_at value s = with_memory (with_option at size_at value s.task.memory) s

-- SO_ERROR takes the kept error
abbrev pub told_error : Time → SocketNumber → ℕ → ℕ → Scene → Result (ℕ × Scene) Refusal
told_error now (number.Udp k) at size_at s = Ok (0, tell_option at size_at 0 s)
told_error now (number.Tcp k) at size_at s = do
  (error, after) ← takes_error now k s.sockets s.shared.outlet
  Ok (0, tell_option at size_at (number_of error) (with_wanted after s))

abbrev pub told_option : Time → Asked → ℕ → ℕ → Scene → Result (ℕ × Scene) Refusal
told_option now asked at size_at s =
    if asked.error then told_error now asked.number at size_at s else Ok (0, tell_option at size_at (type_of asked.number) s)

abbrev pub getsockopt : Time → ℕ → ℕ → ℕ → ℕ → ℕ → Scene → Result (ℕ × Scene) Refusal
getsockopt now fd level option at size_at s = do
  asked ← getsockopt_asked fd level option at size_at (local_of s)
  told_option now asked at size_at s

-- shutdown(2)
abbrev pub shut_of : ℕ → Result Shut Refusal
shut_of how = if how == shut_rd then Ok Reading else if how == shut_wr then Ok Writing else if how == shut_rdwr then Ok Both else Err (Errno Einval)

abbrev pub shuts : Time → Shut → SocketNumber → Scene → Result (ℕ × Scene) Refusal
shuts now how (number.Udp k) s = Err (Errno Enotconn)
shuts now how (number.Tcp k) s = do
  (done, after) ← shuts_tcp now k how s.sockets s.shared.outlet
  Ok (0, with_wanted after s)

abbrev pub shutdown : Time → ℕ → ℕ → Scene → Result (ℕ × Scene) Refusal
shutdown now fd how s = do
  socket ← open_socket fd (local_of s)
  direction ← shut_of how
  shuts now direction socket.number s
