-- What calls on sockets ask of descriptors and memory, before any socket is looked at.
use Rattle.std.specs.Prelude.{ℕ, ◌==◌, ◌&&◌, ◌||◌, Bool, true, false, not, min, List, Option, Some, None, Result, Ok, Err, nat_lt, if◌then◌else◌}
use Rattle.std.specs.Int.{w32, to_le_bytes}
use Rattle.sim_base.specs.declared.address.Addr.{Addr}
use Rattle.sim_base.specs.declared.errno.Errno as errno_type
use Rattle.sim_base.specs.declared.errno.Errno.TheVariants.{Eafnosupport, Efault, Einval, Emfile, Enoprotoopt, Enotsock, Eopnotsupp, Eprotonosupport}
use Rattle.sim_base.specs.Errno.{errno_number}
use Rattle.sim_base.specs.Refusals.{◌>>=◌, ◌>>◌, refuse_if, or_refuse}
use Rattle.guest_mem.specs.Memory.{Memory}
use Rattle.guest_args.specs.declared.address.AddressPlace.{AddressPlace}
use Rattle.guest_args.specs.Span.{counted, span, can_read, can_write, filled, int_size}
use Rattle.guest_args.specs.Address.{address_size, address_span, inet, family_of, sockaddr_of, word, wanted_place}
use Rattle.host_files.specs.declared.file.Object.{Object}
use Rattle.host_files.specs.declared.file.Object.TheVariants as kind
use Rattle.host_wants.specs.declared.error.Refusal.{Refusal}
use Rattle.host_wants.specs.declared.error.Refusal.TheVariants.{Errno}
use Rattle.call_parts.specs.declared.sockets.SocketNumber.{SocketNumber}
use Rattle.call_parts.specs.declared.sockets.SocketNumber.TheVariants as number
use Rattle.call_parts.specs.declared.sockets.OpenSocket.{OpenSocket}
use Rattle.call_parts.specs.declared.making.NewSocket.{NewSocket}
use Rattle.call_parts.specs.declared.messages.Room.{Room}
use Rattle.call_parts.specs.declared.options.Asked.{Asked}
use Rattle.file_calls.specs.declared.task.Task.{Task}
use Rattle.file_calls.specs.Flags.{msg_dontwait, has, beside_open, beside_message}
use Rattle.file_calls.specs.Numbers.{sock_stream, sock_dgram, ipproto_tcp, ipproto_udp, sol_socket, so_reuseaddr, so_type, so_error, so_keepalive, tcp_nodelay}
use Rattle.file_calls.specs.Scene.{Local}
use Rattle.file_calls.specs.Descriptors.{lowest_free, descriptor}

-- the socket that a descriptor names
abbrev pub socket_number : Object → Result SocketNumber Refusal
socket_number (kind.Udp k) = Ok (number.Udp k)
socket_number (kind.Tcp k) = Ok (number.Tcp k)
socket_number _ = Err (Errno Enotsock)

abbrev pub open_socket : ℕ → Local → Result OpenSocket Refusal
open_socket fd (task, shared) = do
  d ← descriptor fd task shared.files
  socket ← socket_number d.file.object
  Ok (record { nonblocking = d.file.nonblocking; number = socket })

-- where only TCP will do
abbrev pub tcp_number : SocketNumber → Result ℕ Refusal
tcp_number (number.Udp k) = Err (Errno Eopnotsupp)
tcp_number (number.Tcp k) = Ok k

-- an address that is handed in: its span, its length, and then its family
abbrev pub address_bytes : ℕ → ℕ → Memory → Result (List ℕ) Refusal
address_bytes at size memory = do
  refuse_if (not (can_read (address_span size) at memory)) (Errno Efault)
  refuse_if (nat_lt size address_size) (Errno Einval)
  or_refuse (span address_size at memory) (Errno Efault)

abbrev pub inet_address : List ℕ → Result Addr Refusal
inet_address bytes = do
  refuse_if (not (family_of bytes == inet)) (Errno Eafnosupport)
  Ok (sockaddr_of bytes)

abbrev pub address : ℕ → ℕ → Memory → Result Addr Refusal
address at size memory = do
  bytes ← address_bytes at size memory
  inet_address bytes

-- a null pointer means that none is given
abbrev pub given_address : ℕ → ℕ → Memory → Result (Option Addr) Refusal
given_address at size memory = if at == 0 then Ok None else do
  to ← address at size memory
  Ok (Some to)

-- where an address goes that a call answers
abbrev pub result_address : ℕ → ℕ → Memory → Result (Option AddressPlace) Refusal
result_address at size_at memory = or_refuse (wanted_place at size_at memory) (Errno Efault)

-- socket(2): AF_INET; SOCK_STREAM and SOCK_DGRAM, with IPPROTO_TCP and IPPROTO_UDP
abbrev pub is_stream : ℕ → Result Bool Refusal
is_stream type = if type == sock_stream then Ok true else if type == sock_dgram then Ok false else Err (Errno Einval)

abbrev pub protocol_of : Bool → ℕ
protocol_of stream = if stream then ipproto_tcp else ipproto_udp

abbrev pub socket_asked : ℕ → ℕ → ℕ → Task → Result NewSocket Refusal
socket_asked family type protocol task = do
  refuse_if (not (family == inet)) (Errno Eafnosupport)
  stream ← is_stream (beside_open type)
  refuse_if (not (protocol == 0 || protocol == protocol_of stream)) (Errno Eprotonosupport)
  fd ← or_refuse (lowest_free task.table) (Errno Emfile)
  Ok (record { stream = stream; fd = fd })

-- send(2): MSG_DONTWAIT and MSG_NOSIGNAL alone may be given
abbrev pub refuse_flags : ℕ → Result (Unit {0}) Refusal
refuse_flags flags = refuse_if (not (beside_message flags == 0)) (Errno Einval)

abbrev pub is_quick : Bool → ℕ → Bool
is_quick nonblocking flags = nonblocking || has msg_dontwait flags

-- recv(2): the bytes go to the guest, and so does the sender's address where it is wanted
abbrev pub recv_place : Room → Memory → Result (Option AddressPlace) Refusal
recv_place room memory = do
  refuse_if (not (can_write (counted room.n) room.at memory)) (Errno Efault)
  result_address room.from_at room.size_at memory

-- setsockopt(2): SO_REUSEADDR, SO_KEEPALIVE and TCP_NODELAY may be set, and have no effect
abbrev pub may_set : ℕ → ℕ → Bool
may_set level option = (level == sol_socket && (option == so_reuseaddr || option == so_keepalive)) || (level == ipproto_tcp && option == tcp_nodelay)

abbrev pub setsockopt_asked : ℕ → ℕ → ℕ → ℕ → ℕ → Local → Result (Unit {0}) Refusal
setsockopt_asked fd level option at n (task, shared) = do
  socket ← open_socket fd (task, shared)
  refuse_if (not (may_set level option)) (Errno Enoprotoopt)
  refuse_if (nat_lt n int_size) (Errno Einval)
  refuse_if (not (can_read (counted n) at task.memory)) (Errno Efault)

abbrev pub setsockopt : ℕ → ℕ → ℕ → ℕ → ℕ → Local → Result (ℕ × Local) Refusal
setsockopt fd level option at n s = do
  setsockopt_asked fd level option at n s
  Ok (0, s)

-- getsockopt(2): SO_TYPE and SO_ERROR, each an int
abbrev pub is_error : ℕ → ℕ → Result Bool Refusal
is_error level option =
    if level == sol_socket && option == so_error then Ok true else if level == sol_socket && option == so_type then Ok false else Err (Errno Enoprotoopt)

abbrev pub word_at : ℕ → Memory → Result ℕ Refusal
word_at at memory = or_refuse (word at memory) (Errno Efault)

abbrev pub option_place : ℕ → ℕ → Memory → Result (Unit {0}) Refusal
option_place at size_at memory = do
  size ← word_at size_at memory
  refuse_if (not (can_write int_size size_at memory)) (Errno Efault)
  refuse_if (not (can_write (min size int_size) at memory)) (Errno Efault)
  refuse_if (nat_lt size int_size) (Errno Einval)

abbrev pub getsockopt_asked : ℕ → ℕ → ℕ → ℕ → ℕ → Local → Result Asked Refusal
getsockopt_asked fd level option at size_at (task, shared) = do
  socket ← open_socket fd (task, shared)
  error ← is_error level option
  option_place at size_at task.memory
  Ok (record { number = socket.number; error = error })

abbrev pub with_option : ℕ → ℕ → ℕ → Memory → Memory
with_option at size_at value memory = filled size_at (to_le_bytes w32 int_size) (filled at (to_le_bytes w32 value) memory)

abbrev pub type_of : SocketNumber → ℕ
type_of (number.Udp k) = sock_dgram
type_of (number.Tcp k) = sock_stream

abbrev pub number_of : Option errno_type.Errno → ℕ
number_of None = 0
number_of (Some errno) = errno_number errno
