-- a TCP socket (tcp(7)): fresh, listening, or with a record of RFC 9293
use Rattle.std.specs.Prelude.{ℕ, Bool, false, not, ◌||◌, List, [], ◌∷◌, ◌++◌, Option, Some, None, is_some, if◌then◌else◌}
use Rattle.sim_base.specs.declared.address.Addr.{Addr}
use Rattle.sim_base.specs.declared.errno.Errno.{Errno}
use Rattle.sock_tcp.specs.segment.State.{is_syn_sent}
use Rattle.sock_tcp.specs.connection.Tcb.{Tcb}
use Rattle.sock_tcp.specs.connection.Pairs.{is_pair}
use Rattle.sock_tcp.specs.listener.Listen.{Listen, is_kept, listens_at}
use Rattle.host_sockets.specs.declared.tcp_sock.KeptTimer.{KeptTimer}

-- whether a descriptor names it; what bind(2) or listen(2) bound it to; its record, also one that is over; its listener; the
-- serial of its record's last alarm, 0 where there was none; and for each record that its listener keeps that of its last alarm
pub record TcpSocket : Type 0 where
  pub held : Bool
  pub bound : Option Addr
  pub tcb : Option Tcb
  pub listen : Option Listen
  pub serial : ℕ
  pub timers : List KeptTimer

-- unbound, and with nothing else
abbrev pub fresh : Bool → TcpSocket
fresh held = record { held = held; bound = None; tcb = None; listen = None; serial = 0; timers = [] }

abbrev pub with_bound : Addr → TcpSocket → TcpSocket
with_bound at s = record s { bound = Some at }

abbrev pub with_tcb : Tcb → TcpSocket → TcpSocket
with_tcb r s = record s { tcb = Some r }

-- a place that a new socket may take: a closed socket's without a listener, whose record, if it had one, was let go
abbrev pub is_free : TcpSocket → Bool
is_free s = not (s.held || (is_some s.tcb || is_some s.listen))

-- a socket is connected while it has a record that isn't in SYN-SENT, also one that is over
abbrev pub connected : Option Tcb → Option Tcb
connected None = None
connected (Some r) = if is_syn_sent r.control.state then None else Some r

-- the error that its record ended by, until a call takes it
abbrev pub kept_error : Option Tcb → Option Errno
kept_error None = None
kept_error (Some r) = r.control.error

-- the ends that it has: what it is bound to, and the own end of its record, also of one that is over. The records that a
-- listener keeps have the port that it is bound to
abbrev pub bound_end : Option Addr → List Addr
bound_end None = []
bound_end (Some at) = at ∷ []

abbrev pub record_end : Option Tcb → List Addr
record_end None = []
record_end (Some r) = r.control.local ∷ []

abbrev pub ends_of : TcpSocket → List Addr
ends_of s = bound_end s.bound ++ record_end s.tcb

-- its record is the live one of two ends
abbrev pub has_record_in : Addr → Addr → Option Tcb → Bool
has_record_in own other None = false
has_record_in own other (Some r) = is_pair own other r.control

abbrev pub has_record : Addr → Addr → TcpSocket → Bool
has_record own other s = has_record_in own other s.tcb

-- its listener keeps the live record of two ends
abbrev pub keeps_record_in : Addr → Addr → Option Listen → Bool
keeps_record_in own other None = false
keeps_record_in own other (Some l) = is_kept own other l

abbrev pub keeps_record : Addr → Addr → TcpSocket → Bool
keeps_record own other s = keeps_record_in own other s.listen

-- it listens for connections to an end: on its port, and on 0.0.0.0 or its address
abbrev pub listens_in : Addr → Option Listen → Bool
listens_in to None = false
listens_in to (Some l) = listens_at to l.local

abbrev pub listens_to : Addr → TcpSocket → Bool
listens_to to s = listens_in to s.listen
