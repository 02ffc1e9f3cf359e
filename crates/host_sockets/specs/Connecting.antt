-- connect(2) on TCP sockets (RFC 9293, section 3.10.1)
use Rattle.std.specs.Prelude.{ℕ, ◌==◌, ◌%◌, ◌^◌, not, ◌&&◌, List, Option, Some, None, is_some, if◌then◌else◌, Result, Ok, Err}
use Rattle.sim_base.specs.declared.address.Ip.{Ip}
use Rattle.sim_base.specs.declared.address.Addr.{Addr}
use Rattle.sim_base.specs.declared.errno.Errno.{Errno}
use Rattle.sim_base.specs.declared.errno.Errno.TheVariants.{Ealready, Eisconn, Eopnotsupp, Enetunreach, Einval, Eaddrnotavail, Enotconn}
use Rattle.sim_base.specs.declared.time.Time.{Time}
use Rattle.sim_base.specs.Addresses.{loopback, is_same_ip, is_reachable, stays_inside, source_ip, at_port}
use Rattle.sim_base.specs.Refusals.{◌>>=◌, ◌>>◌, refuse_if}
use Rattle.sock_tcp.specs.segment.State.{is_syn_sent}
use Rattle.sock_tcp.specs.connection.Begin.{begin}
use Rattle.sock_tcp.specs.connection.Tcb.{Tcb, changed}
use Rattle.sock_tcp.specs.connection.Process.{opened, error_taken}
use Rattle.host_wants.specs.declared.error.Refusal.{Refusal}
use Rattle.host_wants.specs.declared.error.Refusal.TheVariants as refusal
use Rattle.host_sockets.specs.declared.reply.Reply.{Reply}
use Rattle.host_sockets.specs.declared.reply.Reply.TheVariants.{Done, Failed}
use Rattle.host_wants.specs.Refusals.{stop_kept, waits_if}
use Rattle.host_wants.specs.Wanted.{Wanted, draws_word}
use Rattle.host_sockets.specs.TcpSocket.{TcpSocket}
use Rattle.host_sockets.specs.Sockets.{SocketsRecord, tcp_at, has_pair}
use Rattle.host_sockets.specs.TcpActs.{Acted, turned, record_acts, acts_at}
use Rattle.host_sockets.specs.Binding.{bound_to_use}

-- the error of a connect that failed, until it is taken
abbrev pub connect_error : Tcb → Option Errno
connect_error r = if r.control.was_established then None else r.control.error

-- a socket that has a record is not connected again
abbrev pub refuse_connected : Option Tcb → Result (Unit {0}) Refusal
refuse_connected None = Ok tt
refuse_connected (Some r) = do
  refuse_if (is_syn_sent r.control.state) (refusal.Errno Ealready)
  stop_kept (connect_error r)
  Err (refusal.Errno Eisconn)

-- where a socket may connect or send to
abbrev pub reach_from : List Ip → Ip → Option Addr → Result (Unit {0}) Refusal
reach_from hosts to bound = do
  refuse_if (not (is_reachable hosts to)) (refusal.Errno Enetunreach)
  refuse_if (stays_inside bound && not (is_same_ip to loopback)) (refusal.Errno Einval)

abbrev pub reach : List Ip → Addr → TcpSocket → Result (Unit {0}) Refusal
reach hosts to s = reach_from hosts to.ip s.bound

-- the own end of a record to an end: the source address to it, and the port that the socket is bound to, or else the least
-- free one
abbrev pub source_end : Ip → Addr → Addr → Addr
source_end own bound to = at_port (source_ip own bound.ip to.ip) bound.port

-- what is tried before ports are looked at
abbrev pub connect_begins : List Ip → Addr → TcpSocket → Result (Unit {0}) Refusal
connect_begins hosts to s = do
  refuse_connected s.tcb
  refuse_if (is_some s.listen) (refusal.Errno Eopnotsupp)
  reach hosts to s
  refuse_if (to.port == 0) (refusal.Errno Eaddrnotavail)

abbrev pub connect_begun : List Ip → ℕ → Addr → SocketsRecord → Result (Unit {0}) Refusal
connect_begun hosts k to t = do
  s ← tcp_at k t
  connect_begins hosts to s

abbrev pub connect_asked : List Ip → ℕ → Addr → SocketsRecord → Result Addr Refusal
connect_asked hosts k to t = do
  connect_begun hosts k to t
  bound ← bound_to_use k t
  refuse_if (has_pair (source_end t.own bound to) to t) (refusal.Errno Eaddrnotavail)
  Ok (source_end t.own bound to)

-- the first number of the record is that of a word
abbrev pub opens_by : Time → ℕ → Addr → Addr → TcpSocket → ℕ × Wanted → Acted
opens_by now k own other s drawn = turned now k (opened own other (drawn.0 % 2 ^ 32)) s drawn.1

abbrev pub opens : Time → ℕ → Addr → Addr → TcpSocket → Wanted → Acted
opens now k own other s w = opens_by now k own other s (draws_word w)

-- connect(2): the SYN is sent
unfoldable pub connects : List Ip → Time → ℕ → Addr → SocketsRecord → Wanted → Result (Unit {0} × (SocketsRecord × Wanted)) Refusal
connects hosts now k to t w = do
  own ← connect_asked hosts k to t
  Ok (tt, acts_at k (opens now k own to) t w)

-- a kept error is taken by the call that answers it
abbrev pub error_takes : Time → ℕ → TcpSocket → Wanted → Acted
error_takes now k s w = record_acts now k (λ r. changed error_taken (begin r)) s w

abbrev pub taking : {A : Type 0} → Time → ℕ → Result (A × (SocketsRecord × Wanted)) Refusal → SocketsRecord → Wanted → Result (Reply A × (SocketsRecord × Wanted)) Refusal
taking now k (Ok (a, after)) t w = Ok (Done a, after)
taking now k (Err (refusal.Kept errno)) t w = Ok (Failed errno, acts_at k (error_takes now k) t w)
taking now k (Err (refusal.Errno errno)) t w = Err (refusal.Errno errno)
taking now k (Err (refusal.Wait until)) t w = Err (refusal.Wait until)
taking now k (Err (refusal.End state)) t w = Err (refusal.End state)

-- connect(2) called again that waited: it answers once the record was ESTABLISHED, also where it has ended since, or ended
abbrev pub connect_ends : Option Tcb → Result (Unit {0}) Refusal
connect_ends None = Err (refusal.Errno Enotconn)
connect_ends (Some r) = do
  waits_if (is_syn_sent r.control.state)
  stop_kept (connect_error r)

abbrev pub connect_waited : ℕ → SocketsRecord → Result (Unit {0}) Refusal
connect_waited k t = do
  s ← tcp_at k t
  connect_ends s.tcb

abbrev pub without_change : {A : Type 0} → SocketsRecord → Wanted → Result A Refusal → Result (A × (SocketsRecord × Wanted)) Refusal
without_change t w (Ok a) = Ok (a, (t, w))
without_change t w (Err r) = Err r

-- both with the error that they take
unfoldable pub connects_taking : List Ip → Time → ℕ → Addr → SocketsRecord → Wanted → Result (Reply (Unit {0}) × (SocketsRecord × Wanted)) Refusal
connects_taking hosts now k to t w = taking now k (connects hosts now k to t w) t w

unfoldable pub connect_answers : Time → ℕ → SocketsRecord → Wanted → Result (Reply (Unit {0}) × (SocketsRecord × Wanted)) Refusal
connect_answers now k t w = taking now k (without_change t w (connect_waited k t)) t w
