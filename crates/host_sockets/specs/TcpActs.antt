-- what acts on records do to a socket
use Rattle.std.specs.Prelude.{ℕ, Bool, not, ◌&&◌, ◌||◌, List, [], ◌∷◌, ◌++◌, slice_get, Option, Some, None, is_none, if◌then◌else◌}
use Rattle.sim_base.specs.declared.alarm.AlarmTarget.TheVariants.{Socket}
use Rattle.sim_base.specs.declared.time.Time.{Time}
use Rattle.sock_tcp.specs.segment.State.{is_over}
use Rattle.sock_tcp.specs.connection.Tcb.{Tcb, Turn}
use Rattle.sock_tcp.specs.connection.Timer.{timer_of}
use Rattle.host_wants.specs.Wanted.{Wanted, sends, wants_alarm, due_after}
use Rattle.host_sockets.specs.TcpSocket.{TcpSocket, fresh, with_tcb}
use Rattle.host_sockets.specs.Sockets.{SocketsRecord, with_tcp}

-- what an act leaves: the socket, what is wanted, and the records that are let go
pub record Acted : Type 0 where
  pub socket : TcpSocket
  pub wanted : Wanted
  pub gone : List Tcb

abbrev pub unacted : TcpSocket → Wanted → Acted
unacted s w = record { socket = s; wanted = w; gone = [] }

-- a record that is over is let go where no descriptor names its socket any more, and where it was never ESTABLISHED, so that
-- its connect failed, and its error was taken
abbrev pub is_let_go : Tcb → TcpSocket → Bool
is_let_go r s = is_over r.control.state && (not s.held || (not r.control.was_established && is_none r.control.error))

-- the socket is fresh from then on, and is still bound to what it was bound to: where it is closed, to nothing
abbrev pub fresh_again : TcpSocket → TcpSocket
fresh_again s = record (fresh s.held) { bound = s.bound }

abbrev pub let_go : Tcb → TcpSocket → Wanted → Acted
let_go r s w =
    if is_let_go r s
    then record { socket = fresh_again s; wanted = w; gone = r ∷ [] }
    else unacted s w

-- the timer that an act started, if it did, is an alarm of the socket from then on
abbrev pub with_alarm : ℕ × Wanted → TcpSocket → TcpSocket × Wanted
with_alarm alarm s = (record s { serial = alarm.0 }, alarm.1)

abbrev pub starts : Time → ℕ → Option Time → TcpSocket → Wanted → TcpSocket × Wanted
starts now k None s w = (s, w)
starts now k (Some length) s w = with_alarm (wants_alarm (Socket k) (due_after now length) w) s

-- EVERY act on the record of a socket is this: its segments are sent, then its timer starts, and a record that is done with is
-- let go
unfoldable pub turned : Time → ℕ → Turn → TcpSocket → Wanted → Acted
turned now k t s w =
    let started = starts now k (timer_of t) (with_tcb t.tcb s) (sends t.sent w) in
    let_go t.tcb started.0 started.1

-- an act on the record of a socket, if it has one
abbrev pub turned_in : Time → ℕ → (Tcb → Turn) → Option Tcb → TcpSocket → Wanted → Acted
turned_in now k act None s w = unacted s w
turned_in now k act (Some r) s w = turned now k (act r) s w

abbrev pub record_acts : Time → ℕ → (Tcb → Turn) → TcpSocket → Wanted → Acted
record_acts now k act s w = turned_in now k act s.tcb s w

-- an act of the socket with a number, if there is one
abbrev pub with_acted : ℕ → TcpSocket → Acted → SocketsRecord → SocketsRecord × Wanted
with_acted k s a t = (record (with_tcp k s a.socket t) { gone = t.gone ++ a.gone }, a.wanted)

abbrev pub acts_in : ℕ → (TcpSocket → Wanted → Acted) → Option TcpSocket → SocketsRecord → Wanted → SocketsRecord × Wanted
acts_in k act None t w = (t, w)
acts_in k act (Some s) t w = with_acted k s (act s w) t

abbrev pub acts_at : ℕ → (TcpSocket → Wanted → Acted) → SocketsRecord → Wanted → SocketsRecord × Wanted
acts_at k act t w = acts_in k act (slice_get t.tcp k) t w
