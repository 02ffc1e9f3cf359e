-- the timer of a record: retransmission (RFC 9293, section 3.8.1), probes of a window of 0
-- (section 3.8.6.1) and TIME-WAIT (section 3.6.1). Its lengths are this project's own profile
use Rattle.std.specs.Prelude.{◌*◌, ◌==◌, nat_lt, Bool, true, false, ◌&&◌, ◌||◌, if◌then◌else◌, Option, Some, None}
use Rattle.sim_base.specs.Units.{second}
use Rattle.sim_base.specs.declared.time.Time.{Time}
use Rattle.sock_tcp.specs.declared.segment.control.Control.{Control}
use Rattle.sock_tcp.specs.declared.segment.state.Phase.{Phase}
use Rattle.sock_tcp.specs.declared.segment.state.Phase.TheVariants.{Opening, Open, Ending, Finished, Over}
use Rattle.sock_tcp.specs.segment.State.{phase_of, is_time_wait}
use Rattle.sock_tcp.specs.segment.Control.{timer_seconds}
use Rattle.sock_tcp.specs.connection.Tcb.{Tcb, Turn, data_end, with_control, changed}

-- something sent isn't acknowledged yet
abbrev pub is_in_flight : Tcb → Bool
is_in_flight r = nat_lt r.una r.highest

-- bytes wait for the peer's window, which is 0, or the FIN behind them does
abbrev pub waits_for_window : Tcb → Bool
waits_for_window r =
    (r.control.window == 0) && (nat_lt r.una (data_end r) || r.control.fin_wanted)

abbrev pub needs_timer_in : Phase → Tcb → Bool
needs_timer_in Opening r = is_in_flight r
needs_timer_in Open r = is_in_flight r || waits_for_window r
needs_timer_in Ending r = is_in_flight r || waits_for_window r
needs_timer_in Finished r = is_time_wait r.control.state
needs_timer_in Over r = false

-- whether the timer runs
unfoldable pub needs_timer : Tcb → Bool
needs_timer r = needs_timer_in (phase_of r.control.state) r

abbrev pub timer_set : Bool → Control → Control
timer_set on c = record c { timer = on }

-- the timer is started where it is needed and doesn't run, and stopped where it isn't needed
unfoldable pub judged : Turn → Turn
judged t =
    if needs_timer t.tcb
    then (if t.tcb.control.timer
    then t
    else record (changed (with_control (timer_set true)) t) { started = true })
    else changed (with_control (timer_set false)) t

-- it starts anew at its first length
unfoldable pub restarted : Control → Control
restarted c = record c { retries = 0; timer = true }

unfoldable pub restarts : Turn → Turn
restarts t = record (changed (with_control restarted) t) { started = true }

-- the length of the timer that a call started, from now on
unfoldable pub timer_of : Turn → Option Time
timer_of t =
    if t.started && t.tcb.control.timer
    then Some (record { nanos = timer_seconds t.tcb.control * second })
    else None
