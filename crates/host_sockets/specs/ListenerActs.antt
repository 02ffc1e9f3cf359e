-- what acts on the records that a listener keeps do to its socket
use Rattle.std.specs.Prelude.{ℕ, Bool, not, ◌&&◌, List, [], ◌∷◌, ◌++◌, filter, Option, Some, None, if◌then◌else◌}
use Rattle.sim_base.specs.declared.address.Addr.{Addr}
use Rattle.sim_base.specs.declared.alarm.AlarmTarget.TheVariants.{Socket}
use Rattle.sim_base.specs.declared.time.Time.{Time}
use Rattle.sim_base.specs.Addresses.{is_same}
use Rattle.sock_tcp.specs.connection.Tcb.{Tcb}
use Rattle.sock_tcp.specs.listener.Listen.{Listen, Heard, is_kept}
pub use Rattle.sock_tcp.specs.listener.Dropped.{dropped_by, dropped}
use Rattle.host_sockets.specs.declared.tcp_sock.KeptTimer.{KeptTimer}
use Rattle.host_wants.specs.Wanted.{Wanted, sends, wants_alarm, due_after}
use Rattle.host_sockets.specs.TcpSocket.{TcpSocket}
use Rattle.host_sockets.specs.TcpActs.{Acted}

abbrev pub with_listen : Listen → TcpSocket → TcpSocket
with_listen l s = record s { listen = Some l }

abbrev pub with_timers : List KeptTimer → TcpSocket → TcpSocket
with_timers timers s = record s { timers = timers }

-- the timers of a listener's records: one a pair of ends
abbrev pub is_timer_of : Addr → Addr → KeptTimer → Bool
is_timer_of own other timer = is_same timer.own own && is_same timer.other other

abbrev pub without_timer : Addr → Addr → List KeptTimer → List KeptTimer
without_timer own other timers = filter (λ timer. not (is_timer_of own other timer)) timers

abbrev pub with_timer : Addr → Addr → ℕ → List KeptTimer → List KeptTimer
with_timer own other serial timers =
    without_timer own other timers ++ record { own = own; other = other; serial = serial } ∷ []

-- a pair of which the listener keeps no live record has no timer
abbrev pub timers_kept : Addr → Addr → Listen → List KeptTimer → List KeptTimer
timers_kept own other l timers = if is_kept own other l then timers else without_timer own other timers

-- the timer that an act on the record of two ends started, if it did, is an alarm of the socket from then on
abbrev pub timer_starts : Time → ℕ → Addr → Addr → Option Time → List KeptTimer → Wanted → List KeptTimer × Wanted
timer_starts now k own other None timers w = (timers, w)
timer_starts now k own other (Some length) timers w =
    let alarm = wants_alarm (Socket k) (due_after now length) w in
    (with_timer own other alarm.0 timers, alarm.1)

-- EVERY act on a record of two ends that a listener keeps, or makes, is this: its segments are sent, then its timer starts, and
-- a record that the listener keeps no more is let go
unfoldable pub heard : Time → ℕ → Addr → Addr → Heard → List Tcb → TcpSocket → Wanted → Acted
heard now k own other h gone s w =
    let started = timer_starts now k own other h.timer s.timers (sends h.sent w) in
    record {
      socket = with_timers (timers_kept own other h.listen started.0) (with_listen h.listen s);
      wanted = started.1;
      gone = gone;
    }
