-- an alarm of a TCP socket: the timer of its record, or of one that its listener keeps. A stale serial does nothing
use Rattle.std.specs.Prelude.{ℕ, ◌==◌, List, find, Option, Some, None, if◌then◌else◌}
use Rattle.sim_base.specs.declared.time.Time.{Time}
use Rattle.sock_tcp.specs.connection.Begin.{begin}
use Rattle.sock_tcp.specs.connection.Process.{expires}
use Rattle.sock_tcp.specs.listener.Listen.{Listen, hears_timer}
use Rattle.host_sockets.specs.declared.tcp_sock.KeptTimer.{KeptTimer}
use Rattle.host_wants.specs.Wanted.{Wanted}
use Rattle.host_sockets.specs.TcpSocket.{TcpSocket}
use Rattle.host_sockets.specs.Sockets.{SocketsRecord}
use Rattle.host_sockets.specs.TcpActs.{Acted, unacted, record_acts, acts_at}
use Rattle.host_sockets.specs.ListenerActs.{dropped, heard}

-- the timer of a kept record
abbrev pub kept_timer : ℕ → List KeptTimer → Option KeptTimer
kept_timer serial timers = find (λ (timer : KeptTimer). timer.serial == serial) timers

abbrev pub kept_expires : Time → ℕ → KeptTimer → Option Listen → TcpSocket → Wanted → Acted
kept_expires now k timer None s w = unacted s w
kept_expires now k timer (Some l) s w =
    heard now k timer.own timer.other (hears_timer timer.own timer.other l) (dropped expires timer.own timer.other l) s w

abbrev pub timer_expires : Time → ℕ → Option KeptTimer → TcpSocket → Wanted → Acted
timer_expires now k None s w = unacted s w
timer_expires now k (Some timer) s w = kept_expires now k timer s.listen s w

abbrev pub socket_expires : Time → ℕ → ℕ → TcpSocket → Wanted → Acted
socket_expires now k serial s w =
    if s.serial == serial
    then record_acts now k (λ r. expires (begin r)) s w
    else timer_expires now k (kept_timer serial s.timers) s w

unfoldable pub alarm_comes : Time → ℕ → ℕ → SocketsRecord → Wanted → SocketsRecord × Wanted
alarm_comes now k serial t w = acts_at k (socket_expires now k serial) t w
