-- What pipes, timers and eventfds are ready for, by the bits of poll(2), and how often they became so.
use Rattle.std.specs.Prelude.{ℕ, Option, Some, None, nat_lt}
use Rattle.sim_base.specs.declared.time.Time.{Time}
use Rattle.sim_base.specs.Poll.{pollin}
use Rattle.host_fds.specs.Pipe.{PipeState}
use Rattle.host_fds.specs.Pipe as pipe
use Rattle.host_fds.specs.Eventfd as eventfd
use Rattle.host_fds.specs.Rises.{no_rises}
use Rattle.host_fds.specs.declared.eventfd.Eventfd.{Eventfd}
use Rattle.host_fds.specs.declared.pipe.End.{End}
use Rattle.host_fds.specs.declared.rises.Rises.{Rises}
use Rattle.host_files.specs.declared.timer.KeptTimer.{KeptTimer}
use Rattle.host_files.specs.Files.{FilesState, timer_count, timer_rises}
use Rattle.sock_tcp.specs.connection.Ready.{bit_if}

abbrev pub pipe_ready : Option PipeState → End → ℕ
pipe_ready None end = 0
pipe_ready (Some p) end = pipe.ready p end

abbrev pub timer_ready : Time → ℕ → FilesState → ℕ
timer_ready now k files = bit_if (nat_lt 0 (timer_count now.nanos k files)) pollin

abbrev pub eventfd_ready : Option Eventfd → ℕ
eventfd_ready None = 0
eventfd_ready (Some e) = eventfd.ready e

-- how often each of them came to hold
abbrev pub pipe_rises : Option PipeState → End → Rises
pipe_rises None end = no_rises
pipe_rises (Some p) end = pipe.rises p end

abbrev pub rises_of_timer : Time → Option KeptTimer → Rises
rises_of_timer now None = no_rises
rises_of_timer now (Some t) = timer_rises now.nanos t

abbrev pub eventfd_rises : Option Eventfd → Rises
eventfd_rises None = no_rises
eventfd_rises (Some e) = e.rises
