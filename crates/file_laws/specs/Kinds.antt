-- The pipes, eventfds and timers of a host, as kinds of things.
use Rattle.std.specs.Prelude.{ℕ, Bool, Option}
use Rattle.host_fds.specs.declared.eventfd.Eventfd.{Eventfd}
use Rattle.host_fds.specs.Eventfd.{new_eventfd}
use Rattle.host_fds.specs.Pipe.{PipeState, new_pipe}
use Rattle.host_files.specs.declared.timer.KeptTimer.{KeptTimer}
use Rattle.host_files.specs.Files.{after_read, after_write, after_shut, new_timer, after_taken, after_added}
use Rattle.pipe_laws.specs.Acts.{PipeAct, Writes, Reads, LetsGo}
use Rattle.pipe_laws.specs.Eventfds.{EventfdAct, Adds, Takes}
use Rattle.file_laws.specs.Lives.{Kind}
use Rattle.file_laws.specs.Timers.{TimerAct, timer_leaves}

-- a pipe without ends is gone
abbrev pub pipe_leaves : PipeAct → PipeState → Option PipeState
pipe_leaves (Writes bytes) p = after_write bytes p
pipe_leaves (Reads n) p = after_read n p
pipe_leaves (LetsGo end) p = after_shut end p

abbrev pub pipes : Kind (Unit {0}) PipeState PipeAct
pipes = record { new = λ made. new_pipe; leaves = pipe_leaves }

-- an eventfd is made of a count, and whether it is a semaphore
abbrev pub eventfd_leaves : EventfdAct → Eventfd → Option Eventfd
eventfd_leaves (Adds number) e = after_added number e
eventfd_leaves Takes e = after_taken e

abbrev pub eventfds : Kind (ℕ × Bool) Eventfd EventfdAct
eventfds = record { new = λ made. new_eventfd made.0 made.1; leaves = eventfd_leaves }

-- a timer is made of its clock
abbrev pub timers : Kind ℕ KeptTimer TimerAct
timers = record { new = new_timer; leaves = timer_leaves }
