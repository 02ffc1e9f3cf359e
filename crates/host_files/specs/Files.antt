-- What the descriptors of a host's processes name.
use Rattle.std.specs.Prelude.{ℕ, ◌+◌, ◌||◌, min, List, [], take, Option, Some, None, if◌then◌else◌}
use Rattle.host_fds.specs.declared.file_id.FileId.{FileId}
use Rattle.host_fds.specs.Pipe.{PipeState, new_pipe, count_taken}
use Rattle.host_fds.specs.Pipe as pipe
use Rattle.host_fds.specs.Eventfd as eventfd
use Rattle.host_fds.specs.declared.eventfd.Eventfd.{Eventfd}
use Rattle.host_fds.specs.declared.pipe.End.{End}
use Rattle.host_fds.specs.declared.rises.Rises.{Rises}
use Rattle.host_fds.specs.Rises.{no_rises, most}
use Rattle.host_timers.specs.Timer as timer
use Rattle.host_files.specs.declared.file.File.{File}
use Rattle.host_files.specs.declared.timer.KeptTimer.{KeptTimer}
use Rattle.host_files.specs.Slots.{at, free_place, added, without, acts}

-- the open files, pipes, timers and eventfds of a host by their numbers
pub record FilesState : Type 0 where
  pub files : List (Option File)
  pub pipes : List (Option PipeState)
  pub timers : List (Option KeptTimer)
  pub eventfds : List (Option Eventfd)

abbrev pub no_files : FilesState
no_files = record { files = []; pipes = []; timers = []; eventfds = [] }

-- the open file that a descriptor names
abbrev pub file_at : FileId → FilesState → Option File
file_at id s = at id.number s.files

-- a file is opened, and gets the least free number
abbrev pub next_file : FilesState → FileId
next_file s = record { number = free_place s.files }

abbrev pub opened : File → FilesState → FilesState
opened file s = record s { files = added file s.files }

-- another file in one's place, as one whose flag is set, or of which more was read
abbrev pub replaced : FileId → File → FilesState → FilesState
replaced id file s = record s { files = acts (λ _. Some file) id.number s.files }

-- a file is closed
abbrev pub closed : FileId → FilesState → FilesState
closed id s = record s { files = without id.number s.files }

-- pipe(2): a new pipe
abbrev pub next_pipe : FilesState → ℕ
next_pipe s = free_place s.pipes

abbrev pub with_pipe : FilesState → FilesState
with_pipe s = record s { pipes = added new_pipe s.pipes }

abbrev pub pipe_at : ℕ → FilesState → Option PipeState
pipe_at place s = at place s.pipes

-- every act on a pipe goes through here
abbrev pub pipe_acts : (PipeState → Option PipeState) → ℕ → FilesState → FilesState
pipe_acts act place s = record s { pipes = acts act place s.pipes }

-- the bytes that a read of so many takes
abbrev pub gives : ℕ → Option PipeState → List ℕ
gives count None = []
gives count (Some p) = take count p.bytes

abbrev pub pipe_gives : ℕ → ℕ → FilesState → List ℕ
pipe_gives count place s = gives count (pipe_at place s)

abbrev pub after_read : ℕ → PipeState → Option PipeState
after_read count p = Some (pipe.read p count)

abbrev pub pipe_read : ℕ → ℕ → FilesState → FilesState
pipe_read count place s = pipe_acts (after_read count) place s

-- how many of some bytes a write gets in
abbrev pub gets_in : List ℕ → Option PipeState → ℕ
gets_in bytes None = 0
gets_in bytes (Some p) = count_taken p bytes

abbrev pub pipe_gets_in : List ℕ → ℕ → FilesState → ℕ
pipe_gets_in bytes place s = gets_in bytes (pipe_at place s)

abbrev pub after_write : List ℕ → PipeState → Option PipeState
after_write bytes p = Some (pipe.written p bytes)

abbrev pub pipe_written : List ℕ → ℕ → FilesState → FilesState
pipe_written bytes place s = pipe_acts (after_write bytes) place s

-- a pipe without ends is gone
abbrev pub kept : PipeState → Option PipeState
kept p = if p.has_reader || p.has_writer then Some p else None

abbrev pub after_shut : End → PipeState → Option PipeState
after_shut end p = kept (pipe.shut p end)

abbrev pub pipe_shut : End → ℕ → FilesState → FilesState
pipe_shut end place s = pipe_acts (after_shut end) place s

-- timerfd_create(2): a new timer, which is off
abbrev pub new_timer : ℕ → KeptTimer
new_timer clock = record { timer = timer.off; clock = clock; serial = 0; earlier = 0 }

abbrev pub next_timer : FilesState → ℕ
next_timer s = free_place s.timers

abbrev pub with_timer : ℕ → FilesState → FilesState
with_timer clock s = record s { timers = added (new_timer clock) s.timers }

abbrev pub timer_at : ℕ → FilesState → Option KeptTimer
timer_at place s = at place s.timers

-- every act on a timer goes through here
abbrev pub timer_acts : (KeptTimer → Option KeptTimer) → ℕ → FilesState → FilesState
timer_acts act place s = record s { timers = acts act place s.timers }

-- how often it expired so far, as it was set before and as it is set now
abbrev pub expiries : ℕ → KeptTimer → ℕ
expiries now t = min (t.earlier + timer.expired t.timer now) most

abbrev pub timer_rises : ℕ → KeptTimer → Rises
timer_rises now t = record no_rises { input = expiries now t }

-- timerfd_settime(2): from now on alarms with this serial are the timer's
abbrev pub after_set : ℕ → ℕ → ℕ → ℕ → KeptTimer → Option KeptTimer
after_set now first interval serial t = Some (record t { timer = timer.set now first interval; serial = serial; earlier = expiries now t })

abbrev pub timer_set : ℕ → ℕ → ℕ → ℕ → ℕ → FilesState → FilesState
timer_set now first interval serial place s = timer_acts (after_set now first interval serial) place s

abbrev pub after_serial : ℕ → KeptTimer → Option KeptTimer
after_serial serial t = Some (record t { serial = serial })

abbrev pub timer_serial : ℕ → ℕ → FilesState → FilesState
timer_serial serial place s = timer_acts (after_serial serial) place s

-- the expiries that no read has taken
abbrev pub count_in : ℕ → Option KeptTimer → ℕ
count_in now None = 0
count_in now (Some t) = timer.count t.timer now

abbrev pub timer_count : ℕ → ℕ → FilesState → ℕ
timer_count now place s = count_in now (timer_at place s)

abbrev pub after_count : ℕ → KeptTimer → Option KeptTimer
after_count now t = Some (record t { timer = timer.read t.timer now })

abbrev pub timer_read : ℕ → ℕ → FilesState → FilesState
timer_read now place s = timer_acts (after_count now) place s

abbrev pub timer_ended : ℕ → FilesState → FilesState
timer_ended place s = record s { timers = without place s.timers }

-- eventfd(2): a new one
abbrev pub next_eventfd : FilesState → ℕ
next_eventfd s = free_place s.eventfds

abbrev pub with_eventfd : Eventfd → FilesState → FilesState
with_eventfd e s = record s { eventfds = added e s.eventfds }

abbrev pub eventfd_at : ℕ → FilesState → Option Eventfd
eventfd_at place s = at place s.eventfds

-- every act on an eventfd goes through here
abbrev pub eventfd_acts : (Eventfd → Option Eventfd) → ℕ → FilesState → FilesState
eventfd_acts act place s = record s { eventfds = acts act place s.eventfds }

-- what a read takes
abbrev pub taken_of : Option Eventfd → ℕ
taken_of None = 0
taken_of (Some e) = eventfd.taken e

abbrev pub eventfd_taken : ℕ → FilesState → ℕ
eventfd_taken place s = taken_of (eventfd_at place s)

abbrev pub after_taken : Eventfd → Option Eventfd
after_taken e = Some (eventfd.read e)

abbrev pub eventfd_read : ℕ → FilesState → FilesState
eventfd_read place s = eventfd_acts after_taken place s

abbrev pub after_added : ℕ → Eventfd → Option Eventfd
after_added number e = Some (eventfd.written number e)

abbrev pub eventfd_written : ℕ → ℕ → FilesState → FilesState
eventfd_written number place s = eventfd_acts (after_added number) place s

abbrev pub eventfd_ended : ℕ → FilesState → FilesState
eventfd_ended place s = record s { eventfds = without place s.eventfds }
