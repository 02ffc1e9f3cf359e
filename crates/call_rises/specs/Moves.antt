-- what happens to the pipes, eventfds and timers of a host: acts, by which one state of its files comes from another
use Rattle.std.specs.Prelude.{◌≡◌, ℕ, Bool, true, List, [], ◌∷◌, Some, is_some}
use Rattle.host_fds.specs.declared.epoll.Watch.{Watch}
use Rattle.host_files.specs.Epolls.{EpollsState}
use Rattle.host_files.specs.Files.{FilesState}
use Rattle.host_files.specs.Slots.{at}
use Rattle.file_calls.specs.declared.task.Task.{Task}
use Rattle.host_calls.specs.Parts.{PartsRecord}
use Rattle.pipe_laws.specs.Acts.{PipeAct}
use Rattle.pipe_laws.specs.Eventfds.{EventfdAct}
use Rattle.pipe_laws.specs.Watching.{Rise}
use Rattle.file_laws.specs.Kinds.{pipes, eventfds, timers}
use Rattle.file_laws.specs.Lives.{SlotAct, makes, does, ends, slots_after, Lasts}
use Rattle.file_laws.specs.Timers.{TimerAct, Sets, Rings, Counts}

-- a timer is set, and its expiries are read, at a moment
abbrev pub IsAt : ℕ → TimerAct → Type 0
IsAt now (Sets at first interval serial) = at ≡ now
IsAt now (Rings serial) = Unit {0}
IsAt now (Counts at) = at ≡ now

abbrev pub AreAt : ℕ → List (SlotAct ℕ TimerAct) → Type 0
AreAt now [] = Unit {0}
AreAt now (makes clock ∷ acts) = AreAt now acts
AreAt now (does k act ∷ acts) = IsAt now act × AreAt now acts
AreAt now (ends k ∷ acts) = AreAt now acts

-- acts at a moment lead from some files to others; and what is there before and after them is there after each of them, so that none
-- of its things ends and has another one made with its number
pub record FilesMove (now : ℕ) (x y : FilesState) : Type 0 where
  pub on_pipes : List (SlotAct (Unit {0}) PipeAct)
  pub on_eventfds : List (SlotAct (ℕ × Bool) EventfdAct)
  pub on_timers : List (SlotAct ℕ TimerAct)
  pub timely : AreAt now on_timers
  pub pipes_after : slots_after pipes on_pipes x.pipes ≡ y.pipes
  pub eventfds_after : slots_after eventfds on_eventfds x.eventfds ≡ y.eventfds
  pub timers_after : slots_after timers on_timers x.timers ≡ y.timers
  pub pipes_last : (k : ℕ) → is_some (at k x.pipes) ≡ true → is_some (at k y.pipes) ≡ true → Lasts pipes k on_pipes x.pipes
  pub eventfds_last : (k : ℕ) → is_some (at k x.eventfds) ≡ true → is_some (at k y.eventfds) ≡ true → Lasts eventfds k on_eventfds x.eventfds
  pub timers_last : (k : ℕ) → is_some (at k x.timers) ≡ true → is_some (at k y.timers) ≡ true → Lasts timers k on_timers x.timers

-- the entries of each epoll of a process stand by rising descriptors
abbrev pub AllRise : EpollsState → Type 0
AllRise epolls = (k : ℕ) (entries : List Watch) → at k epolls ≡ Some entries → Rise entries

-- and so do those of all processes of a host
abbrev pub TasksRise : PartsRecord → Type 0
TasksRise h = (process : ℕ) (task : Task) → at process h.tasks ≡ Some task → AllRise task.epolls
