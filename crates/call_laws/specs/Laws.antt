-- Words of the laws of system calls.
use Rattle.std.specs.Prelude.{◌≡◌, ℕ, ◌+◌, ◌==◌, ◌<◌, ◌≤◌, Bool, true, false, not, List, Option, Some, None, IsSome, Result, Ok}
use Rattle.std.specs.FinMap as map
use Rattle.host_fds.specs.Descriptors.{Descriptors}
use Rattle.host_files.specs.Slots.{at}
use Rattle.call_parts.specs.declared.call.Call.{Call}
use Rattle.call_parts.specs.declared.call.Call.TheVariants as system_call
use Rattle.call_parts.specs.declared.call.WaitingCall.TheVariants as waiting
use Rattle.host_calls.specs.declared.parts.Answer.{Answer}
use Rattle.host_calls.specs.declared.parts.Answer.TheVariants as answer
use Rattle.file_calls.specs.declared.task.Task.{Task}
use Rattle.file_calls.specs.declared.task.Why.{Why}
use Rattle.sim_base.specs.declared.errno.Errno.{Errno}
use Rattle.sim_base.specs.declared.time.Time.{Time}
use Rattle.host_wants.specs.declared.error.Refusal.{Refusal}
use Rattle.host_sockets.specs.declared.reply.Reply.{Reply}
use Rattle.host_sockets.specs.declared.reply.Reply.TheVariants.{Failed}
use Rattle.host_sockets.specs.Sockets.{SocketsRecord}
use Rattle.host_wants.specs.Wanted.{Wanted}
use Rattle.host_sockets.specs.TcpActs.{acts_at}
use Rattle.host_sockets.specs.Connecting.{error_takes}
use Rattle.call_parts.specs.Plain.{arg}
use Rattle.call_parts.specs.Epoll.{is_negative}
use Rattle.host_calls.specs.Parts.{PartsRecord}

-- whether the process waits
abbrev pub is_block : Answer → Bool
is_block (answer.Block why) = true
is_block (answer.Value value) = false
is_block (answer.End state) = false

-- the call that a process waits in
abbrev pub kept_by : Option Task → Option Why
kept_by None = None
kept_by (Some task) = task.kept

abbrev pub kept_call : ℕ → PartsRecord → Option Why
kept_call process h = kept_by (at process h.tasks)

-- a call that is handed the time to which it waits: clock_nanosleep(2), ppoll(2) where its pointer isn't null, and epoll_pwait(2) where its
-- milliseconds aren't negative
abbrev pub takes_time : Option Call → List ℕ → Bool
takes_time (Some (system_call.Waiting waiting.ClockNanosleep)) args = true
takes_time (Some (system_call.Waiting waiting.Ppoll)) args = not (arg args 2 == 0)
takes_time (Some (system_call.Waiting waiting.EpollWait)) args = not (is_negative (arg args 3))
takes_time _ args = false

-- the first free number of so many from one on
pub record IsFirstFree (fds : Descriptors) (from count fd : ℕ) : Type 0 where
  pub no_less : from ≤ fd
  pub within : fd < from + count
  pub is_free : map.get fds fd ≡ None
  pub below : (lower : ℕ) → from ≤ lower → lower < fd → IsSome (map.get fds lower)

-- a call answers an error that a connection kept: nothing but that error is taken, at the socket with this number
abbrev pub TakesError : {A : Type 0} → Time → ℕ → Errno → SocketsRecord → Wanted → Result (Reply A × (SocketsRecord × Wanted)) Refusal → Type 0
TakesError now k errno t w answer = answer ≡ Ok (Failed errno, acts_at k (error_takes now k) t w)
