-- What system calls act on: a process, and what the processes of its host share.
use Rattle.std.specs.Prelude.{◌≡◌, List, ℕ, ◌-◌, ◌^◌, Bool, Result, Ok, Err, if◌then◌else◌}
use Rattle.sim_base.specs.declared.errno.Errno.{Errno}
use Rattle.sim_base.specs.declared.errno.Errno.TheVariants.{Eagain}
use Rattle.sim_base.specs.Errno.{errno_number}
use Rattle.guest_args.specs.Span.{filled}
use Rattle.host_wants.specs.declared.error.Refusal.{Refusal}
use Rattle.host_wants.specs.declared.error.Refusal.TheVariants as refusal
use Rattle.host_wants.specs.declared.error.CallError.{CallError}
use Rattle.host_wants.specs.declared.error.CallError.TheVariants as error
use Rattle.file_calls.specs.declared.task.Task.{Task}
use Rattle.file_calls.specs.declared.task.Shared.{Shared}

-- a process, and the files, wants and outputs of its host
abbrev pub Local : Type 0
Local = Task × Shared

abbrev pub Is : Local → Task → Shared → Type 0
Is s task shared = (task ≡ s.0) × (shared ≡ s.1)

-- bytes that a guest gets
abbrev pub tell_memory : ℕ → List ℕ → Local → Local
tell_memory at bytes (task, shared) = (record task { memory = filled at bytes task.memory }, shared)

-- what a guest sees of an error number: its negative, as an unsigned number of 32 bits
abbrev pub negative : Errno → ℕ
negative errno = 2 ^ 32 - errno_number errno

-- a call that waits answers EAGAIN where its descriptor is nonblocking
abbrev pub again_refusal : Bool → Refusal → Refusal
again_refusal nonblocking (refusal.Wait until) = if nonblocking then refusal.Errno Eagain else refusal.Wait until
again_refusal nonblocking (refusal.Errno errno) = refusal.Errno errno
again_refusal nonblocking (refusal.Kept errno) = refusal.Kept errno
again_refusal nonblocking (refusal.End state) = refusal.End state

abbrev pub or_again : {A : Type 0} → Bool → Result A Refusal → Result A Refusal
or_again nonblocking (Ok a) = Ok a
or_again nonblocking (Err r) = Err (again_refusal nonblocking r)

-- an error that a connection kept answers a call, which takes it: it refuses nothing
abbrev pub kept_answers : Result (Unit {0}) Refusal → Result (Unit {0}) Refusal
kept_answers (Ok done) = Ok done
kept_answers (Err (refusal.Kept errno)) = Ok tt
kept_answers (Err (refusal.Errno errno)) = Err (refusal.Errno errno)
kept_answers (Err (refusal.Wait until)) = Err (refusal.Wait until)
kept_answers (Err (refusal.End state)) = Err (refusal.End state)

-- a call does what its row says: it answers and leaves this, or it is refused and nothing has changed. After want of memory
-- nothing is known
abbrev pub Does : {A S : Type 0} → Result (A × S) Refusal → S → S → Result A CallError → Type 0
Does row old new (Ok a) = row ≡ Ok (a, new)
Does row old new (Err (error.Refused r)) = (row ≡ Err r) × (new ≡ old)
Does row old new (Err error.NoMemory) = Unit {0}
