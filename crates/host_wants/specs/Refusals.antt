-- the refusals of calls
use Rattle.std.specs.Prelude.{Bool, true, false, Option, Some, None, Result, Ok, Err}
use Rattle.sim_base.specs.declared.errno.Errno.{Errno}
use Rattle.sim_base.specs.declared.errno.Errno.TheVariants.{Epipe}
use Rattle.sim_base.specs.declared.signal.Signal.TheVariants.{SigPipe}
use Rattle.sim_base.specs.declared.state.State.TheVariants.{Signaled}
use Rattle.sim_base.specs.Refusals.{refuse_if}
use Rattle.host_wants.specs.declared.error.Refusal.{Refusal}
use Rattle.host_wants.specs.declared.error.Refusal.TheVariants as refusal

-- the error that a connection kept answers, if there is one
abbrev pub stop_kept : Option Errno → Result (Unit {0}) Refusal
stop_kept None = Ok tt
stop_kept (Some errno) = Err (refusal.Kept errno)

-- a call that an error number may refuse
abbrev pub by_errno : {A : Type 0} → Result A Errno → Result A Refusal
by_errno (Ok a) = Ok a
by_errno (Err errno) = Err (refusal.Errno errno)

-- a call that waits, without limit
abbrev pub waits_if : Bool → Result (Unit {0}) Refusal
waits_if test = refuse_if test (refusal.Wait None)

-- writing where nobody reads (send(2)): the process ends by SIGPIPE, or is told where it asked not to be ended
abbrev pub broken_pipe : Bool → Refusal
broken_pipe true = refusal.Errno Epipe
broken_pipe false = refusal.End (Signaled SigPipe)
