-- What is kept of a thing is what its life counts.
use Rattle.std.specs.Prelude.{◌≡◌, ℕ, Bool, min}
use Rattle.sim_base.specs.Poll.{pollin, pollout, pollerr, pollhup, pollrdhup}
use Rattle.host_fds.specs.declared.eventfd.Eventfd.{Eventfd}
use Rattle.host_fds.specs.declared.pipe.End.TheVariants.{Reading, Writing}
use Rattle.host_fds.specs.declared.rises.Rises.{Rises}
use Rattle.host_fds.specs.Eventfd.{new_eventfd}
use Rattle.host_fds.specs.Pipe.{PipeState, new_pipe}
use Rattle.host_fds.specs.Rises.{most}
use Rattle.host_timers.specs.Timer.{off}
use Rattle.host_files.specs.declared.timer.KeptTimer.{KeptTimer}
use Rattle.host_files.specs.Files.{expiries}
use Rattle.pipe_laws.specs.Acts.{PipeAct, pipe_after_all}
use Rattle.pipe_laws.specs.Eventfds as eventfd
use Rattle.pipe_laws.specs.Eventfds.{EventfdAct, eventfd_after_all}
use Rattle.pipe_laws.specs.Rises.{rise_count}
use Rattle.file_laws.specs.Lives.{Life}
use Rattle.file_laws.specs.Timers.{TimerAct, expiry_count}

-- the number that is kept of each bit is the one that is counted
pub record AreCounts (kept : Rises) (counted : ℕ → ℕ) : Type 0 where
  pub input : kept.input ≡ counted pollin
  pub output : kept.output ≡ counted pollout
  pub error : kept.error ≡ counted pollerr
  pub hangup : kept.hangup ≡ counted pollhup
  pub peer_end : kept.peer_end ≡ counted pollrdhup

pub record PipeIsCounted (life : Life (Unit {0}) PipeAct) (p : PipeState) : Type 0 where
  pub state : p ≡ pipe_after_all life.acts new_pipe
  pub reading : AreCounts p.read_rises (λ bit. rise_count bit Reading life.acts new_pipe)
  pub writing : AreCounts p.write_rises (λ bit. rise_count bit Writing life.acts new_pipe)

pub record EventfdIsCounted (life : Life (ℕ × Bool) EventfdAct) (e : Eventfd) : Type 0 where
  pub state : e ≡ eventfd_after_all life.acts (new_eventfd life.made.0 life.made.1)
  pub rises : AreCounts e.rises (λ bit. eventfd.rise_count bit life.acts (new_eventfd life.made.0 life.made.1))

-- a timer that is new is off
pub record TimerIsCounted (life : Life ℕ TimerAct) (t : KeptTimer) : Type 0 where
  pub clock : t.clock ≡ life.made
  pub expiries : (now : ℕ) → expiries now t ≡ min (expiry_count life.acts off now) most
