-- how often each bit of poll(2) rose for an object of a host, over the whole history of the object: in how many acts on it the bit came
-- to hold, where for POLLIN those count too that put something in; and for a timer its expiries. A pipe, timer or eventfd that isn't
-- there has none
use Rattle.std.specs.Prelude.{ℕ, ◌==◌, Bool, List, min, Option, Some, None, if◌then◌else◌}
use Rattle.sim_base.specs.Poll.{pollin, pollout, pollerr, pollhup, pollrdhup}
use Rattle.sim_base.specs.declared.address.Ip.{Ip}
use Rattle.sim_base.specs.declared.time.Time.{Time}
use Rattle.host_fds.specs.declared.pipe.End.{End}
use Rattle.host_fds.specs.declared.pipe.End.TheVariants.{Reading, Writing}
use Rattle.host_fds.specs.declared.rises.Rises.{Rises}
use Rattle.host_fds.specs.Eventfd.{new_eventfd}
use Rattle.host_fds.specs.Pipe.{new_pipe}
use Rattle.host_fds.specs.Rises.{most}
use Rattle.host_timers.specs.Timer.{off}
use Rattle.host_files.specs.declared.file.Object.{Object}
use Rattle.host_files.specs.declared.file.Object.TheVariants as kind
use Rattle.socket_laws.specs.Rises.{tcp_rises_counted, udp_rises_counted}
use Rattle.pipe_laws.specs.Acts.{PipeAct}
use Rattle.pipe_laws.specs.Eventfds as eventfd
use Rattle.pipe_laws.specs.Eventfds.{EventfdAct}
use Rattle.pipe_laws.specs.Rises.{rise_count}
use Rattle.file_laws.specs.Kinds.{pipes, eventfds, timers}
use Rattle.file_laws.specs.Lives.{Life, life_of}
use Rattle.file_laws.specs.Timers.{TimerAct, expiry_count}
use Rattle.run_rises.specs.Histories.{HostHistory}

abbrev pub pipe_count : End → Option (Life (Unit {0}) PipeAct) → ℕ → ℕ
pipe_count end None bit = 0
pipe_count end (Some life) bit = rise_count bit end life.acts new_pipe

abbrev pub eventfd_count : Option (Life (ℕ × Bool) EventfdAct) → ℕ → ℕ
eventfd_count None bit = 0
eventfd_count (Some life) bit = eventfd.rise_count bit life.acts (new_eventfd life.made.0 life.made.1)

-- a timer that is new is off
abbrev pub timer_count : ℕ → Option (Life ℕ TimerAct) → ℕ → ℕ
timer_count now None bit = 0
timer_count now (Some life) bit = if bit == pollin then min (expiry_count life.acts off now) most else 0

-- a count stands still at the most that it counts to
abbrev pub rises_counted : List Ip → Ip → HostHistory → Time → Object → ℕ → ℕ
rises_counted hosts own history now (kind.ReadEnd k) bit = pipe_count Reading (life_of pipes k history.on_pipes) bit
rises_counted hosts own history now (kind.WriteEnd k) bit = pipe_count Writing (life_of pipes k history.on_pipes) bit
rises_counted hosts own history now (kind.Timer k) bit = timer_count now.nanos (life_of timers k history.on_timers) bit
rises_counted hosts own history now (kind.Eventfd k) bit = eventfd_count (life_of eventfds k history.on_eventfds) bit
rises_counted hosts own history now (kind.Udp k) bit = min (udp_rises_counted bit k hosts own history.draws history.on_sockets) most
rises_counted hosts own history now (kind.Tcp k) bit = min (tcp_rises_counted bit k hosts own history.draws history.on_sockets) most
rises_counted hosts own history now _ bit = 0

abbrev pub counts : (ℕ → ℕ) → Rises
counts counted = record {
  input = counted pollin;
  output = counted pollout;
  error = counted pollerr;
  hangup = counted pollhup;
  peer_end = counted pollrdhup;
}
