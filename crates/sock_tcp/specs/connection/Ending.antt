-- how a record ends: by an error, which it keeps, or without a trace (RFC 9293, section 3.10)
use Rattle.std.specs.Prelude.{true, false, Some}
use Rattle.sim_base.specs.declared.errno.Errno.{Errno}
use Rattle.sock_tcp.specs.declared.segment.control.Control.{Control}
use Rattle.sock_tcp.specs.declared.segment.state.TcpState.TheVariants.{Ended, Vanished}
use Rattle.sock_tcp.specs.connection.Tcb.{Turn, with_control, changed}

unfoldable pub ended : Errno → Control → Control
ended error c =
    record c { state = Ended; error = Some error; had_error = true; timer = false }

unfoldable pub vanished : Control → Control
vanished c = record c { state = Vanished; timer = false }

unfoldable pub ends : Errno → Turn → Turn
ends error t = changed (with_control (ended error)) t

unfoldable pub vanishes : Turn → Turn
vanishes t = changed (with_control vanished) t
