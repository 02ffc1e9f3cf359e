use Rattle.sock_tcp.specs.connection.Begin.{begin}
use Rattle.sock_tcp.specs.connection.Process.{error_taken}
use Rattle.sock_tcp.specs.connection.Tcb.{changed}
use Rattle.sock_tcp.specs.connection.Timer.{timer_of}
use Rattle.host_sockets.proofs.Acting.{acts_then}
use Rattle.host_sockets.proofs.tcp_sock.TcpSock.take_error.Goals as goal

pub returns-in-Some : goal.returns-in-Some
unfolding timer_of
returns-in-Some c =
    acts_then c.args.now c.args.place (λ r. changed error_taken (begin r)) c.args.self.now c.bring_about.new.self c.in-Some.conn c.take_error.new.self c.args.outlet.now c.bring_about.new.outlet c.none.result c.args.gone.now.items c.bring_about.new.gone.items c.bring_about.result
    c.in-Some.is (λ r stands. record { conn = c.take_error.ensures.stands r stands; segments = c.none.ensures.segments; timer = c.none.ensures.timer }) c.bring_about.ensures
