use Rattle.host_sockets.proofs.Going.{brings_about}
use Rattle.host_sockets.proofs.tcp_sock.TcpSock.bring_about.Goals as goal

pub returns : goal.returns
returns c =
    brings_about c.args.now c.args.place c.args.self.now c.start_timer.new.self c.let_go.new.self c.args.effects c.args.outlet.now c.send_all.new.self c.start_timer.new.outlet c.args.gone.now.items c.let_go.new.gone.items c.let_go.result
    c.in_ok-send_all.ensures c.in_ok-start_timer.ensures.socket c.in_ok-start_timer.ensures.wanted c.let_go.ensures.socket c.let_go.ensures.gone
