use Rattle.host_sockets.proofs.Taking.{hears_then}
use Rattle.host_sockets.proofs.tcp_sock.TcpSock.hear.Goals as goal

pub returns-in-Some : goal.returns-in-Some
returns-in-Some c =
    hears_then c.args.now c.args.packet.now c.args.place c.args.self.now c.bring_heard.new.self c.in-Some.listener c.hear.new.listener c.args.outlet.now c.hear.new.outlet c.bring_heard.new.outlet c.in_ok-effects.effects c.args.gone.now.items c.hear.new.gone.items c.bring_heard.result
    c.in-Some.is c.in_ok-effects.ensures.hears c.in_ok-effects.ensures.wanted c.in_ok-effects.ensures.gone c.bring_heard.ensures
