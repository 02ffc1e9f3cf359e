use Rattle.host_sockets.proofs.Taking.{expires_then}
use Rattle.host_sockets.proofs.tcp_sock.TcpSock.expire_kept.Goals as goal

pub returns-in-Some : goal.returns-in-Some
returns-in-Some c =
    expires_then c.args.now c.args.place c.args.timer c.args.self.now c.bring_heard.new.self c.in-Some.listener c.timer.new.self c.args.outlet.now c.bring_heard.new.outlet c.in_ok-effects.effects c.args.gone.now.items c.timer.new.gone.items c.bring_heard.result
    c.in-Some.is c.in_ok-effects.ensures.hears c.in_ok-effects.ensures.gone c.bring_heard.ensures
