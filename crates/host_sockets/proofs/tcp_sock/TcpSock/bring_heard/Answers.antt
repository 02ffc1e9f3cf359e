use Rattle.std.proofs.Common.{List, refl, ap, ◌∙◌}
use Rattle.sim_base.specs.declared.packet.Packet.{Packet}
use Rattle.host_wants.specs.Wanted.{sends}
use Rattle.host_sockets.specs.ListenerActs.{with_listen, with_timers, timer_starts}
use Rattle.host_sockets.proofs.Taking.{brings_heard}
use Rattle.host_sockets.proofs.tcp_sock.TcpSock.bring_heard.Goals as goal

pub returns : goal.returns
returns c = λ s h dropped before gone stands sent timer left.
    brings_heard c.args.now c.args.place c.args.own c.args.other h dropped s c.args.outlet.now c.send_all.new.self c.start_kept.new.outlet c.args.effects.timer c.keep_timer.new.self before gone
    (c.in_ok-send_all.ensures ∙ ap (λ (ps : List Packet). sends ps c.args.outlet.now) sent) timer
    (c.keep_timer.ensures (with_timers (timer_starts c.args.now c.args.place c.args.own c.args.other c.args.effects.timer s.timers c.send_all.new.self).0 (with_listen h.listen s)) h.listen
    (c.in_ok-start_kept.ensures.socket (with_listen h.listen s) stands) refl)
    (c.in_ok-start_kept.ensures.wanted s) left
