use Rattle.std.proofs.Common.{refl, ap, arith}
use Rattle.host_sockets.specs.Connecting.{error_takes}
use Rattle.host_sockets.proofs.Acted.{acted}
use Rattle.host_sockets.proofs.SocketActs.{stand_same, leaves_none}
use Rattle.host_sockets.proofs.Turning.{turned_set}
use Rattle.host_sockets.proofs.sockets.Sockets.take_error_at.Goals as goal

pub returns-then-k-len : goal.returns-then-k-len
returns-then-k-len c = λ t h. leaves_none _ t c.args.outlet.now c.args.k (error_takes c.args.now c.args.k) (stand_same c.args.self.now _ t refl refl refl refl refl refl h) (omega (arith, c.args.self.now.tcp.ok.0))

pub returns : goal.returns
returns c =
    acted c.args.self.now c.begin_act-before.new.self c.end_act.new.self c.args.outlet.now c.take_error-answer.new.outlet c.args.k c.index_mut-sock.result.now c.take_error-answer.new.self c.begin_act-before.result c.take_error-answer.new.gone.items (error_takes c.args.now c.args.k) c.take_error-answer.result (omega (arith, c.args.self.now.tcp.ok.0)) c.begin_act-before.ensures.tcp
    (λ t h. c.begin_act-before.ensures.stands t (stand_same c.args.self.now _ t refl refl refl refl refl refl h)) (λ t s h e. c.begin_act-before.ensures.seen t s (stand_same c.args.self.now _ t refl refl refl refl refl refl h) e) c.index_mut-sock.ensures.value
    c.end_act.ensures.own c.end_act.ensures.udp (ap (λ v. v.items) c.end_act.ensures.tcp) c.end_act.ensures.udp_risen (ap (λ v. v.items) c.end_act.ensures.gone) c.end_act.ensures.tcp_risen c.take_error-answer.ensures

pub invariant_of-self-2 : goal.invariant_of-self-2
invariant_of-self-2 c = record { indexed = turned_set c.begin_act-before.new.self c.args.k _ c.begin_act-before.ensures.acts }
