use Rattle.std.proofs.Common.{refl, ◌∙◌, ap, arith}
use Rattle.host_sockets.specs.Moving.{bytes_given, gives_read}
use Rattle.host_sockets.specs.Sockets.{tcb_in}
use Rattle.host_sockets.proofs.Acted.{acted, acted_told}
use Rattle.host_sockets.proofs.SocketActs.{stand_same, leaves_none, told_none}
use Rattle.host_sockets.proofs.Turning.{turned_set}
use Rattle.host_sockets.proofs.sockets.Sockets.read_at.Goals as goal

pub returns-then-k-len-clause-leaves : goal.returns-then-k-len-clause-leaves
returns-then-k-len-clause-leaves c = λ t h. leaves_none _ t c.args.outlet.now c.args.k (gives_read c.args.now c.args.k c.args.count) (stand_same c.args.self.now _ t refl refl refl refl refl refl h) (omega (arith, c.args.self.now.tcp.ok.0))

pub returns-clause-leaves : goal.returns-clause-leaves
returns-clause-leaves c =
    acted c.args.self.now c.begin_act-before.new.self c.end_act.new.self c.args.outlet.now c.read-answer.new.outlet c.args.k c.index_mut-sock.result.now c.read-answer.new.self c.begin_act-before.result c.read-answer.new.gone.items (gives_read c.args.now c.args.k c.args.count) c.read-answer.result (omega (arith, c.args.self.now.tcp.ok.0)) c.begin_act-before.ensures.tcp
    (λ t h. c.begin_act-before.ensures.stands t (stand_same c.args.self.now _ t refl refl refl refl refl refl h)) (λ t s h e. c.begin_act-before.ensures.seen t s (stand_same c.args.self.now _ t refl refl refl refl refl refl h) e) c.index_mut-sock.ensures.value
    c.end_act.ensures.own c.end_act.ensures.udp (ap (λ v. v.items) c.end_act.ensures.tcp) c.end_act.ensures.udp_risen (ap (λ v. v.items) c.end_act.ensures.gone) c.end_act.ensures.tcp_risen c.read-answer.ensures.brings

pub returns-then-k-len-clause-given : goal.returns-then-k-len-clause-given
returns-then-k-len-clause-given c = λ t h. c.new.ensures ∙ told_none c.args.self.now t c.args.k (λ o. bytes_given c.args.count (tcb_in o)) h (omega (arith, c.args.self.now.tcp.ok.0))

pub returns-clause-given : goal.returns-clause-given
returns-clause-given c =
    acted_told c.args.self.now c.begin_act-before.new.self c.args.k c.index_mut-sock.result.now (λ o. bytes_given c.args.count (tcb_in o)) c.read-answer.result (omega (arith, c.args.self.now.tcp.ok.0)) c.begin_act-before.ensures.tcp (λ t h. c.begin_act-before.ensures.stands t (stand_same c.args.self.now _ t refl refl refl refl refl refl h)) c.index_mut-sock.ensures.value c.read-answer.ensures.given

pub invariant_of-self-2 : goal.invariant_of-self-2
invariant_of-self-2 c = record { indexed = turned_set c.begin_act-before.new.self c.args.k _ c.begin_act-before.ensures.acts }
