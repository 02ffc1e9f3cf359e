use Rattle.std.proofs.Common.{refl, ap, arith}
use Rattle.host_sockets.specs.Moving.{count_taken, takes_written}
use Rattle.host_sockets.specs.Sockets.{tcb_in}
use Rattle.host_sockets.proofs.Acted.{acted, acted_told}
use Rattle.host_sockets.proofs.SocketActs.{stand_same, leaves_none, told_none}
use Rattle.host_sockets.proofs.Turning.{turned_set}
use Rattle.host_sockets.proofs.sockets.Sockets.write_at.Goals as goal

pub returns-then-k-len-clause-leaves : goal.returns-then-k-len-clause-leaves
returns-then-k-len-clause-leaves c = λ t h. leaves_none _ t c.args.outlet.now c.args.k (takes_written c.args.now c.args.k c.args.bytes.now) (stand_same c.args.self.now _ t refl refl refl refl refl refl h) (omega (arith, c.args.self.now.tcp.ok.0))

pub returns-clause-leaves : goal.returns-clause-leaves
returns-clause-leaves c =
    acted c.args.self.now c.begin_act-before.new.self c.end_act.new.self c.args.outlet.now c.write-answer.new.outlet c.args.k c.index_mut-sock.result.now c.write-answer.new.self c.begin_act-before.result c.write-answer.new.gone.items (takes_written c.args.now c.args.k c.args.bytes.now) c.write-answer.result (omega (arith, c.args.self.now.tcp.ok.0)) c.begin_act-before.ensures.tcp
    (λ t h. c.begin_act-before.ensures.stands t (stand_same c.args.self.now _ t refl refl refl refl refl refl h)) (λ t s h e. c.begin_act-before.ensures.seen t s (stand_same c.args.self.now _ t refl refl refl refl refl refl h) e) c.index_mut-sock.ensures.value
    c.end_act.ensures.own c.end_act.ensures.udp (ap (λ v. v.items) c.end_act.ensures.tcp) c.end_act.ensures.udp_risen (ap (λ v. v.items) c.end_act.ensures.gone) c.end_act.ensures.tcp_risen c.write-answer.ensures.brings

pub returns-then-k-len-clause-count : goal.returns-then-k-len-clause-count
returns-then-k-len-clause-count c = λ t h. told_none c.args.self.now t c.args.k (λ o. count_taken c.args.bytes.now (tcb_in o)) h (omega (arith, c.args.self.now.tcp.ok.0))

pub returns-clause-count : goal.returns-clause-count
returns-clause-count c =
    acted_told c.args.self.now c.begin_act-before.new.self c.args.k c.index_mut-sock.result.now (λ o. count_taken c.args.bytes.now (tcb_in o)) c.write-answer.result (omega (arith, c.args.self.now.tcp.ok.0)) c.begin_act-before.ensures.tcp (λ t h. c.begin_act-before.ensures.stands t (stand_same c.args.self.now _ t refl refl refl refl refl refl h)) c.index_mut-sock.ensures.value c.write-answer.ensures.count

pub invariant_of-self-2 : goal.invariant_of-self-2
invariant_of-self-2 c = record { indexed = turned_set c.begin_act-before.new.self c.args.k _ c.begin_act-before.ensures.acts }
