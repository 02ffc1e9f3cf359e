use Rattle.std.proofs.Common.{refl, ap, arith}
use Rattle.host_sockets.proofs.Endings.{act_ends}
use Rattle.host_sockets.proofs.Taking.{takes_at, takes_none, none_at}
use Rattle.host_sockets.proofs.Turning.{within_turned, turned_set}
use Rattle.host_sockets.proofs.sockets.Sockets.take_at.Goals as goal

pub returns-then-k-len : goal.returns-then-k-len
returns-then-k-len c = λ t h. takes_none c.args.self.now t c.args.k h (omega (arith, c.args.self.now.tcp.ok.0))

pub returns-in_err-conn : goal.returns-in_err-conn
returns-in_err-conn c = rw c.from_residual.ensures (λ t h.
    none_at c.begin_act-before.new.self _ t c.args.k c.index_mut-sock.result.now c.take_conn.new.self (c.begin_act-before.ensures.stands t h) (within_turned c.args.self.now c.begin_act-before.new.self c.args.k c.begin_act-before.ensures.tcp (omega (arith, c.args.self.now.tcp.ok.0))) c.index_mut-sock.ensures.value c.in_err-conn.ensures refl refl refl refl refl refl)

pub returns : goal.returns
returns c = λ t h.
    takes_at c.begin_act-before.new.self _ t c.args.k c.index_mut-sock.result.now c.take_conn.new.self c.begin_act-before.result c.in_ok-conn.conn (c.begin_act-before.ensures.stands t h) (within_turned c.args.self.now c.begin_act-before.new.self c.args.k c.begin_act-before.ensures.tcp (omega (arith, c.args.self.now.tcp.ok.0))) c.index_mut-sock.ensures.value c.in_ok-conn.ensures (λ s e. c.begin_act-before.ensures.seen t s h e)
    (act_ends c.begin_act-before.new.self _ c.args.k c.begin_act-before.result c.take_conn.new.self c.begin_act-before.new.self.gone.items (within_turned c.args.self.now c.begin_act-before.new.self c.args.k c.begin_act-before.ensures.tcp (omega (arith, c.args.self.now.tcp.ok.0))) c.end_act.ensures.own c.end_act.ensures.udp (ap (λ v. v.items) c.end_act.ensures.tcp) c.end_act.ensures.udp_risen (ap (λ v. v.items) c.end_act.ensures.gone) c.end_act.ensures.tcp_risen)

pub invariant_of-self : goal.invariant_of-self
invariant_of-self c = record { indexed = turned_set c.begin_act-before.new.self c.args.k _ c.begin_act-before.ensures.acts }
