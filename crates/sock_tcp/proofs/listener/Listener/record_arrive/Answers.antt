use Rattle.std.proofs.Common.{refl, ap}
use Rattle.sock_tcp.specs.connection.Arrival.{takes_packet}
use Rattle.sock_tcp.proofs.Listeners.Dropping.{gone_record}
use Rattle.sock_tcp.proofs.Listeners.ListenActs.{control_at, tells_record}
use Rattle.sock_tcp.proofs.listener.Listener.record_arrive.Goals as goal

pub returns-clause-tells : goal.returns-clause-tells
returns-clause-tells c = λ l h r e.
    let control = control_at c.args.self.now l c.args.place r c.index.result.now c.control-before.result h e c.index.ensures c.control-before.ensures in
    let before = ap (λ x. x.was_established) control in
    tells_record (takes_packet c.args.segment.now) c.args.self.now _ _ l c.args.place c.control-before.result.was_established r c.index_mut-conn.result.now c.arrive.new.self c.in_ok-effects.effects h e c.index_mut-conn.ensures.value before c.in_ok-effects.ensures refl refl refl refl c.in_ok-requeue.ensures.requeued

pub returns-clause-gone : goal.returns-clause-gone
returns-clause-gone c = λ l h r e.
    gone_record (takes_packet c.args.segment.now) c.args.self.now _ l c.args.place r c.index_mut-conn.result.now c.arrive.new.self c.in_ok-effects.effects c.args.gone.now.items c.requeue.new.gone.items h e c.index_mut-conn.ensures.value c.in_ok-effects.ensures refl refl refl refl c.in_ok-requeue.ensures.gone
