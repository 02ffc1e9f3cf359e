use Rattle.std.proofs.Common.{refl}
use Rattle.sock_tcp.proofs.Listeners.Dropping.{stays_established, stays_alive, leaves_over}
use Rattle.sock_tcp.proofs.Listeners.ListenActs.{control_at, requeues_waits, requeues_before, requeues_gone, requeues_stays}
use Rattle.sock_tcp.proofs.listener.Listener.requeue.Goals as goal

pub returns-in_ok-push : goal.returns-in_ok-push
returns-in_ok-push c = record {
  requeued = λ l h r e.
      requeues_waits c.args.self.now _ l c.args.place c.args.before r c.control-control.result h (control_at c.args.self.now l c.args.place r c.index.result.now c.control-control.result h e c.index.ensures c.control-control.ensures) c.if-control.true (cc) c.requires refl refl refl c.in_ok-push.ensures.items;
  gone = λ l h r e.
      stays_established r c.control-control.result c.args.gone.now.items (control_at c.args.self.now l c.args.place r c.index.result.now c.control-control.result h e c.index.ensures c.control-control.ensures) c.if-control.true;
}

pub returns-else-not-before : goal.returns-else-not-before
returns-else-not-before c = record {
  requeued = λ l h r e.
      requeues_before c.args.self.now l c.args.place c.args.before r c.control-control.result h (control_at c.args.self.now l c.args.place r c.index.result.now c.control-control.result h e c.index.ensures c.control-control.ensures) c.if-control.true (cc);
  gone = λ l h r e.
      stays_established r c.control-control.result c.args.gone.now.items (control_at c.args.self.now l c.args.place r c.index.result.now c.control-control.result h e c.index.ensures c.control-control.ensures) c.if-control.true;
}

pub returns-in_ok-let_go : goal.returns-in_ok-let_go
returns-in_ok-let_go c = record {
  requeued = λ l h r e.
      requeues_gone _ l c.args.place c.args.before r c.control-control.result (control_at c.args.self.now l c.args.place r c.index.result.now c.control-control.result h e c.index.ensures c.control-control.ensures) c.if-control.false (cc) (c.in_ok-let_go.ensures.rest l h);
  gone = λ l h r e.
      leaves_over r c.control-control.result c.args.gone.now.items _ (control_at c.args.self.now l c.args.place r c.index.result.now c.control-control.result h e c.index.ensures c.control-control.ensures) c.if-control.false (cc) (c.in_ok-let_go.ensures.gone l h r e);
}

pub returns-else-is_over : goal.returns-else-is_over
returns-else-is_over c = record {
  requeued = λ l h r e.
      requeues_stays c.args.self.now l c.args.place c.args.before r c.control-control.result h (control_at c.args.self.now l c.args.place r c.index.result.now c.control-control.result h e c.index.ensures c.control-control.ensures) c.if-control.false (cc);
  gone = λ l h r e.
      stays_alive r c.control-control.result c.args.gone.now.items (control_at c.args.self.now l c.args.place r c.index.result.now c.control-control.result h e c.index.ensures c.control-control.ensures) (cc);
}
