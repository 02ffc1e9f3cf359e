use Rattle.std.proofs.Common.{ap, ◌∙◌}
use Rattle.sock_tcp.proofs.Listeners.ListenActs.{at_place, listens_without}
use Rattle.sock_tcp.proofs.listener.Listener.take_out.Goals as goal

pub returns-clause-conn : goal.returns-clause-conn
returns-clause-conn c = λ l h r e. at_place c.args.self.now l c.args.place r c.remove-conn.result h e c.remove-conn.ensures.value

pub returns-clause-rest : goal.returns-clause-rest
returns-clause-rest c = λ l h.
    listens_without c.args.self.now _ l c.args.place h c.requires c.leave_queue.ensures.local c.leave_queue.ensures.limit
    (ap (λ v. v.items) c.leave_queue.ensures.records ∙ c.remove-conn.ensures.items) c.leave_queue.ensures.queue
