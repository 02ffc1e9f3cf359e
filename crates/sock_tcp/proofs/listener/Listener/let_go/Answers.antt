use Rattle.std.proofs.Common.{[], ◌∷◌, ◌++◌, ap, ◌∙◌}
use Rattle.sock_tcp.proofs.Listeners.ListenActs.{at_place}
use Rattle.sock_tcp.proofs.listener.Listener.let_go.Goals as goal

pub returns-clause-gone : goal.returns-clause-gone
returns-clause-gone c = λ l h r e.
    c.in_ok-push.ensures.items
    ∙ ap (λ x. c.args.gone.now.items ++ x ∷ []) (c.carried.ensures r (at_place c.args.self.now l c.args.place r c.index.result.now h e c.index.ensures))

pub returns-clause-rest : goal.returns-clause-rest
returns-clause-rest c = λ l h. c.take_out-gone.ensures.rest l h
