use Rattle.sock_tcp.proofs.Listeners.ListenEnds.{accepts_none, accepts_first}
use Rattle.sock_tcp.proofs.listener.Listener.accept.Goals as goal

pub returns-in-Some : goal.returns-in-Some
returns-in-Some c = λ l h.
    accepts_first c.args.self.now c.take_out.new.self l c.in-Some.place c.take_out.result h (c.in-Some.ensures.oldest l h) c.in-Some.ensures.within c.take_out.ensures.conn c.take_out.ensures.rest

pub returns : goal.returns
returns c = λ l h. accepts_none c.args.self.now l h (c.in_default.ensures.oldest l h)
