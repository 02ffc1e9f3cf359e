-- What is done is what the plan's row does.
use Rattle.std.proofs.Common.{sym, subst}
use Rattle.host_calls.specs.declared.plan.Plan.{Plan}
use Rattle.host_calls.specs.Calls.{done}
use Rattle.host_calls.specs.inside.Stage.{Acts}
use Rattle.host_calls.proofs.stage.Stage.act.Goals as goal

pub returns-in-Accept : goal.returns-in-Accept
returns-in-Accept c =
    let s = c.args.self.now in
    subst (λ (p : Plan). Acts (done s.known.now s.time s.process p) s c.accept.new.self c.accept.result) (sym c.in-Accept.is) c.accept.ensures

pub returns-in-Connect : goal.returns-in-Connect
returns-in-Connect c =
    let s = c.args.self.now in
    subst (λ (p : Plan). Acts (done s.known.now s.time s.process p) s c.connect.new.self c.connect.result) (sym c.in-Connect.is) c.connect.ensures

pub returns-in-Send : goal.returns-in-Send
returns-in-Send c =
    let s = c.args.self.now in
    subst (λ (p : Plan). Acts (done s.known.now s.time s.process p) s c.send.new.self c.send.result) (sym c.in-Send.is) c.send.ensures

pub returns-in-Receive : goal.returns-in-Receive
returns-in-Receive c =
    let s = c.args.self.now in
    subst (λ (p : Plan). Acts (done s.known.now s.time s.process p) s c.recv.new.self c.recv.result) (sym c.in-Receive.is) c.recv.ensures

pub returns-in-Poll : goal.returns-in-Poll
returns-in-Poll c =
    let s = c.args.self.now in
    subst (λ (p : Plan). Acts (done s.known.now s.time s.process p) s c.ppoll.new.self c.ppoll.result) (sym c.in-Poll.is) c.ppoll.ensures

pub returns-in-EpollWait : goal.returns-in-EpollWait
returns-in-EpollWait c =
    let s = c.args.self.now in
    subst (λ (p : Plan). Acts (done s.known.now s.time s.process p) s c.epoll_wait.new.self c.epoll_wait.result) (sym c.in-EpollWait.is) c.epoll_wait.ensures
