-- Each call is asked what its row asks.
use Rattle.std.proofs.Common.{sym, subst}
use Rattle.call_parts.specs.declared.call.WaitingCall.{WaitingCall}
use Rattle.host_calls.specs.Calls.{asked}
use Rattle.host_calls.specs.inside.Stage.{Sees}
use Rattle.host_calls.proofs.stage.View.asked.Goals as goal

pub returns-in-Read : goal.returns-in-Read
returns-in-Read c = record {
  asked = subst (λ (w : WaitingCall). Sees (asked c.args.self.now.known.now c.args.self.now.time w c.args.args) c.args.self.now c.read_plan.result) (sym c.in-Read.is) c.read_plan.ensures.asked;
  fits = c.read_plan.ensures.fits;
}

pub returns-in-Write : goal.returns-in-Write
returns-in-Write c = record {
  asked = subst (λ (w : WaitingCall). Sees (asked c.args.self.now.known.now c.args.self.now.time w c.args.args) c.args.self.now c.write_plan.result) (sym c.in-Write.is) c.write_plan.ensures.asked;
  fits = c.write_plan.ensures.fits;
}

pub returns-in-Accept : goal.returns-in-Accept
returns-in-Accept c = record {
  asked = subst (λ (w : WaitingCall). Sees (asked c.args.self.now.known.now c.args.self.now.time w c.args.args) c.args.self.now c.accept_plan.result) (sym c.in-Accept.is) c.accept_plan.ensures.asked;
  fits = c.accept_plan.ensures.fits;
}

pub returns-in-Connect : goal.returns-in-Connect
returns-in-Connect c = record {
  asked = subst (λ (w : WaitingCall). Sees (asked c.args.self.now.known.now c.args.self.now.time w c.args.args) c.args.self.now c.connect_plan.result) (sym c.in-Connect.is) c.connect_plan.ensures.asked;
  fits = c.connect_plan.ensures.fits;
}

pub returns-in-Sendto : goal.returns-in-Sendto
returns-in-Sendto c = record {
  asked = subst (λ (w : WaitingCall). Sees (asked c.args.self.now.known.now c.args.self.now.time w c.args.args) c.args.self.now c.sendto_plan.result) (sym c.in-Sendto.is) c.sendto_plan.ensures.asked;
  fits = c.sendto_plan.ensures.fits;
}

pub returns-in-Recvfrom : goal.returns-in-Recvfrom
returns-in-Recvfrom c = record {
  asked = subst (λ (w : WaitingCall). Sees (asked c.args.self.now.known.now c.args.self.now.time w c.args.args) c.args.self.now c.recvfrom_plan.result) (sym c.in-Recvfrom.is) c.recvfrom_plan.ensures.asked;
  fits = c.recvfrom_plan.ensures.fits;
}

pub returns-in-Ppoll : goal.returns-in-Ppoll
returns-in-Ppoll c = record {
  asked = subst (λ (w : WaitingCall). Sees (asked c.args.self.now.known.now c.args.self.now.time w c.args.args) c.args.self.now c.poll_plan.result) (sym c.in-Ppoll.is) c.poll_plan.ensures.asked;
  fits = c.poll_plan.ensures.fits;
}

pub returns-in-EpollWait : goal.returns-in-EpollWait
returns-in-EpollWait c = record {
  asked = subst (λ (w : WaitingCall). Sees (asked c.args.self.now.known.now c.args.self.now.time w c.args.args) c.args.self.now c.wait_plan.result) (sym c.in-EpollWait.is) c.wait_plan.ensures.asked;
  fits = c.wait_plan.ensures.fits;
}
