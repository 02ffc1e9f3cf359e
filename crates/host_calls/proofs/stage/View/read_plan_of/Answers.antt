-- Of a socket what is received or sent on it is asked.
use Rattle.std.proofs.Common.{Result, subst}
use Rattle.host_wants.specs.declared.error.Refusal.{Refusal}
use Rattle.call_parts.specs.declared.sockets.SocketNumber.{SocketNumber}
use Rattle.host_calls.specs.Calls.{read_plan_of}
use Rattle.host_calls.specs.inside.Stage.{Sees}
use Rattle.host_calls.proofs.stage.View.read_plan_of.Goals as goal

pub returns-in-Ok : goal.returns-in-Ok
returns-in-Ok c = record {
  asked = subst (λ (r : Result SocketNumber Refusal). Sees (read_plan_of c.args.self.now.time c.args.d r c.args.at c.args.n) c.args.self.now c.recv_plan.result) c.in-Ok.ensures c.recv_plan.ensures.asked;
  fits = c.recv_plan.ensures.fits;
}
