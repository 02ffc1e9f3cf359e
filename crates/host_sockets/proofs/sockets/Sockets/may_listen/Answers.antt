use Rattle.std.proofs.Common.{is_some, arith}
use Rattle.sim_base.specs.declared.errno.Errno.TheVariants.{Einval}
use Rattle.sim_base.specs.Refusals.{refuse_if}
use Rattle.host_wants.specs.declared.error.Refusal.TheVariants as refusal
use Rattle.host_sockets.proofs.SocketActs.{asked_at, asked_none}
use Rattle.host_sockets.proofs.sockets.Sockets.may_listen.Goals as goal

pub returns-then-k-len : goal.returns-then-k-len
returns-then-k-len c = λ t h. asked_none c.args.self.now t c.args.k (λ s. refuse_if (is_some s.tcb) (refusal.Errno Einval)) h (omega (arith, c.args.self.now.tcp.ok.0))

pub returns : goal.returns
returns c = λ t h.
    asked_at c.args.self.now t c.args.k c.index.result.now (λ s. refuse_if (is_some s.tcb) (refusal.Errno Einval)) c.may_listen.result h (omega (arith, c.args.self.now.tcp.ok.0)) c.index.ensures c.may_listen.ensures
