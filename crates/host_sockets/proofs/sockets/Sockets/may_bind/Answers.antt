use Rattle.std.proofs.Common.{ap, ◌∙◌, arith}
use Rattle.sim_base.specs.declared.address.Ip.{Ip}
use Rattle.host_sockets.specs.Binding.{bind_begins}
use Rattle.host_sockets.proofs.SocketActs.{asked_at, asked_none}
use Rattle.host_sockets.proofs.sockets.Sockets.may_bind.Goals as goal

pub returns-then-k-len : goal.returns-then-k-len
returns-then-k-len c = λ t h. asked_none c.args.self.now t c.args.k (bind_begins t.own c.args.at) h (omega (arith, c.args.self.now.tcp.ok.0))

pub returns : goal.returns
returns c = λ t h.
    asked_at c.args.self.now t c.args.k c.index.result.now (bind_begins t.own c.args.at) c.may_bind.result h (omega (arith, c.args.self.now.tcp.ok.0)) c.index.ensures
    (λ s stands. c.may_bind.ensures s stands ∙ ap (λ (own : Ip). bind_begins own c.args.at s) h.own)
