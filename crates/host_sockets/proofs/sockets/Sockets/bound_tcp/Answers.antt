use Rattle.std.proofs.Common.{is_some, ap, ◌∙◌, arith}
use Rattle.host_sockets.specs.Binding.{is_bound_in}
use Rattle.host_sockets.proofs.SocketActs.{told_at, told_none}
use Rattle.host_sockets.proofs.sockets.Sockets.bound_tcp.Goals as goal

pub returns-then-k-len : goal.returns-then-k-len
returns-then-k-len c = λ t h. told_none c.args.self.now t c.args.k is_bound_in h (omega (arith, c.args.self.now.tcp.ok.0))

pub returns : goal.returns
returns c = λ t h.
    told_at c.args.self.now t c.args.k c.index.result.now is_bound_in c.is_some.result h (omega (arith, c.args.self.now.tcp.ok.0)) c.index.ensures (λ s stands. c.is_some.ensures ∙ ap is_some stands.bound)
