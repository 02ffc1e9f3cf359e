use Rattle.std.proofs.Common.{arith}
use Rattle.host_sockets.specs.Moving.{may_send}
use Rattle.host_sockets.proofs.SocketActs.{asked_at, asked_none}
use Rattle.host_sockets.proofs.sockets.Sockets.send_asked.Goals as goal

pub returns-then-k-len : goal.returns-then-k-len
returns-then-k-len c = λ t h. asked_none c.args.self.now t c.args.k (may_send c.args.hosts.now c.args.count c.args.to c.args.quiet) h (omega (arith, c.args.self.now.tcp.ok.0))

pub returns : goal.returns
returns c = λ t h. asked_at c.args.self.now t c.args.k c.index.result.now (may_send c.args.hosts.now c.args.count c.args.to c.args.quiet) c.may_send.result h (omega (arith, c.args.self.now.tcp.ok.0)) c.index.ensures c.may_send.ensures
