use Rattle.std.proofs.Common.{is_none, arith}
use Rattle.host_sockets.specs.Accepting.{accepts_of}
use Rattle.host_sockets.proofs.SocketActs.{told_at, told_none}
use Rattle.host_sockets.proofs.sockets.Sockets.none_waits_at.Goals as goal

pub returns-then-k-len : goal.returns-then-k-len
returns-then-k-len c = λ t h. told_none c.args.self.now t c.args.k (λ o. is_none (accepts_of o)) h (omega (arith, c.args.self.now.tcp.ok.0))

pub returns : goal.returns
returns c = λ t h. told_at c.args.self.now t c.args.k c.index.result.now (λ o. is_none (accepts_of o)) c.none_waits.result h (omega (arith, c.args.self.now.tcp.ok.0)) c.index.ensures c.none_waits.ensures
