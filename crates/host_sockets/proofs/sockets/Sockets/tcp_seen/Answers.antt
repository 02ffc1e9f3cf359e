use Rattle.std.proofs.Common.{arith}
use Rattle.host_sockets.specs.Ready.{seen_in}
use Rattle.host_sockets.proofs.SocketActs.{told_at, told_none}
use Rattle.host_sockets.proofs.sockets.Sockets.tcp_seen.Goals as goal

pub returns-then-k-len : goal.returns-then-k-len
returns-then-k-len c = λ t h. told_none c.args.self.now t c.args.k seen_in h (omega (arith, c.args.self.now.tcp.ok.0))

pub returns : goal.returns
returns c = λ t h.
    told_at c.args.self.now t c.args.k c.index.result.now seen_in c.bits.result h (omega (arith, c.args.self.now.tcp.ok.0)) c.index.ensures c.bits.ensures
