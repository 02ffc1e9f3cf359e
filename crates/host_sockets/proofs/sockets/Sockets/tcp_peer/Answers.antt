use Rattle.std.proofs.Common.{arith}
use Rattle.host_sockets.specs.Names.{peer_in}
use Rattle.host_sockets.proofs.SocketActs.{asked_at, asked_none}
use Rattle.host_sockets.proofs.sockets.Sockets.tcp_peer.Goals as goal

pub returns-then-k-len : goal.returns-then-k-len
returns-then-k-len c = λ t h. asked_none c.args.self.now t c.args.k (λ s. peer_in s.tcb) h (omega (arith, c.args.self.now.tcp.ok.0))

pub returns : goal.returns
returns c = λ t h.
    asked_at c.args.self.now t c.args.k c.index.result.now (λ s. peer_in s.tcb) c.peer.result h (omega (arith, c.args.self.now.tcp.ok.0)) c.index.ensures c.peer.ensures
