use Rattle.std.proofs.Common.{arith}
use Rattle.host_sockets.specs.Connecting.{connect_begins}
use Rattle.host_sockets.proofs.SocketActs.{asked_at, asked_none}
use Rattle.host_sockets.proofs.sockets.Sockets.may_connect.Goals as goal

pub returns-then-k-len : goal.returns-then-k-len
returns-then-k-len c = λ t h. asked_none c.args.self.now t c.args.k (connect_begins c.args.hosts.now c.args.to) h (omega (arith, c.args.self.now.tcp.ok.0))

pub returns : goal.returns
returns c = λ t h. asked_at c.args.self.now t c.args.k c.index.result.now (connect_begins c.args.hosts.now c.args.to) c.may_connect.result h (omega (arith, c.args.self.now.tcp.ok.0)) c.index.ensures c.may_connect.ensures
