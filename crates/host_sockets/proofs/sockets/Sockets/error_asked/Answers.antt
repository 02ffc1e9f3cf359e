use Rattle.std.proofs.Common.{Ok, ap, arith}
use Rattle.host_sockets.specs.TcpSocket.{kept_error}
use Rattle.host_sockets.proofs.SocketActs.{asked_at, asked_none}
use Rattle.host_sockets.proofs.sockets.Sockets.error_asked.Goals as goal

pub returns-then-k-len : goal.returns-then-k-len
returns-then-k-len c = λ t h. asked_none c.args.self.now t c.args.k (λ s. Ok (kept_error s.tcb)) h (omega (arith, c.args.self.now.tcp.ok.0))

pub returns : goal.returns
returns c = λ t h. asked_at c.args.self.now t c.args.k c.index.result.now (λ s. Ok (kept_error s.tcb)) (Ok c.kept_error.result) h (omega (arith, c.args.self.now.tcp.ok.0)) c.index.ensures (λ s stands. ap (λ e. Ok e) (c.kept_error.ensures s stands))
