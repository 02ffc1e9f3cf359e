use Rattle.std.proofs.Common.{Ok, ap, arith}
use Rattle.sim_base.specs.declared.address.Addr.{Addr}
use Rattle.host_sockets.specs.Names.{name_in}
use Rattle.host_sockets.proofs.SocketActs.{asked_at, asked_none}
use Rattle.host_sockets.proofs.sockets.Sockets.tcp_name.Goals as goal

pub returns-then-k-len : goal.returns-then-k-len
returns-then-k-len c = λ t h. asked_none c.args.self.now t c.args.k (λ s. Ok (name_in s.tcb s.bound)) h (omega (arith, c.args.self.now.tcp.ok.0))

pub returns : goal.returns
returns c = λ t h.
    asked_at c.args.self.now t c.args.k c.index.result.now (λ s. Ok (name_in s.tcb s.bound)) (Ok c.name.result) h (omega (arith, c.args.self.now.tcp.ok.0)) c.index.ensures (λ s stands. ap (λ (at : Addr). Ok at) (c.name.ensures s stands))
