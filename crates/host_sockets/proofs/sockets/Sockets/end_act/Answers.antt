use Rattle.std.proofs.Common.{length, sym, ap, subst, ◌∙◌, arith}
use Rattle.host_sockets.specs.declared.glance.Glance.{Glance}
use Rattle.host_sockets.specs.declared.tcp_sock.TcpSock.{TcpSock}
use Rattle.host_sockets.specs.Rises.{moved_at}
use Rattle.host_sockets.specs.StandsFor.{SocketStands}
use Rattle.host_sockets.proofs.Endings.{read_there, all_lent}
use Rattle.host_sockets.proofs.sockets.Sockets.end_act.Goals as goal

pub returns-clause-tcp_risen : goal.returns-clause-tcp_risen
returns-clause-tcp_risen c = λ x s at stands.
    let here = c.index.ensures ∙ read_there c.args.self.now.tcp.items c.args.k x c.index.result.now at in
    all_lent c.args.self.now.tcp_risen.len c.move_at.new.kept _ (omega (arith, ap length c.as_mut_slice.ensures.value, c.args.self.now.tcp_risen.ok.0))
    ∙ (c.move_at.ensures ∙ (ap (moved_at c.args.k c.args.before c.glance-after.result) c.as_mut_slice.ensures.value ∙ ap (λ (g : Glance). moved_at c.args.k c.args.before g c.args.self.now.tcp_risen.items) (c.glance-after.ensures s (subst (λ (y : TcpSock). SocketStands y s) (sym here) stands))))
