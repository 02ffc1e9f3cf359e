use Rattle.std.proofs.Common.{◌≡◌, Result, Err, IfErr, subst, ap, ◌∙◌}
use Rattle.sim_base.specs.declared.address.Addr.{Addr}
use Rattle.sim_base.specs.declared.errno.Errno.{Errno}
use Rattle.sim_base.specs.Addresses.{Surroundings}
use Rattle.sock_udp.specs.Socket.{end_left, bound_at}
use Rattle.sock_udp.proofs.socket.UdpSock.bind.Goals as goal

pub returns-clause-refused : goal.returns-clause-refused
returns-clause-refused c =
    subst (λ (left : Result Addr Errno). IfErr c.bind_at.result (λ errno. bound_at c.args.around.now c.args.at.ip left c.args.self.now ≡ Err errno))
    (c.end_left-left.ensures ∙ ap (λ (around : Surroundings). end_left around.bound c.args.at) c.around.view_is) c.bind_at.ensures.refused
