use Rattle.std.proofs.Common.{ℕ, List, Option, option_map, sym, ap, subst, ◌∙◌}
use Rattle.sim_base.specs.declared.address.Addr.{Addr}
use Rattle.sim_base.specs.Addresses.{at_port, at_free_port}
use Rattle.host_sockets.specs.declared.tcp_sock.TcpSock.{TcpSock}
use Rattle.host_sockets.specs.SocketsStand.{AllStand}
use Rattle.host_sockets.proofs.sockets.Sockets.free_end.Goals as goal

pub returns-in-Some : goal.returns-in-Some
returns-in-Some c = λ t h.
    c.at_port.ensures
    ∙ ap (λ (o : Option ℕ). option_map (at_port c.args.ip) o)
    (c.free_port.ensures c.in-Some.port c.in-Some.is t.tcp (subst (λ (xs : List TcpSock). AllStand xs t.tcp) (sym c.as_slice.ensures.value) h.tcp))

pub returns : goal.returns
returns c = λ t h.
    c.at_free_port.ensures ∙ ap (λ (xs : List Addr). at_free_port xs c.args.ip) (c.as_slice-2.ensures.value ∙ c.in_ok-ends.ensures t h)
