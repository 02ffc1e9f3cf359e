use Rattle.std.proofs.Common.{List, Option, ap, ◌∙◌}
use Rattle.sim_base.specs.declared.address.Addr.{Addr}
use Rattle.sock_udp.specs.Socket.{end_left}
use Rattle.sock_udp.specs.declared.ends.UdpEnds.{UdpEnds}
use Rattle.udp_table.specs.Table.{bound_ends}
use Rattle.host_sockets.proofs.UdpTold.{ends_told}
use Rattle.host_sockets.proofs.udp_socks.UdpSocks.end_left.Goals as goal

pub returns : goal.returns
returns c =
    c.end_left.ensures
    ∙ (ap (λ (places : List (Option UdpEnds)). end_left (bound_ends places) c.args.at) c.args.self.now.told ∙ ap (λ (ends : List Addr). end_left ends c.args.at) (ends_told c.args.self.now.slots.items))
