use Rattle.std.proofs.Common.{List, Option, ap, ◌∙◌}
use Rattle.sim_base.specs.Addresses.{least_free_port}
use Rattle.sock_udp.specs.declared.ends.UdpEnds.{UdpEnds}
use Rattle.udp_table.specs.Table.{bound_ends}
use Rattle.host_sockets.proofs.UdpTold.{ends_told}
use Rattle.host_sockets.proofs.udp_socks.UdpSocks.free_port.Goals as goal

pub returns : goal.returns
returns c =
    c.free_port.ensures
    ∙ (ap (λ (places : List (Option UdpEnds)). least_free_port (bound_ends places)) c.args.self.now.told ∙ ap least_free_port (ends_told c.args.self.now.slots.items))
