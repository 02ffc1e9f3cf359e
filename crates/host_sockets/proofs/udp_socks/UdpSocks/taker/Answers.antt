use Rattle.std.proofs.Common.{ap, ◌∙◌}
use Rattle.std.specs.List.{position}
use Rattle.udp_table.specs.Table.{takes_in}
use Rattle.host_sockets.proofs.UdpTold.{taker_told}
use Rattle.host_sockets.proofs.udp_socks.UdpSocks.taker.Goals as goal

pub returns : goal.returns
returns c = c.taker.ensures ∙ (ap (position (takes_in c.args.from c.args.to)) c.args.self.now.told ∙ taker_told c.args.from c.args.to c.args.self.now.slots.items)
