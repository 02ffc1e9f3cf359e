use Rattle.std.proofs.Common.{is_none, ap, ◌∙◌}
use Rattle.std.specs.List.{position_or_len}
use Rattle.host_sockets.proofs.UdpTold.{free_told}
use Rattle.host_sockets.proofs.udp_socks.UdpSocks.free_place.Goals as goal

pub returns : goal.returns
returns c = c.free_place.ensures ∙ (ap (position_or_len is_none) c.args.self.now.told ∙ free_told c.args.self.now.slots.items)
