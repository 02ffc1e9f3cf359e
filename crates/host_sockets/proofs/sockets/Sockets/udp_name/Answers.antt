use Rattle.std.proofs.Common.{◌∙◌, arith}
use Rattle.udp_slots.specs.Slots.{udp_name_in}
use Rattle.host_sockets.proofs.UdpSlots.{told_udp, told_no_udp}
use Rattle.host_sockets.proofs.sockets.Sockets.udp_name.Goals as goal

pub returns-then-k-len : goal.returns-then-k-len
returns-then-k-len c = λ t h. told_no_udp c.args.self.now t c.args.k udp_name_in h (omega (arith, c.args.self.now.udp.slots.ok.0))

pub returns : goal.returns
returns c = λ t h.
    c.name.ensures ∙ told_udp c.args.self.now t c.args.k c.index.result.now udp_name_in h (omega (arith, c.args.self.now.udp.slots.ok.0)) c.index.ensures
