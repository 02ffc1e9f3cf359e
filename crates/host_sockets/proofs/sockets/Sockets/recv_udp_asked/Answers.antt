use Rattle.std.proofs.Common.{◌∙◌, arith}
use Rattle.udp_slots.specs.Slots.{recv_asked_in}
use Rattle.host_sockets.proofs.UdpSlots.{told_udp, told_no_udp}
use Rattle.host_sockets.proofs.sockets.Sockets.recv_udp_asked.Goals as goal

pub returns-then-k-len : goal.returns-then-k-len
returns-then-k-len c = λ t h. told_no_udp c.args.self.now t c.args.k recv_asked_in h (omega (arith, c.args.self.now.udp.slots.ok.0))

pub returns : goal.returns
returns c = λ t h.
    c.recv_asked.ensures ∙ told_udp c.args.self.now t c.args.k c.index.result.now recv_asked_in h (omega (arith, c.args.self.now.udp.slots.ok.0)) c.index.ensures
