use Rattle.std.proofs.Common.{Option, is_some, ap, ◌∙◌, arith}
use Rattle.sock_udp.specs.Socket.{UdpState}
use Rattle.udp_slots.specs.Slots.{local_in}
use Rattle.host_sockets.proofs.UdpSlots.{told_udp, told_no_udp}
use Rattle.host_sockets.proofs.sockets.Sockets.bound_udp.Goals as goal

pub returns-then-k-len : goal.returns-then-k-len
returns-then-k-len c = λ t h. told_no_udp c.args.self.now t c.args.k (λ (o : Option UdpState). is_some (local_in o)) h (omega (arith, c.args.self.now.udp.slots.ok.0))

pub returns : goal.returns
returns c = λ t h.
    (c.is_some.ensures ∙ ap is_some c.local.ensures)
    ∙ told_udp c.args.self.now t c.args.k c.index.result.now (λ (o : Option UdpState). is_some (local_in o)) h (omega (arith, c.args.self.now.udp.slots.ok.0)) c.index.ensures
