use Rattle.std.proofs.Common.{◌≡◌, List, Option, Some, None, option_map, sym, ap, ◌∙◌, arith}
use Rattle.std.specs.List.{flat_map}
use Rattle.sim_base.specs.declared.address.Addr.{Addr}
use Rattle.sim_base.specs.Addresses.{any, at_port, at_free_port, least_free_port}
use Rattle.sock_udp.specs.Socket.{UdpState, or_else}
use Rattle.udp_slots.specs.Slots.{local_in}
use Rattle.host_sockets.specs.Udp.{udp_end, udp_ends}
use Rattle.host_sockets.proofs.UdpSlots.{told_udp, told_no_udp}
use Rattle.host_sockets.proofs.sockets.Sockets.udp_end_to_use.Goals as goal

pub returns-then-k-len : goal.returns-then-k-len
returns-then-k-len c = λ t u h e.
    let none : None ≡ Some u = told_no_udp c.args.self.now t c.args.k (λ (o : Option UdpState). o) h (omega (arith, c.args.self.now.udp.slots.ok.0)) ∙ e in
    cc

pub returns-in-Some : goal.returns-in-Some
returns-in-Some c = λ t u h e.
    let there = told_udp c.args.self.now t c.args.k c.index.result.now local_in h (omega (arith, c.args.self.now.udp.slots.ok.0)) c.index.ensures ∙ ap local_in e in
    sym (ap (λ (o : Option Addr). or_else o (at_free_port (udp_ends t) any)) (sym there ∙ (sym c.local.ensures ∙ c.in-Some.is)))

pub returns-in-None : goal.returns-in-None
returns-in-None c = λ t u h e.
    let there = told_udp c.args.self.now t c.args.k c.index.result.now local_in h (omega (arith, c.args.self.now.udp.slots.ok.0)) c.index.ensures ∙ ap local_in e in
    c.at_port.ensures
    ∙ (ap (option_map (at_port any)) (c.free_port.ensures ∙ ap (λ (slots : List (Option UdpState)). least_free_port (flat_map udp_end slots)) h.udp)
    ∙ sym (ap (λ (o : Option Addr). or_else o (at_free_port (udp_ends t) any)) (sym there ∙ (sym c.local.ensures ∙ c.in-None.is))))
