use Rattle.std.proofs.Common.{◌∙◌}
use Rattle.sim_base.proofs.PortLemmas.{first_free_port_told}
use Rattle.sim_base.proofs.ports.least_free_port.Goals as goal

pub returns : goal.returns
returns c =
    let free = c.port_past-next.ensures.free c.if-next-port.true in
    c.ok.ensures.value ∙ first_free_port_told _ c.loop-port.port c.try_from.result free c.try_from.ensures ∙ c.loop-port.invariant.first_free
