use Rattle.sim_base.specs.AddressLaws.{has_port_meets}
use Rattle.base_laws.proofs.ports.free_ports_are_apart.Goals as goal

pub returns : goal.returns
returns c = has_port_meets
