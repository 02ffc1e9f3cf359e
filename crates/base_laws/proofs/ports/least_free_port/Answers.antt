use Rattle.sim_base.specs.AddressLaws.{first_free_port_IsLeastFree, first_free_port_AllAreHad}
use Rattle.base_laws.proofs.ports.least_free_port.Goals as goal

pub returns-clause-given : goal.returns-clause-given
returns-clause-given c = first_free_port_IsLeastFree

pub returns-clause-none : goal.returns-clause-none
returns-clause-none c = first_free_port_AllAreHad
