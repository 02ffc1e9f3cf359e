use Rattle.host_laws.proofs.Firing.{goes_after}
use Rattle.host_laws.proofs.Turning.{opening_goes, turn_goes}
use Rattle.host_laws.proofs.a_go_is_to_come.Goals as goal

pub returns-clause-opening : goal.returns-clause-opening
returns-clause-opening c = opening_goes

pub returns-clause-firing : goal.returns-clause-firing
returns-clause-firing c = goes_after

pub returns-clause-turn : goal.returns-clause-turn
returns-clause-turn c = turn_goes
