use Rattle.capture_laws.proofs.Again.{eth0_again, lo_again}
use Rattle.capture_laws.proofs.captures_are_read_again.Goals as goal

pub returns-clause-eth0 : goal.returns-clause-eth0
returns-clause-eth0 c = eth0_again

pub returns-clause-lo : goal.returns-clause-lo
returns-clause-lo c = lo_again
