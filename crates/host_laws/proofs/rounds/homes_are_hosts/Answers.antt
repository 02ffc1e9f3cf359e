use Rattle.host_state.proofs.Simulations.{home_within}
use Rattle.host_laws.proofs.rounds.homes_are_hosts.Goals as goal

pub returns : goal.returns
returns c = home_within
