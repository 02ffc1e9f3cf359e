use Rattle.host_state.proofs.Openings.{opens_fit}
use Rattle.host_laws.proofs.rounds.openings_fit.Goals as goal

pub returns : goal.returns
returns c = opens_fit
