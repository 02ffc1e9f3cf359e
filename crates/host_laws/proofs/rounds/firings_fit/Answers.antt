use Rattle.host_state.proofs.Simulations as lemma
use Rattle.host_laws.proofs.rounds.firings_fit.Goals as goal

pub returns : goal.returns
returns c = λ net lookahead routes short early. lemma.firings_fit net lookahead routes short early
