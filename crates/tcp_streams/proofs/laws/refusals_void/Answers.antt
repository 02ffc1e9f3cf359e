use Rattle.tcp_streams.proofs.Voids.{refusal_void, resets_void}
use Rattle.tcp_streams.proofs.laws.refusals_void.Goals as goal

pub returns-clause-refusals : goal.returns-clause-refusals
returns-clause-refusals c = refusal_void

pub returns-clause-resets : goal.returns-clause-resets
returns-clause-resets c = resets_void
