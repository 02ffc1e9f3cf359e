use Rattle.tcp_streams.proofs.Soundness.{acted_honest, begun_honest}
use Rattle.tcp_streams.proofs.laws.segments_honest.Goals as goal

pub returns-clause-first : goal.returns-clause-first
returns-clause-first c = begun_honest

pub returns-clause-others : goal.returns-clause-others
returns-clause-others c = λ r act s. acted_honest act r s
