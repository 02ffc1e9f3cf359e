use Rattle.tcp_streams.proofs.Soundness.{acted_sound, begun_sound}
use Rattle.tcp_streams.proofs.laws.records_sound.Goals as goal

pub returns-clause-begun : goal.returns-clause-begun
returns-clause-begun c = begun_sound

pub returns-clause-kept : goal.returns-clause-kept
returns-clause-kept c = λ r act s. acted_sound act r s
