use Rattle.tcp_laws.proofs.Histories.{begun_holds, act_of_history}
use Rattle.tcp_laws.proofs.segments_carry.Goals as goal

pub returns-clause-first : goal.returns-clause-first
returns-clause-first c = λ start b. (begun_holds start b).sent

pub returns-clause-others : goal.returns-clause-others
returns-clause-others c = λ start acts act b. (act_of_history start acts act b).sent
