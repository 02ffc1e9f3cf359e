use Rattle.round_lookahead.proofs.Reached.{reached_start, reached_round, reached_result, reached_end, round_smaller}
use Rattle.round_lookahead.proofs.laws.rounds_reach_the_result.Goals as goal

pub returns-clause-begins : goal.returns-clause-begins
returns-clause-begins c = reached_start

pub returns-clause-goes_on : goal.returns-clause-goes_on
returns-clause-goes_on c = reached_round

pub returns-clause-gets_on : goal.returns-clause-gets_on
returns-clause-gets_on c = round_smaller

pub returns-clause-finishes : goal.returns-clause-finishes
returns-clause-finishes c = reached_end

pub returns-clause-extended : goal.returns-clause-extended
returns-clause-extended c = reached_result
