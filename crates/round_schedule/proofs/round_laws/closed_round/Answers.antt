use Rattle.round_schedule.proofs.Ending.{closed_between}
use Rattle.round_schedule.proofs.ScheduleLaws.{left}
use Rattle.round_schedule.proofs.round_laws.closed_round.Goals as goal

pub returns-clause-leaves : goal.returns-clause-leaves
returns-clause-leaves c = λ net window w after closed workers steps may result leads. left net window w workers steps may after closed result leads

pub returns-clause-between : goal.returns-clause-between
returns-clause-between c = λ net window w closed workers steps may leads. closed_between net window w may workers steps closed leads
