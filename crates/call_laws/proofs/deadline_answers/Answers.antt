use Rattle.call_laws.proofs.Deadlines.{deadline_answers_is}
use Rattle.call_laws.proofs.deadline_answers.Goals as goal

pub returns : goal.returns
returns c = deadline_answers_is
