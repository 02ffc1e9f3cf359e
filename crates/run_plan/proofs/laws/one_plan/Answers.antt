use Rattle.run_plan.proofs.SameLemmas.{one_answer}
use Rattle.run_plan.proofs.laws.one_plan.Goals as goal

pub returns : goal.returns
returns c = one_answer
