use Rattle.plan_laws.proofs.Whole.{some_plan}
use Rattle.plan_laws.proofs.some_plan.Goals as goal

pub returns : goal.returns
returns c = some_plan
