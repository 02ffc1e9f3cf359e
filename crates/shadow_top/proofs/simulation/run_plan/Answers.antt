use Rattle.shadow_top.proofs.PlanLemmas.{plan_ran, plan_refused, plan_not_begun}
use Rattle.shadow_top.proofs.simulation.run_plan.Goals as goal
