use Rattle.run_plan.proofs.PlanLemmas.{plan_goes_on}
use Rattle.run_plan.proofs.StepLemmas.{when_both}
use Rattle.run_plan.proofs.plan.read_plan_of.Goals as goal

pub returns-clause-told : goal.returns-clause-told
returns-clause-told g c =
    when_both (g.S.Source.held c.args.source.now) (λ held h k. plan_goes_on held c.args.name.now c.args.config c.in_ok-graph.graph c.read_run.result h k)
    c.in_ok-graph.ensures.told (rw c.in_ok-graph.ensures.same at c.read_run.ensures.told)
