use Rattle.std.proofs.Common.{◌∙◌, List, ℕ, subst}
use Rattle.std.specs.Prelude.{Ok}
use Rattle.net_routes.specs.Least.{IsLookahead}
use Rattle.net_routes.specs.Routes.{HasRoutes}
use Rattle.run_plan.specs.Plan.{routed, nanos_of}
use Rattle.run_plan.specs.Routed.{TakeTime}
use Rattle.run_plan.proofs.plan.route_rows.Goals as goal

pub returns-clause-told : goal.returns-clause-told
returns-clause-told g c =
    subst (λ (ns : List ℕ). (routed c.args.graph.now c.args.shortest ns).answers (Ok c.in_ok-routes.routes)) (c.deref.ensures.value ∙ c.in_ok-nodes.ensures) c.in_ok-routes.ensures.told

pub returns-clause-whole : goal.returns-clause-whole
returns-clause-whole g c = subst (λ (ns : List ℕ). HasRoutes ns c.in_ok-routes.routes) (c.deref.ensures.value ∙ c.in_ok-nodes.ensures) c.in_ok-routes.ensures.whole

pub returns-clause-later : goal.returns-clause-later
returns-clause-later g c = subst (λ (ns : List ℕ). TakeTime ns c.in_ok-routes.routes) (c.deref.ensures.value ∙ c.in_ok-nodes.ensures) c.in_ok-routes.ensures.later

pub returns-clause-least : goal.returns-clause-least
returns-clause-least g c =
    subst (λ (ns : List ℕ). IsLookahead ns c.in_ok-routes.routes (nanos_of c.least_between-lookahead.result)) (c.deref-2.ensures.value ∙ c.in_ok-nodes.ensures) c.least_between-lookahead.ensures
