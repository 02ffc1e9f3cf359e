use Rattle.run_plan.proofs.RoutedLemmas.{routes_later}
use Rattle.run_plan.proofs.plan.find_routes.Goals as goal

pub returns-in-Ok-clause-later : goal.returns-in-Ok-clause-later
returns-in-Ok-clause-later g c =
    routes_later c.args.graph.now c.args.shortest c.args.nodes.now c.in-Ok.routes c.as_slice-edges.ensures.edges c.in-Ok.ensures.ok
