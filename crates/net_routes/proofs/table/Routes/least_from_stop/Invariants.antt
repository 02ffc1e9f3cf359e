use Rattle.net_routes.specs.inside.LeastSteps.{IsLeastIf, IsNeededTo}
use Rattle.net_routes.proofs.table.Routes.least_from_stop.Given as goal

abbrev pub invariant-loop-to : goal.invariant-loop-to
invariant-loop-to l = IsLeastIf (IsNeededTo l.nodes l.stops l.from l.to) l.stops l.self l.least
