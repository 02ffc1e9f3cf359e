use Rattle.net_routes.specs.inside.LeastSteps.{IsLeastIf, IsFromTo}
use Rattle.net_routes.proofs.table.Routes.least_from.Given as goal

abbrev pub invariant-loop-other : goal.invariant-loop-other
invariant-loop-other l = IsLeastIf (IsFromTo l.host l.other) l.nodes l.self l.least
