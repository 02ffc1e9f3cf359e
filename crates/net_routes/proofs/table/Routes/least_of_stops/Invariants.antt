use Rattle.std.proofs.Common.{length}
use Rattle.net_routes.specs.inside.LeastSteps.{IsLeastIf, IsNeededFirst}
use Rattle.net_routes.proofs.table.Routes.least_of_stops.Given as goal

abbrev pub invariant-loop-from : goal.invariant-loop-from
invariant-loop-from l = IsLeastIf (IsNeededFirst l.nodes l.stops l.from (length l.stops)) l.stops l.self l.least
