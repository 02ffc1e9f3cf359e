use Rattle.std.proofs.Common.{length}
use Rattle.net_routes.specs.inside.LeastSteps.{IsLeastIf, IsFromFirst}
use Rattle.net_routes.proofs.table.Routes.least_of_hosts.Given as goal

abbrev pub invariant-loop-host : goal.invariant-loop-host
invariant-loop-host l = IsLeastIf (IsFromFirst l.host (length l.nodes)) l.nodes l.self l.least
