use Rattle.net_routes.proofs.RouteLaws.{one_route}
use Rattle.net_routes.proofs.laws.one_route.Goals as goal

pub returns : goal.returns
returns c = one_route
