use Rattle.net_routes.proofs.RouteLaws.{same_routes}
use Rattle.net_routes.proofs.laws.same_routes.Goals as goal

pub returns : goal.returns
returns c = same_routes
