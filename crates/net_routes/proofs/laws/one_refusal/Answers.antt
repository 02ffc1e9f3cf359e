use Rattle.net_routes.proofs.RouteLaws.{one_least_lack}
use Rattle.net_routes.proofs.laws.one_refusal.Goals as goal

pub returns : goal.returns
returns c = one_least_lack
