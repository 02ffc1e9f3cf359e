use Rattle.net_routes.proofs.RouteLaws.{no_lack}
use Rattle.net_routes.proofs.laws.no_refusal.Goals as goal

pub returns-clause-lack : goal.returns-clause-lack
returns-clause-lack c = no_lack

pub returns-clause-refusal : goal.returns-clause-refusal
returns-clause-refusal c g shortest nodes r a b h k = no_lack g shortest nodes r a b h k.lacks
