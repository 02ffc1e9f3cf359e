use Rattle.net_routes.proofs.RouteRowLemmas.{needed_tested}
use Rattle.net_routes.proofs.route_row.is_needed.Goals as goal

pub returns-else-from-to : goal.returns-else-from-to
returns-else-from-to c = needed_tested c.args.nodes.now c.args.from c.args.to c.hosts_on.result c.if-from-to.false c.hosts_on.ensures
