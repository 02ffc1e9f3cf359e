use Rattle.std.proofs.Common.{sym, subst}
use Rattle.net_routes.specs.declared.finding.Search.{Search}
use Rattle.net_routes.specs.inside.Found.{IsToSearch}
use Rattle.net_routes.proofs.finding.make_searches.Goals as goal

pub for_each_mut-requires-clause-accepts : goal.for_each_mut-requires-clause-accepts
for_each_mut-requires-clause-accepts g c κs within i p lt is κs' at at' name shapes ranges lengths adjacency from stops room lifetimes =
    (c.requires.adjacency, (subst (λ (s : Search). IsToSearch c.args.nodes.now s) (sym is) (c.requires.from i p.now lt), c.requires.stops))
