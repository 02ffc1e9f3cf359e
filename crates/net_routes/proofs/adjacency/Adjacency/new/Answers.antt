use Rattle.std.proofs.Common.{get_or}
use Rattle.net_routes.proofs.AdjacencyLemmas.{adjacency_arcs}
use Rattle.net_routes.proofs.adjacency.Adjacency.new.Goals as goal

pub rows_of-requires : goal.rows_of-requires
rows_of-requires c k d lt =
    let s = get_or c.args.hops.now k d in
    let h = c.in_ok-ends_of.ensures.ends k d lt in
    ((c.from-places.ensures.ids s.from).1 h.0, (c.from-places.ensures.ids s.to).1 h.1)

pub returns-clause-arcs : goal.returns-clause-arcs
returns-clause-arcs c = adjacency_arcs _ _ _ c.in_ok-rows.ensures c.requires
