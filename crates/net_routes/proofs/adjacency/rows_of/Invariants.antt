use Rattle.std.proofs.Common.{take}
use Rattle.net_routes.specs.inside.Adjacency.{IsAdjacency}
use Rattle.net_routes.proofs.adjacency.rows_of.Given as goal

abbrev pub invariant-loop-hop : goal.invariant-loop-hop
invariant-loop-hop l = IsAdjacency (take l.hop-index l.hops) l.places l.rows.items
