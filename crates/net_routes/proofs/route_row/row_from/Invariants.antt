use Rattle.std.proofs.Common.{◌≡◌, length}
use Rattle.net_routes.specs.inside.Adjacency.{cost_to}
use Rattle.net_routes.proofs.RouteRowLemmas.{IsRowBelow}
use Rattle.net_routes.proofs.route_row.row_from.Given as goal

abbrev pub invariant-loop-to : goal.invariant-loop-to
invariant-loop-to l = record {
  size : length l.row.items ≡ l.to-index;
  row : IsRowBelow l.to-index l.nodes l.stops l.from (cost_to l.adjacency.places l.costs) l.row.items;
}
