use Rattle.std.proofs.Common.{◌≡◌, take}
use Rattle.net_routes.proofs.route_row.RouteRow.copy.Given as goal

abbrev pub invariant-loop-kept : goal.invariant-loop-kept
invariant-loop-kept l = l.costs.items ≡ take l.kept-index l.kept-items
