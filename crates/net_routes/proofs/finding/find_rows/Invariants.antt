use Rattle.std.proofs.Common.{◌-◌, length}
use Rattle.net_routes.specs.inside.Found.{oks, AreFound}
use Rattle.net_routes.proofs.finding.find_rows.Given as goal

abbrev pub invariant-loop-searches : goal.invariant-loop-searches
invariant-loop-searches g l = AreFound l.adjacency l.nodes l.stops l.shortest (oks l.rows)

abbrev pub decreases-loop-searches : goal.decreases-loop-searches
decreases-loop-searches g l = length l.stops - length l.rows
