use Rattle.std.proofs.Common.{take}
use Rattle.net_routes.specs.inside.Path.{IsBestTo}
use Rattle.net_routes.proofs.arcs.cheapest_arc.Given as goal

abbrev pub invariant-loop-arc : goal.invariant-loop-arc
invariant-loop-arc l = IsBestTo (take l.arc-index l.arcs) l.place l.best
