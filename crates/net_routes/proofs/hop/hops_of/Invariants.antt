use Rattle.std.proofs.Common.{◌≡◌, take}
use Rattle.std.specs.Prelude.{flat_map}
use Rattle.net_routes.specs.Walk.{ways}
use Rattle.net_routes.proofs.hop.hops_of.Given as goal

abbrev pub invariant-loop-edge : goal.invariant-loop-edge
invariant-loop-edge l = l.found.items ≡ flat_map (ways l.directed) (take l.edge-index l.edges)
