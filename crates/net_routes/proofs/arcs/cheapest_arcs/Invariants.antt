use Rattle.std.proofs.Common.{◌≡◌, length, take}
use Rattle.net_routes.specs.inside.Path.{HasArc, IsBest}
use Rattle.net_routes.proofs.ArcLemmas.{found}
use Rattle.net_routes.proofs.arcs.cheapest_arcs.Given as goal

abbrev pub invariant-loop-arc : goal.invariant-loop-arc
invariant-loop-arc l = record {
  size : length l.best.items ≡ l.places;
  best : IsBest (HasArc (take l.arc-index l.arcs)) (found l.best.items);
}
