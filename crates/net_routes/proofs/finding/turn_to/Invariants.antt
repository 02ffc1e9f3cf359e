use Rattle.std.proofs.Common.{◌≡◌, ◌≤◌, length, map, take}
use Rattle.net_routes.specs.declared.finding.Search.{Search}
use Rattle.net_routes.proofs.finding.turn_to.Given as goal

abbrev pub invariant-loop-place : goal.invariant-loop-place
invariant-loop-place l =
    (map (λ (s : Search). s.from) (take l.place l.searches.items) ≡ take l.place l.stops) × (l.place ≤ length l.searches.items) × (length l.searches.items ≤ length l.stops)
