use Rattle.std.proofs.Common.{◌≡◌, map}
use Rattle.std.specs.List.{range_with_len}
use Rattle.run_plan.specs.SelfLoad.{ring_edge}
use Rattle.run_plan.proofs.self_load.ring_edges.Given as goal

abbrev pub invariant-loop-host : goal.invariant-loop-host
invariant-loop-host l = l.all.items ≡ map (ring_edge l.hosts) (range_with_len 0 l.host)
