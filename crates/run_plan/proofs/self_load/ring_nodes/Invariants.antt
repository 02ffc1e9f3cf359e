use Rattle.std.proofs.Common.{◌≡◌, map}
use Rattle.std.specs.List.{range_with_len}
use Rattle.run_plan.specs.SelfLoad.{ring_node}
use Rattle.run_plan.proofs.self_load.ring_nodes.Given as goal

abbrev pub invariant-loop-id : goal.invariant-loop-id
invariant-loop-id l = l.all.items ≡ map (ring_node) (range_with_len 0 l.id)
