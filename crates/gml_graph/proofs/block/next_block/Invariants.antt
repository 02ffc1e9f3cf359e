use Rattle.std.proofs.Common.{◌≡◌, ◌≤◌, length}
use Rattle.gml_graph.specs.Graph.{blocks}
use Rattle.gml_graph.proofs.block.next_block.Given as goal

abbrev pub invariant-loop-rest : goal.invariant-loop-rest
invariant-loop-rest l = (blocks l.part l.rest ≡ blocks l.part l.rows) × (length l.rest ≤ length l.rows)

abbrev pub decreases-loop-rest : goal.decreases-loop-rest
decreases-loop-rest l = length l.rest
