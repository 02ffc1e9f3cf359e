use Rattle.std.proofs.Common.{◌≡◌, [], length}
use Rattle.gml_graph.specs.declared.block.Part.TheVariants as parts
use Rattle.gml_graph.specs.Steps.{through}
use Rattle.gml_graph.specs.Graph.{blocks, add_node}
use Rattle.gml_graph.proofs.node.read_nodes.Given as goal

abbrev pub invariant-loop-row : goal.invariant-loop-row
invariant-loop-row l = through add_node l.table (blocks parts.Node l.rest) ≡ through add_node [] (blocks parts.Node l.rows)

abbrev pub decreases-loop-row : goal.decreases-loop-row
decreases-loop-row l = length l.rest
