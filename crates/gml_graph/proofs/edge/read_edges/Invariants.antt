use Rattle.std.proofs.Common.{◌≡◌, [], length}
use Rattle.gml_graph.specs.declared.block.Part.TheVariants as parts
use Rattle.gml_graph.specs.Steps.{through}
use Rattle.gml_graph.specs.Graph.{blocks, add_edge}
use Rattle.gml_graph.proofs.edge.read_edges.Given as goal

abbrev pub invariant-loop-row : goal.invariant-loop-row
invariant-loop-row l = through (add_edge l.nodes) l.edges.items (blocks parts.Edge l.rest) ≡ through (add_edge l.nodes) [] (blocks parts.Edge l.rows)

abbrev pub decreases-loop-row : goal.decreases-loop-row
decreases-loop-row l = length l.rest
