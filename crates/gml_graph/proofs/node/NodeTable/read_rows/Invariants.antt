use Rattle.std.proofs.Common.{◌≡◌, drop}
use Rattle.gml_graph.specs.Steps.{through}
use Rattle.gml_graph.specs.Graph.{node_row, new_node}
use Rattle.gml_graph.proofs.node.NodeTable.read_rows.Given as goal

abbrev pub invariant-loop-row : goal.invariant-loop-row
invariant-loop-row l = through (node_row l.self) l.draft (drop l.row-index l.rows) ≡ through (node_row l.self) new_node l.rows
