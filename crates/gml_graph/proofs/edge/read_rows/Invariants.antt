use Rattle.std.proofs.Common.{◌≡◌, drop}
use Rattle.gml_graph.specs.Steps.{through}
use Rattle.gml_graph.specs.Graph.{edge_row, new_edge}
use Rattle.gml_graph.proofs.edge.read_rows.Given as goal

abbrev pub invariant-loop-row : goal.invariant-loop-row
invariant-loop-row l = through (edge_row l.nodes) l.draft (drop l.row-index l.rows) ≡ through (edge_row l.nodes) new_edge l.rows
