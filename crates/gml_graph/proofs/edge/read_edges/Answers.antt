use Rattle.std.proofs.Common.{sym}
use Rattle.gml_graph.specs.Graph.{edges_of}
use Rattle.gml_graph.proofs.EdgeLemmas.{edges_fit}
use Rattle.gml_graph.proofs.edge.read_edges.Goals as goal

pub new-requires : goal.new-requires
unfolding edges_of
new-requires c = edges_fit c.args.nodes.now c.args.rows.now c.loop-row.edges.items (sym (rw c.in_default.ensures at c.loop-row.invariant))
