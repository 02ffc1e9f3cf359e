use Rattle.run_plan.proofs.SelfLoadLemmas.{are_edges}
use Rattle.run_plan.proofs.self_load.self_load_graph.Goals as goal

pub new-requires : goal.new-requires
new-requires c = are_edges c.args.hosts c.in_ok-edges.edges.items c.in_ok-edges.ensures c.requires.few
