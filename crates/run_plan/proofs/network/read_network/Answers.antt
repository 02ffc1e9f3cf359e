use Rattle.run_plan.proofs.network.read_network.Goals as goal

pub returns-in-File-clause-told : goal.returns-in-File-clause-told
returns-in-File-clause-told g c = rw c.in-File.is (rw c.as_str.ensures at c.read_graph.ensures.told)
