use Rattle.run_plan.specs.SelfLoad.{ring_edge}
use Rattle.run_plan.proofs.SelfLoadLemmas.{one_more}
use Rattle.run_plan.proofs.self_load.ring_edges.Goals as goal

pub loop-host-preserved : goal.loop-host-preserved
loop-host-preserved c = one_more (ring_edge c.args.hosts) c.loop-host.host c.loop-host.all.items c.push.new.self.items _ c.loop-host.invariant c.ring_edge.ensures.edge c.in_ok-push.ensures.items
