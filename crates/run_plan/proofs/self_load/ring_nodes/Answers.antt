use Rattle.std.proofs.Common.{refl}
use Rattle.run_plan.specs.SelfLoad.{ring_node}
use Rattle.run_plan.proofs.SelfLoadLemmas.{one_more}
use Rattle.run_plan.proofs.self_load.ring_nodes.Goals as goal

pub loop-id-preserved : goal.loop-id-preserved
loop-id-preserved c = one_more (ring_node) c.loop-id.id c.loop-id.all.items c.push.new.self.items _ c.loop-id.invariant refl c.in_ok-push.ensures.items
