use Rattle.run_plan.specs.SelfLoad.{ring_host}
use Rattle.run_plan.proofs.SelfLoadLemmas.{one_more}
use Rattle.run_plan.proofs.self_load.ring_hosts.Goals as goal

pub loop-host-preserved : goal.loop-host-preserved
loop-host-preserved c = one_more (ring_host c.args.hosts) c.loop-host.host c.loop-host.all.items c.push.new.self.items _ c.loop-host.invariant c.in_ok-next.ensures c.in_ok-push.ensures.items
