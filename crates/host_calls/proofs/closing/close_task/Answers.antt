use Rattle.host_calls.proofs.Closed.{closed_none, leaves_next}
use Rattle.host_calls.specs.Parts.{scene}
use Rattle.host_calls.proofs.closing.close_task.Goals as goal

pub loop-fd-init : goal.loop-fd-init
loop-fd-init c = λ t stands. (t, (closed_none c.args.now _, stands))

pub loop-fd-preserved : goal.loop-fd-preserved
loop-fd-preserved c = λ t stands.
    leaves_next c.args.now c.loop-fd.fd (scene (c.args.task.now, c.args.shared.now) t) (c.loop-fd.task, c.loop-fd.shared) (c.close_one.new.task, c.close_one.new.shared)
    c.loop-fd.sockets c.close_one.new.sockets (c.loop-fd.invariant t stands) c.in_ok-close_one.ensures
