use Rattle.host_state.specs.Fire.{has_acted}
use Rattle.host_state.proofs.Firings.{acted}
use Rattle.host_state.proofs.host.Body.fire.Goals as goal

-- the work is none of what a body stands for
pub returns : goal.returns
returns c = λ h s early.
    (let after = acted c.args.net.now c.args.event c.args.self.now c.act.new.self c.wake_all.new.self c.come_to.new.self c.come_to.ensures c.in_ok-act.ensures c.in_ok-wake_all.ensures h s early in
    c.hand_out.ensures h.written (has_acted c.args.net.now c.args.event h) (record { row = after.row; link = after.link; processes = after.processes; parts = after.parts }))
