use Rattle.std.proofs.lemmas.Result.{on_ok_weaker}
use Rattle.host_state.specs.HostRecord.{HostRecord}
use Rattle.host_state.specs.Slice.{is_killed, follows}
use Rattle.host_state.specs.StandsFor.{Does}
use Rattle.host_state.specs.Step.{step_with}
use Rattle.host_state.proofs.Slices.{followed}
use Rattle.host_state.proofs.Firings.{shut_so, not_shut, none_shut}
use Rattle.host_state.proofs.host.Body.shut_down.Goals as goal

pub returns-in-None : goal.returns-in-None
returns-in-None c = none_shut c.args.net.now c.args.process c.args.self.now c.in-None.ensures

pub returns-in-None-shutdown_signal : goal.returns-in-None-shutdown_signal
returns-in-None-shutdown_signal c = not_shut c.args.net.now c.args.process c.args.self.now c.in-Some.running c.in-Some.ensures c.in-None-shutdown_signal.ensures

pub returns : goal.returns
returns c =
    on_ok_weaker c.follow.result
    (λ (d : Does (λ (h : HostRecord). follows c.args.net.now c.args.process (step_with c.in_ok-next.next c.in-Some.running.cpu, h)) c.kill.new.self c.follow.new.self).
    shut_so c.args.net.now c.args.process c.args.self.now c.follow.new.self c.in-Some.running c.in-Some-shutdown_signal.signal c.in-Some.ensures c.in-Some-shutdown_signal.ensures
    (followed c.args.net.now c.args.process (is_killed c.args.net.now c.args.process c.in-Some-shutdown_signal.signal) (step_with c.in_ok-next.next c.in-Some.running.cpu)
    c.args.self.now c.kill.new.self c.follow.new.self (c.in_ok-next.ensures c.in-Some.running.cpu) d))
    c.follow.ensures
