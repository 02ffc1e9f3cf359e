use Rattle.std.proofs.lemmas.Result.{IfOk-weaker}
use Rattle.sim_base.specs.declared.signal.Signal.TheVariants.{SigXcpu}
use Rattle.rv32_machine.specs.declared.cpu.Cpu.{Cpu}
use Rattle.host_state.specs.declared.slice.Next.{Next}
use Rattle.host_state.specs.Slice.{number_in, arguments_in, calls, is_killed}
use Rattle.host_state.specs.StandsFor.{DoesStep}
use Rattle.host_state.specs.Step.{step_with}
use Rattle.host_state.proofs.Slices.{turned_call, turned_trap, turned_spent}
use Rattle.host_state.proofs.host.Body.end_turn.Goals as goal

pub returns-in-Call : goal.returns-in-Call
returns-in-Call c =
    IfOk-weaker c.call.result _ _
    (λ (n : Next) (d : DoesStep (calls c.args.net.now c.args.process (number_in c.args.cpu.now) (arguments_in c.args.cpu.now) c.args.cpu.now) (step_with n c.call.new.cpu) c.args.self.now c.call.new.self).
    turned_call c.args.net.now c.args.process c.args.end c.args.cpu.now (step_with n c.call.new.cpu) _ _ c.in-Call.is d)
    c.call.ensures

pub returns-in-Trap : goal.returns-in-Trap
returns-in-Trap c =
    IfOk-weaker c.kill.result _ _
    (λ (n : Next) (d : (cpu : Cpu) → DoesStep (is_killed c.args.net.now c.args.process c.in-Trap.signal) (step_with n cpu) c.args.self.now c.kill.new.self).
    turned_trap c.args.net.now c.args.process c.args.end c.args.cpu.now c.in-Trap.signal (step_with n c.args.cpu.now) _ _ c.in-Trap.is (d c.args.cpu.now))
    c.kill.ensures

pub returns-in-Spent : goal.returns-in-Spent
returns-in-Spent c =
    IfOk-weaker c.kill-in-Spent.result _ _
    (λ (n : Next) (d : (cpu : Cpu) → DoesStep (is_killed c.args.net.now c.args.process SigXcpu) (step_with n cpu) c.args.self.now c.kill-in-Spent.new.self).
    turned_spent c.args.net.now c.args.process c.args.end c.args.cpu.now (step_with n c.args.cpu.now) _ _ c.in-Spent.is (d c.args.cpu.now))
    c.kill-in-Spent.ensures
