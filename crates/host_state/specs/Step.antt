-- How a process goes on after a call.
use Rattle.sim_base.specs.declared.state.State.{State}
use Rattle.rv32_machine.specs.declared.cpu.Cpu.{Cpu}
use Rattle.host_state.specs.declared.slice.Next.{Next}
use Rattle.host_state.specs.declared.slice.Next.TheVariants as next

-- it goes on or is blocked with these registers, or has ended
pub data Step : Type 0 where
  GoesOn : Cpu → Step
  Blocks : Cpu → Step
  Ends : State → Step

-- the step of a process whose registers are these
abbrev pub step_with : Next → Cpu → Step
step_with next.GoesOn cpu = GoesOn cpu
step_with next.Blocks cpu = Blocks cpu
step_with (next.Ends state) cpu = Ends state
