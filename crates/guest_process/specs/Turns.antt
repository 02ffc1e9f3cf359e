-- What a turn of a process leaves.
use Rattle.std.specs.Prelude.{◌≡◌, ℕ, Option, Some, None}
use Rattle.rv32_machine.specs.declared.cpu.Cpu.{Cpu}
use Rattle.rv32_machine.specs.declared.outcome.TurnEnd.{TurnEnd}
use Rattle.rv32_machine.specs.Table.{state}
use Rattle.rv32_machine.specs.Turn.{Turn, turn}
use Rattle.file_calls.specs.declared.task.Task.{Task}

-- a turn leaves these registers and this process, and ended so
pub record TurnStands (t : Turn) (registers : Cpu) (old new : Task) (ended : TurnEnd) : Type 0 where
  pub cpu : registers ≡ t.state.cpu
  pub task : new ≡ record old { memory = t.state.memory }
  pub end : ended ≡ t.end

-- the same, where the process is there; where it isn't, nothing happens
abbrev pub SlotTurns : ℕ → Cpu → Option Task → Cpu → Option Task → Option TurnEnd → Type 0
SlotTurns budget cpu (Some old) new_cpu (Some new) (Some end) = TurnStands (turn budget (state cpu old.memory)) new_cpu old new end
SlotTurns budget cpu None new_cpu None None = new_cpu ≡ cpu
SlotTurns budget cpu _ new_cpu _ _ = ⊥
