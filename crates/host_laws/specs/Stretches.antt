-- The stretches of a slice: what a process runs from one call to the next.
use Rattle.std.specs.Prelude.{◌≡◌, ℕ, suc, ◌≤◌, List, [], ◌∷◌, All, Option, Some, None, slice_get}
use Rattle.sim_base.specs.declared.state.State.{State}
use Rattle.rv32_machine.specs.declared.cpu.Cpu.{Cpu}
use Rattle.rv32_machine.specs.Table.{state}
use Rattle.rv32_machine.specs.Turn.{turn}
use Rattle.file_calls.specs.declared.task.Task.{Task}
use Rattle.host_link.specs.Net.{Net}
use Rattle.host_state.specs.Step as step
use Rattle.host_state.specs.HostRecord.{HostRecord}
use Rattle.host_state.specs.Slice.{pause, runs_to_call, rests, has_ended, goes_later}

-- how many instructions a process runs up to its next call, to a trap, or until its budget is spent
abbrev pub instructions : Net → Cpu → Option (Option Task) → ℕ
instructions net cpu None = 0
instructions net cpu (Some None) = 0
instructions net cpu (Some (Some task)) = (turn net.budget (state cpu task.memory)).ran

abbrev pub stretch : Net → ℕ → Cpu → HostRecord → ℕ
stretch net p cpu host = instructions net cpu (slice_get host.parts.tasks p)

-- a slice with so many answered calls and these stretches leads to a host: the process pauses, or a call blocks it, or it ends
pub data IsSlice (net : Net) (p : ℕ) (last : HostRecord) : ℕ → List ℕ → Cpu → HostRecord → Type 0 where
  pauses : (cpu : Cpu) (host : HostRecord) → goes_later pause p cpu host ≡ last → IsSlice net p last 0 [] cpu host
  blocks : (cpu next : Cpu) (host after : HostRecord) → runs_to_call net p cpu host ≡ (step.Blocks next, after) → rests p next after ≡ last
      → IsSlice net p last 0 (stretch net p cpu host ∷ []) cpu host
  ends : (cpu : Cpu) (state : State) (host after : HostRecord) → runs_to_call net p cpu host ≡ (step.Ends state, after) → has_ended p state after ≡ last
      → IsSlice net p last 0 (stretch net p cpu host ∷ []) cpu host
  answers : (cpu next : Cpu) (host after : HostRecord) (answered : ℕ) (stretches : List ℕ) → runs_to_call net p cpu host ≡ (step.GoesOn next, after)
      → IsSlice net p last answered stretches next after → IsSlice net p last (suc answered) (stretch net p cpu host ∷ stretches) cpu host

-- a slice that has at most so many answered calls, and in each stretch at most the budget's instructions
pub record IsShortSlice (net : Net) (p most : ℕ) (last : HostRecord) (cpu : Cpu) (host : HostRecord) : Type 0 where
  pub answered : ℕ
  pub stretches : List ℕ
  pub slice : IsSlice net p last answered stretches cpu host
  pub few : answered ≤ most
  pub within : All (λ n. n ≤ net.budget) stretches
