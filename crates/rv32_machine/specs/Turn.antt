-- A turn of the machine: instructions up to the first that calls or traps, or as many as a budget allows.
use Rattle.std.specs.Prelude.{◌≡◌, ℕ, zero, suc, ◌+◌, ◌-◌, ◌≤◌, ◌⊎◌, Option, None, Some}
use Rattle.rv32_machine.specs.Table.{State, insn}
use Rattle.rv32_machine.specs.declared.outcome.Outcome.{Outcome}
use Rattle.rv32_machine.specs.declared.outcome.Outcome.TheVariants as outcome
use Rattle.rv32_machine.specs.declared.outcome.TurnEnd.{TurnEnd}
use Rattle.rv32_machine.specs.declared.outcome.TurnEnd.TheVariants as end

-- what a turn leaves, how it ended, and how many instructions ran
pub record Turn : Type 0 where
  pub state : State
  pub end : TurnEnd
  pub ran : ℕ

-- ---- the relation

-- the state after n instructions, each of which runs in the state that the one before it left
unfoldable pub state_after : ℕ → State → State
state_after zero s = s
state_after (suc n) s = (insn (state_after n s)).state

-- whether the k-th instruction calls or traps, counted from 1
unfoldable pub outcome_of : ℕ → State → Outcome
outcome_of k s = (insn (state_after (k - 1) s)).outcome

-- the turn's end by an instruction that calls or traps
abbrev pub end_of : Outcome → Option TurnEnd
end_of outcome.Next = None
end_of outcome.Call = Some end.Call
end_of (outcome.Trap signal) = Some (end.Trap signal)

-- of the first k instructions none calls or traps
abbrev pub GoesOn : ℕ → State → Type 0
GoesOn k s = (j : ℕ) → 1 ≤ j → j ≤ k → outcome_of j s ≡ outcome.Next

-- the k-th instruction is the first one that calls or traps, and ends the turn so
pub record IsEndedBy (k : ℕ) (s : State) (e : TurnEnd) : Type 0 where
  pub counted : 1 ≤ k
  pub before : GoesOn (k - 1) s
  pub ends : end_of (outcome_of k s) ≡ Some e

-- the turn's state is the one after the least k from 1 to the budget whose k-th instruction calls or traps;
-- if there is none, the one after the budget, and the turn's end is `Spent`
pub record IsTurn (budget : ℕ) (s : State) (t : Turn) : Type 0 where
  pub state : t.state ≡ state_after t.ran s
  pub end : ((t.ran ≤ budget) × IsEndedBy t.ran s t.end) ⊎ ((t.ran ≡ budget) × GoesOn budget s × (t.end ≡ end.Spent))

-- ---- the same as a function of the budget

-- the turn with one more instruction in front
abbrev pub one_more : Turn → Turn
one_more t = record t { ran = suc t.ran }

-- the turn that begins with this instruction, and goes on so if it neither calls nor traps
abbrev pub turn_from : State → Outcome → Turn → Turn
turn_from s outcome.Next rest = one_more rest
turn_from s outcome.Call rest = record { state = s; end = end.Call; ran = 1 }
turn_from s (outcome.Trap signal) rest = record { state = s; end = end.Trap signal; ran = 1 }

unfoldable pub turn : ℕ → State → Turn
turn zero s = record { state = s; end = end.Spent; ran = 0 }
turn (suc n) s = turn_from (insn s).state (insn s).outcome (turn n (insn s).state)

-- the turn, before which k instructions ran
abbrev pub ran_before : ℕ → Turn → Turn
ran_before k t = record t { ran = k + t.ran }
