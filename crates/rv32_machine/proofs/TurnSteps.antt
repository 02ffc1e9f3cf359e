-- How a turn goes on by one instruction.
use Rattle.std.proofs.Common.{◌≡◌, ℕ, suc, ◌+◌, ◌-◌, ◌<◌, ap, ◌∙◌, Option, Some, arith}
use Rattle.guest_mem.specs.Memory.{Memory, load}
use Rattle.guest_mem.specs.declared.right.Right.TheVariants as right
use Rattle.rv32_machine.specs.Encoding.{decoded}
use Rattle.rv32_machine.specs.Table.{State, After, executed, fetched, insn, state, after}
use Rattle.rv32_machine.specs.Turn.{Turn, turn, turn_from, one_more, end_of, ran_before}
use Rattle.rv32_machine.specs.declared.cpu.Cpu.{Cpu}
use Rattle.rv32_machine.specs.declared.outcome.Outcome.{Outcome}
use Rattle.rv32_machine.specs.declared.outcome.Outcome.TheVariants as outcome
use Rattle.rv32_machine.specs.declared.outcome.TurnEnd.{TurnEnd}
use Rattle.rv32_machine.specs.declared.outcome.TurnEnd.TheVariants as end
use Rattle.elf_load.specs.Room.{instruction_size}

-- the turn that begins with this instruction
turn_by : ℕ → After → Turn
turn_by n a = turn_from a.state a.outcome (turn n a.state)

-- an instruction that neither calls nor traps
pub turn_next : (budget k : ℕ) (s : State) (cpu : Cpu) (m : Memory) → k < budget → insn s ≡ after cpu m outcome.Next →
    ran_before k (turn (budget - k) s) ≡ ran_before (k + 1) (turn (budget - (k + 1)) (state cpu m))
unfolding turn turn_by
turn_next budget k s cpu m below is =
    let one : budget - k ≡ suc (budget - (k + 1)) = omega arith in
    let begins : turn (budget - k) s ≡ turn_by (budget - (k + 1)) (insn s) = ap (λ (n : ℕ). turn n s) one in
    let so : turn_by (budget - (k + 1)) (insn s) ≡ one_more (turn (budget - (k + 1)) (state cpu m)) = ap (turn_by (budget - (k + 1))) is in
    let moved : (r : ℕ) → k + suc r ≡ k + 1 + r = λ r. omega arith in
    ap (ran_before k) (begins ∙ so) ∙ ap (λ (r : ℕ). record (turn (budget - (k + 1)) (state cpu m)) { ran = r }) (moved _)

-- an instruction that ends the turn
pub turn_end : (budget k : ℕ) (s : State) (cpu : Cpu) (m : Memory) (o : Outcome) (e : TurnEnd) → k < budget → insn s ≡ after cpu m o → end_of o ≡ Some e →
    turn (budget - k) s ≡ record { state = state cpu m; end = e; ran = 1 }
unfolding turn turn_by
turn_end budget k s cpu m o e below is ends =
    let one : budget - k ≡ suc (budget - (k + 1)) = omega arith in
    let begins : turn (budget - k) s ≡ turn_by (budget - (k + 1)) (insn s) = ap (λ (n : ℕ). turn n s) one in
    begins ∙ ap (turn_by (budget - (k + 1))) is ∙ ended (state cpu m) o e (turn (budget - (k + 1)) (state cpu m)) ends
  where
    ended : (s : State) (o : Outcome) (e : TurnEnd) (rest : Turn) → end_of o ≡ Some e → turn_from s o rest ≡ record { state = s; end = e; ran = 1 }
    ended s outcome.Next e rest h = cc
    ended s outcome.Call e rest h = cc
    ended s (outcome.Trap g) e rest h = cc

-- the turn as a whole, where its instruction number k + 1 ends it
pub turn_whole : (budget k : ℕ) (s0 s : State) (cpu : Cpu) (m : Memory) (o : Outcome) (e : TurnEnd) → k < budget →
    turn budget s0 ≡ ran_before k (turn (budget - k) s) → insn s ≡ after cpu m o → end_of o ≡ Some e →
    turn budget s0 ≡ record { state = state cpu m; end = e; ran = k + 1 }
turn_whole budget k s0 s cpu m o e below same is ends = same ∙ ap (ran_before k) (turn_end budget k s cpu m o e below is ends)

-- the turn as a whole, where the budget ran
pub turn_spent : (budget k : ℕ) (s0 : State) (cpu : Cpu) (m : Memory) → k ≡ budget →
    turn budget s0 ≡ ran_before k (turn (budget - k) (state cpu m)) →
    turn budget s0 ≡ record { state = state cpu m; end = end.Spent; ran = budget }
unfolding turn
turn_spent budget k s0 cpu m all same =
    let none : budget - k ≡ 0 = omega arith in
    let whole : k + 0 ≡ budget = omega arith in
    same ∙ ap (λ (n : ℕ). ran_before k (turn n (state cpu m))) none ∙ ap (λ (r : ℕ). record { state = state cpu m; end = end.Spent; ran = r }) whole

-- the instruction whose word was fetched
pub fetched_insn : (s : State) (word : ℕ) (a : After) → load right.Execute instruction_size s.memory s.cpu.pc ≡ Some word → executed (decoded word) word s ≡ a → insn s ≡ a
unfolding insn
fetched_insn s word a there is = ap (λ (w : Option ℕ). fetched w s) there ∙ is

-- a turn of which first k and then j instructions ran
pub ran_more : (budget k j : ℕ) (s0 s t : State) → turn budget s0 ≡ ran_before k (turn (budget - k) s) → turn (budget - k) s ≡ ran_before j (turn (budget - k - j) t) →
    turn budget s0 ≡ ran_before (k + j) (turn (budget - (k + j)) t)
ran_more budget k j s0 s t first then_ =
    let rest : budget - k - j ≡ budget - (k + j) = omega arith in
    let moved : (r : ℕ) → k + (j + r) ≡ k + j + r = λ r. omega arith in
    first ∙ ap (ran_before k) then_ ∙ ap (λ (n : ℕ). ran_before k (ran_before j (turn n t))) rest
    ∙ ap (λ (r : ℕ). record (turn (budget - (k + j)) t) { ran = r }) (moved _)

-- a turn of which no instruction ran yet
pub ran_none : (budget : ℕ) (s : State) → turn budget s ≡ ran_before 0 (turn (budget - 0) s)
ran_none budget s =
    let all : budget ≡ budget - 0 = omega arith in
    let none : (r : ℕ) → r ≡ 0 + r = λ r. omega arith in
    ap (λ (n : ℕ). turn n s) all ∙ ap (λ (r : ℕ). record (turn (budget - 0) s) { ran = r }) (none _)
