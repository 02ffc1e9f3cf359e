-- what instructions leave of a memory of bytes
use Rattle.std.proofs.Common.{None, Option, Some, suc, zero, ℕ, ◌%◌, ◌*◌, ◌/◌, ◌^◌}
use Rattle.elf_load.specs.Room.{instruction_size}
use Rattle.guest_mem.specs.Memory.{Memory, load, store}
use Rattle.run_fits.proofs.Memories.{MayHaveBytes, stored_low}
use Rattle.run_fits.specs.Bytes.{HasBytes}
use Rattle.rv32_machine.specs.Arithmetic.{is_taken, modified, sum}
use Rattle.rv32_machine.specs.Encoding.{decoded}
use Rattle.rv32_machine.specs.Table.{After, State, conditional_ends, effect, executed, fetched, following, is_reserved, jumps, sets, load_ends, loaded, modifies, modify_ends, reserves, source1, source2, store_ends, stored, where_aligned}
use Rattle.rv32_machine.specs.Turn.{Turn, turn, turn_from}
use Rattle.rv32_machine.specs.Word.{b_immediate, i_immediate, is_aligned, j_immediate, s_immediate, word_size}
use Rattle.rv32_machine.specs.declared.cpu.Cpu.{Cpu}
use Rattle.rv32_machine.specs.declared.instruction.Store.{Store}
use Rattle.rv32_machine.specs.declared.instruction.Store.TheVariants.{Sb, Sh, Sw}
use Rattle.tcp_laws.proofs.Tests.{by_test}
use Rattle.rv32_machine.specs.Table as table
use Rattle.rv32_machine.specs.declared.instruction.Insn.{Insn}
use Rattle.rv32_machine.specs.declared.instruction.Insn.TheVariants as insn
use Rattle.rv32_machine.specs.declared.instruction.Amo.{Amo as AmoKind}
use Rattle.rv32_machine.specs.declared.outcome.Outcome.{Outcome}
use Rattle.rv32_machine.specs.declared.outcome.Outcome.TheVariants as outcome
use Rattle.guest_mem.specs.declared.right.Right.TheVariants as right

abbrev M : After → Type 0
M a = HasBytes a.state.memory

jumping : (target : ℕ) (cpu : Cpu) (s : State) → HasBytes s.memory → M (jumps target cpu s)
jumping target cpu s h = by_test M (is_aligned target) _ _ (λ e. h) (λ e. h)

load_kept : (found : Option ℕ) (word : ℕ) (s : State) → HasBytes s.memory → M (load_ends found word s)
load_kept None word s h = h
load_kept (Some n) word s h = h

store_kept : (left : Option Memory) (s : State) → MayHaveBytes left → HasBytes s.memory → M (store_ends left s)
store_kept None s may h = h
store_kept (Some memory) s may h = may

stored_in : (kind : Store) (memory : Memory) (address n : ℕ) → HasBytes memory → MayHaveBytes (stored kind memory address n)
stored_in Sb memory address n h = stored_low 1 memory address (n % 2 ^ 8) h
stored_in Sh memory address n h = stored_low 2 memory address (n % 2 ^ 16) h
stored_in Sw memory address n h = stored_low word_size memory address n h

reserve_kept : (found : Option ℕ) (word : ℕ) (s : State) → HasBytes s.memory → M (reserves found word s)
reserve_kept None word s h = h
reserve_kept (Some n) word s h = h

aligned_kept : (address : ℕ) (a : After) (s : State) → M a → HasBytes s.memory → M (where_aligned address a s)
aligned_kept address a s k h = by_test M (is_aligned address) _ _ (λ e. k) (λ e. h)

conditional_kept : (left : Option Memory) (word : ℕ) (s : State) → MayHaveBytes left → HasBytes s.memory → M (conditional_ends left word s)
conditional_kept None word s may h = h
conditional_kept (Some memory) word s may h = may

modify_kept : (left : Option Memory) (old word : ℕ) (s : State) → MayHaveBytes left → HasBytes s.memory → M (modify_ends left old word s)
modify_kept None old word s may h = h
modify_kept (Some memory) old word s may h = may

modifying : (found : Option ℕ) (amo : AmoKind) (word : ℕ) (s : State) → HasBytes s.memory → M (modifies found amo word s)
modifying None amo word s h = h
modifying (Some old) amo word s h =
    modify_kept (store word_size s.memory (source1 word s) (modified amo old (source2 word s))) old word s
    (stored_low word_size s.memory (source1 word s) (modified amo old (source2 word s)) h) h

-- the table
effect_kept : (instruction : Insn) (word : ℕ) (s : State) → HasBytes s.memory → M (effect instruction word s)
effect_kept (insn.Immediate operation) word s h = h
effect_kept insn.Lui word s h = h
effect_kept insn.Auipc word s h = h
effect_kept (insn.Register operation) word s h = h
effect_kept insn.Jal word s h = jumping (sum s.cpu.pc (j_immediate word)) (sets word (following s.cpu) s.cpu) s h
effect_kept insn.Jalr word s h = jumping (sum (source1 word s) (i_immediate word) / 2 * 2) (sets word (following s.cpu) s.cpu) s h
effect_kept (insn.Branch branch) word s h =
    by_test M (is_taken branch (source1 word s) (source2 word s)) _ _ (λ e. jumping (sum s.cpu.pc (b_immediate word)) s.cpu s h) (λ e. h)
effect_kept (insn.Load kind) word s h = load_kept (loaded kind s.memory (sum (source1 word s) (i_immediate word))) word s h
effect_kept (insn.Store kind) word s h =
    store_kept (stored kind s.memory (sum (source1 word s) (s_immediate word)) (source2 word s)) s
    (stored_in kind s.memory (sum (source1 word s) (s_immediate word)) (source2 word s) h) h
effect_kept insn.Fence word s h = h
effect_kept insn.FenceI word s h = h
effect_kept insn.Ecall word s h = h
effect_kept insn.Ebreak word s h = h
effect_kept insn.LrW word s h =
    aligned_kept (source1 word s) _ s (reserve_kept (load right.Read word_size s.memory (source1 word s)) word s h) h
effect_kept insn.ScW word s h =
    aligned_kept (source1 word s) _ s
    (by_test M (is_reserved (source1 word s) s.cpu) _ _
    (λ e.
    conditional_kept (store word_size s.memory (source1 word s) (source2 word s)) word s
    (stored_low word_size s.memory (source1 word s) (source2 word s) h) h)
    (λ e. h))
    h
effect_kept (insn.Amo amo) word s h =
    aligned_kept (source1 word s) _ s (modifying (load right.Read word_size s.memory (source1 word s)) amo word s h) h

executed_kept : (found : Option Insn) (word : ℕ) (s : State) → HasBytes s.memory → M (executed found word s)
executed_kept None word s h = h
executed_kept (Some instruction) word s h = effect_kept instruction word s h

fetched_kept : (found : Option ℕ) (s : State) → HasBytes s.memory → M (fetched found s)
fetched_kept None s h = h
fetched_kept (Some word) s h = executed_kept (decoded word) word s h

step_kept : (s : State) → HasBytes s.memory → M (table.insn s)
unfolding table.insn
step_kept s h = fetched_kept (load right.Execute instruction_size s.memory s.cpu.pc) s h

turn_from_kept : (s : State) (o : Outcome) (rest : Turn) → HasBytes s.memory → HasBytes rest.state.memory → HasBytes (turn_from s o rest).state.memory
turn_from_kept s outcome.Next rest h k = k
turn_from_kept s outcome.Call rest h k = h
turn_from_kept s (outcome.Trap cause) rest h k = h

-- a turn of the machine
pub turn_kept : (budget : ℕ) (s : State) → HasBytes s.memory → HasBytes (turn budget s).state.memory
unfolding turn
turn_kept zero s h = h
turn_kept (suc n) s h =
    let after = step_kept s h in
    turn_from_kept (table.insn s).state (table.insn s).outcome (turn n (table.insn s).state) after (turn_kept n (table.insn s).state after)
