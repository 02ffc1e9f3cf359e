-- Laws of the table: a trap leaves the state as it was, a call only moves pc behind itself and ends the reservation, and
-- of the other instructions LR.W and SC.W alone touch the reservation.
use Rattle.std.proofs.Common.{◌≡◌, ℕ, Bool, true, false, Option, Some, None, ◌*◌, ◌/◌, ◌≢◌, refl, subst, if◌then◌else◌}
use Rattle.std.specs.Prelude.{◌==◌, slice_set}
use Rattle.sim_base.specs.declared.signal.Signal.{Signal}
use Rattle.sim_base.specs.declared.signal.Signal.TheVariants.{SigBus}
use Rattle.guest_mem.specs.Memory.{Memory, load, store}
use Rattle.guest_mem.specs.declared.right.Right.TheVariants as right
use Rattle.rv32_machine.specs.Word.{rd, i_immediate, b_immediate, j_immediate, is_aligned, word_size}
use Rattle.rv32_machine.specs.Arithmetic.{sum, is_taken, modified}
use Rattle.rv32_machine.specs.Table.{State, After, source1, source2, traps, goes_on, advanced, at, sets, following, with_reservation, is_reserved, jumps, load_ends, store_ends, reserves, answers, conditional_ends, modify_ends, modifies, effect, executed, fetched, insn}
use Rattle.rv32_machine.specs.declared.cpu.Cpu.{Cpu}
use Rattle.rv32_machine.specs.declared.outcome.Outcome.{Outcome}
use Rattle.rv32_machine.specs.declared.outcome.Outcome.TheVariants as outcome
use Rattle.rv32_machine.specs.declared.instruction.Amo.{Amo as AmoKind}
use Rattle.rv32_machine.specs.declared.instruction.Insn.{Insn}
use Rattle.rv32_machine.specs.declared.instruction.Insn.TheVariants.{Lui, Auipc, Jal, Jalr, Branch, Load, Store, Immediate, Register, Fence, FenceI, Ecall, Ebreak, LrW, ScW, Amo}
use Rattle.elf_load.specs.Room.{instruction_size}

-- what an instruction leaves, by how it ends
pub LeavesBy : Outcome → State → State → Type 0
LeavesBy outcome.Next s t = Unit {0}
LeavesBy outcome.Call s t = t ≡ record s { cpu = advanced (with_reservation None s.cpu) }
LeavesBy (outcome.Trap g) s t = t ≡ s

IsKept : State → After → Type 0
IsKept s a = LeavesBy a.outcome s a.state

jump_kept : (s : State) (cpu : Cpu) (b : Bool) (g : Signal) → IsKept s (if b then goes_on cpu s else traps g s)
unfolding IsKept LeavesBy
jump_kept s cpu true g = tt
jump_kept s cpu false g = refl

branch_kept : (s : State) (b : Bool) (target : ℕ) →
    IsKept s (if b then jumps target s.cpu s else goes_on (advanced s.cpu) s)
unfolding IsKept LeavesBy
branch_kept s true target = jump_kept s (at target s.cpu) (is_aligned target) SigBus
branch_kept s false target = tt

load_kept : (s : State) (word : ℕ) (o : Option ℕ) → IsKept s (load_ends o word s)
unfolding IsKept LeavesBy
load_kept s word None = refl
load_kept s word (Some n) = tt

store_kept : (s : State) (o : Option Memory) → IsKept s (store_ends o s)
unfolding IsKept LeavesBy
store_kept s None = refl
store_kept s (Some m) = tt

aligned_kept : (s : State) (b : Bool) (a : After) → IsKept s a → IsKept s (if b then a else traps SigBus s)
unfolding IsKept LeavesBy
aligned_kept s true a is = is
aligned_kept s false a is = refl

reserve_kept : (s : State) (word : ℕ) (o : Option ℕ) → IsKept s (reserves o word s)
unfolding IsKept LeavesBy
reserve_kept s word None = refl
reserve_kept s word (Some n) = tt

conditional_kept : (s : State) (word : ℕ) (b : Bool) (o : Option Memory) → IsKept s (if b then conditional_ends o word s else answers 1 word s)
unfolding IsKept LeavesBy
conditional_kept s word true None = refl
conditional_kept s word true (Some m) = tt
conditional_kept s word false o = tt

modified_kept : (s : State) (word old : ℕ) (o : Option Memory) → IsKept s (modify_ends o old word s)
unfolding IsKept LeavesBy
modified_kept s word old None = refl
modified_kept s word old (Some m) = tt

modify_kept : (s : State) (amo : AmoKind) (word : ℕ) (o : Option ℕ) → IsKept s (modifies o amo word s)
unfolding IsKept LeavesBy
modify_kept s amo word None = refl
modify_kept s amo word (Some old) = modified_kept s word old (store word_size s.memory (source1 word s) (modified amo old (source2 word s)))

effect_kept : (i : Insn) (word : ℕ) (s : State) → IsKept s (effect i word s)
unfolding IsKept LeavesBy
effect_kept (Immediate operation) word s = tt
effect_kept Lui word s = tt
effect_kept Auipc word s = tt
effect_kept (Register operation) word s = tt
effect_kept Jal word s = jump_kept s _ (is_aligned (sum s.cpu.pc (j_immediate word))) SigBus
effect_kept Jalr word s = jump_kept s _ (is_aligned (sum (source1 word s) (i_immediate word) / 2 * 2)) SigBus
effect_kept (Branch branch) word s = branch_kept s (is_taken branch (source1 word s) (source2 word s)) (sum s.cpu.pc (b_immediate word))
effect_kept (Load kind) word s = load_kept s word _
effect_kept (Store kind) word s = store_kept s _
effect_kept Fence word s = tt
effect_kept FenceI word s = tt
effect_kept Ecall word s = refl
effect_kept Ebreak word s = refl
effect_kept LrW word s = aligned_kept s (is_aligned (source1 word s)) _ (reserve_kept s word (load right.Read word_size s.memory (source1 word s)))
effect_kept ScW word s =
    aligned_kept s (is_aligned (source1 word s)) _
    (conditional_kept s word (is_reserved (source1 word s) s.cpu) (store word_size s.memory (source1 word s) (source2 word s)))
effect_kept (Amo amo) word s = aligned_kept s (is_aligned (source1 word s)) _ (modify_kept s amo word (load right.Read word_size s.memory (source1 word s)))

executed_kept : (o : Option Insn) (word : ℕ) (s : State) → IsKept s (executed o word s)
unfolding IsKept LeavesBy
executed_kept None word s = refl
executed_kept (Some i) word s = effect_kept i word s

fetched_kept : (o : Option ℕ) (s : State) → IsKept s (fetched o s)
unfolding IsKept LeavesBy
fetched_kept None s = refl
fetched_kept (Some word) s = executed_kept _ word s

kept : (s : State) → IsKept s (insn s)
unfolding insn
kept s = fetched_kept (load right.Execute instruction_size s.memory s.cpu.pc) s

-- an instruction that traps leaves the state as it was
pub insn_trap : (s : State) (g : Signal) → (insn s).outcome ≡ outcome.Trap g → (insn s).state ≡ s
unfolding IsKept LeavesBy
insn_trap s g is = let P : Outcome → Type 0 = λ o. LeavesBy o s (insn s).state in subst P is (kept s)

-- an instruction that calls leaves the state as it was, but for pc, which stands behind it, and the reservation, which ends
pub insn_call : (s : State) → (insn s).outcome ≡ outcome.Call → (insn s).state ≡ record s { cpu = advanced (with_reservation None s.cpu) }
unfolding IsKept LeavesBy
insn_call s is = let P : Outcome → Type 0 = λ o. LeavesBy o s (insn s).state in subst P is (kept s)

-- ---- the reservation

IsUntouched : State → After → Type 0
IsUntouched s a = a.state.cpu.reservation ≡ s.cpu.reservation

picked : (z : Option ℕ) (b : Bool) (x y : Cpu) → x.reservation ≡ z → y.reservation ≡ z → (if b then x else y).reservation ≡ z
picked z true x y p q = p
picked z false x y p q = q

set_untouched : (word n : ℕ) (cpu : Cpu) → (sets word n cpu).reservation ≡ cpu.reservation
set_untouched word n cpu = picked cpu.reservation (rd word == 0) cpu (record cpu { x = slice_set cpu.x (rd word) n }) refl refl

jump_untouched : (s : State) (cpu : Cpu) (b : Bool) (target : ℕ) → cpu.reservation ≡ s.cpu.reservation → IsUntouched s (if b then goes_on (at target cpu) s else traps SigBus s)
unfolding IsUntouched
jump_untouched s cpu true target same = same
jump_untouched s cpu false target same = refl

branch_untouched : (s : State) (b : Bool) (target : ℕ) → IsUntouched s (if b then jumps target s.cpu s else goes_on (advanced s.cpu) s)
unfolding IsUntouched
branch_untouched s true target = jump_untouched s s.cpu (is_aligned target) target refl
branch_untouched s false target = refl

load_untouched : (s : State) (word : ℕ) (o : Option ℕ) → IsUntouched s (load_ends o word s)
unfolding IsUntouched
load_untouched s word None = refl
load_untouched s word (Some n) = set_untouched word n s.cpu

store_untouched : (s : State) (o : Option Memory) → IsUntouched s (store_ends o s)
unfolding IsUntouched
store_untouched s None = refl
store_untouched s (Some m) = refl

aligned_untouched : (s : State) (b : Bool) (a : After) → IsUntouched s a → IsUntouched s (if b then a else traps SigBus s)
unfolding IsUntouched
aligned_untouched s true a is = is
aligned_untouched s false a is = refl

modified_untouched : (s : State) (word old : ℕ) (o : Option Memory) → IsUntouched s (modify_ends o old word s)
unfolding IsUntouched
modified_untouched s word old None = refl
modified_untouched s word old (Some m) = set_untouched word old s.cpu

modify_untouched : (s : State) (amo : AmoKind) (word : ℕ) (o : Option ℕ) → IsUntouched s (modifies o amo word s)
unfolding IsUntouched
modify_untouched s amo word None = refl
modify_untouched s amo word (Some old) = modified_untouched s word old (store word_size s.memory (source1 word s) (modified amo old (source2 word s)))

-- LR.W, SC.W and ECALL alone touch the reservation
pub effect_reservation : (i : Insn) (word : ℕ) (s : State) → i ≢ LrW → i ≢ ScW → i ≢ Ecall → (effect i word s).state.cpu.reservation ≡ s.cpu.reservation
unfolding IsUntouched
effect_reservation (Immediate operation) word s a b c = set_untouched word _ s.cpu
effect_reservation Lui word s a b c = set_untouched word _ s.cpu
effect_reservation Auipc word s a b c = set_untouched word _ s.cpu
effect_reservation (Register operation) word s a b c = set_untouched word _ s.cpu
effect_reservation Jal word s a b c = jump_untouched s (sets word (following s.cpu) s.cpu) (is_aligned (sum s.cpu.pc (j_immediate word))) _ (set_untouched word _ s.cpu)
effect_reservation Jalr word s a b c =
    jump_untouched s (sets word (following s.cpu) s.cpu) (is_aligned (sum (source1 word s) (i_immediate word) / 2 * 2)) _ (set_untouched word _ s.cpu)
effect_reservation (Branch branch) word s a b c = branch_untouched s (is_taken branch (source1 word s) (source2 word s)) (sum s.cpu.pc (b_immediate word))
effect_reservation (Load kind) word s a b c = load_untouched s word _
effect_reservation (Store kind) word s a b c = store_untouched s _
effect_reservation Fence word s a b c = refl
effect_reservation FenceI word s a b c = refl
effect_reservation Ecall word s a b c = absurd (c refl)
effect_reservation Ebreak word s a b c = refl
effect_reservation LrW word s a b c = absurd (a refl)
effect_reservation ScW word s a b c = absurd (b refl)
effect_reservation (Amo amo) word s a b c = aligned_untouched s (is_aligned (source1 word s)) _ (modify_untouched s amo word (load right.Read word_size s.memory (source1 word s)))
