-- The table of instructions: what each makes of the registers and the memory. A row an instruction, in the
-- order of the RISC-V unprivileged manual, 2.4 to 2.8 and the extension A; `value`, `is_taken` and `modified` have
-- the rows of the operations, the branches and the atomic memory operations.
use Rattle.std.specs.Prelude.{ℕ, ◌*◌, ◌/◌, ◌%◌, ◌^◌, ◌==◌, Bool, false, if◌then◌else◌, Option, None, Some, slice_index, slice_set}
use Rattle.std.specs.Option.{option_map}
use Rattle.sim_base.specs.declared.signal.Signal.{Signal}
use Rattle.sim_base.specs.declared.signal.Signal.TheVariants.{SigIll, SigTrap, SigBus, SigSegv}
use Rattle.guest_mem.specs.Memory.{Memory, load, store}
use Rattle.guest_mem.specs.declared.right.Right.TheVariants as right
use Rattle.rv32_machine.specs.Word.{rd, rs1, rs2, sign_extended, i_immediate, s_immediate, b_immediate, u_immediate, j_immediate, is_aligned, word_size}
use Rattle.rv32_machine.specs.Arithmetic.{sum, value, is_taken, modified}
use Rattle.rv32_machine.specs.Encoding.{decoded}
use Rattle.rv32_machine.specs.declared.cpu.Cpu.{Cpu}
use Rattle.rv32_machine.specs.declared.outcome.Outcome.{Outcome}
use Rattle.rv32_machine.specs.declared.outcome.Outcome.TheVariants as outcome
use Rattle.rv32_machine.specs.declared.instruction.Insn.{Insn}
use Rattle.rv32_machine.specs.declared.instruction.Insn.TheVariants.{Lui, Auipc, Jal, Jalr, Branch, Load, Store, Immediate, Register, Fence, FenceI, Ecall, Ebreak, LrW, ScW, Amo}
use Rattle.rv32_machine.specs.declared.instruction.Amo.{Amo as AmoKind}
use Rattle.rv32_machine.specs.declared.instruction.Load.{Load as LoadKind}
use Rattle.rv32_machine.specs.declared.instruction.Load.TheVariants.{Lb, Lh, Lw, Lbu, Lhu}
use Rattle.rv32_machine.specs.declared.instruction.Store.{Store as StoreKind}
use Rattle.rv32_machine.specs.declared.instruction.Store.TheVariants.{Sb, Sh, Sw}
use Rattle.elf_load.specs.Room.{instruction_size}

-- the registers with the reservation, and the memory
pub record State : Type 0 where
  pub cpu : Cpu
  pub memory : Memory

-- what an instruction leaves, and whether it calls or traps
pub record After : Type 0 where
  pub state : State
  pub outcome : Outcome

-- ---- 2.1: the registers

-- how many registers there are
abbrev pub register_count : ℕ
register_count = 32

-- register r, of which register 0 reads 0
abbrev pub register : ℕ → Cpu → ℕ
register r cpu = if r == 0 then 0 else slice_index cpu.x r

-- register r is n from now on, but register 0 takes nothing
abbrev pub with_register : ℕ → ℕ → Cpu → Cpu
with_register r n cpu = if r == 0 then cpu else record cpu { x = slice_set cpu.x r n }

-- the values of the registers that the word names as rs1 and rs2
abbrev pub source1 : ℕ → State → ℕ
source1 word s = register (rs1 word) s.cpu

abbrev pub source2 : ℕ → State → ℕ
source2 word s = register (rs2 word) s.cpu

-- pc stands at the address from now on
abbrev pub at : ℕ → Cpu → Cpu
at address cpu = record cpu { pc = address }

-- the address behind this instruction
abbrev pub following : Cpu → ℕ
following cpu = sum cpu.pc instruction_size

abbrev pub advanced : Cpu → Cpu
advanced cpu = at (following cpu) cpu

-- ---- how an instruction ends

-- it traps, and leaves the state as it was
abbrev pub traps : Signal → State → After
traps signal s = record { state = s; outcome = outcome.Trap signal }

-- the next instruction follows, with these registers
abbrev pub goes_on : Cpu → State → After
goes_on cpu s = record { state = record s { cpu = cpu }; outcome = outcome.Next }

-- rd is n from now on
abbrev pub sets : ℕ → ℕ → Cpu → Cpu
sets word n cpu = with_register (rd word) n cpu

abbrev pub computes : ℕ → ℕ → State → After
computes word n s = goes_on (advanced (sets word n s.cpu)) s

-- 2.5: instructions stand at multiples of their size; for a jump or a taken branch to any other target this project's own
-- profile has SIGBUS
abbrev pub jumps : ℕ → Cpu → State → After
jumps target cpu s = if is_aligned target then goes_on (at target cpu) s else traps SigBus s

-- ---- 2.6: loads and stores; this project's own profile has SIGSEGV for an address that isn't mapped with the right

-- the word that a load puts into rd
abbrev pub loaded : LoadKind → Memory → ℕ → Option ℕ
loaded Lb m address = option_map (sign_extended 8) (load right.Read 1 m address)
loaded Lh m address = option_map (sign_extended 16) (load right.Read 2 m address)
loaded Lw m address = load right.Read word_size m address
loaded Lbu m address = load right.Read 1 m address
loaded Lhu m address = load right.Read 2 m address

-- the memory after a store of the lower bits of n
abbrev pub stored : StoreKind → Memory → ℕ → ℕ → Option Memory
stored Sb m address n = store 1 m address (n % 2 ^ 8)
stored Sh m address n = store 2 m address (n % 2 ^ 16)
stored Sw m address n = store word_size m address n

abbrev pub load_ends : Option ℕ → ℕ → State → After
load_ends None word s = traps SigSegv s
load_ends (Some n) word s = computes word n s

abbrev pub store_ends : Option Memory → State → After
store_ends None s = traps SigSegv s
store_ends (Some m) s = goes_on (advanced s.cpu) (record s { memory = m })

-- ---- the extension A: this project's own profile has SIGBUS for an address that isn't a word's, and after that
-- SIGSEGV for one that isn't mapped with the rights. A trap leaves the reservation as it was

-- whether the address is the reserved one
abbrev pub is_at : ℕ → Option ℕ → Bool
is_at address None = false
is_at address (Some reserved) = reserved == address

abbrev pub is_reserved : ℕ → Cpu → Bool
is_reserved address cpu = is_at address cpu.reservation

-- the reservation is this one from now on
abbrev pub with_reservation : Option ℕ → Cpu → Cpu
with_reservation reserved cpu = record cpu { reservation = reserved }

abbrev pub where_aligned : ℕ → After → State → After
where_aligned address a s = if is_aligned address then a else traps SigBus s

-- LR.W: rd is the word, and its address is reserved
abbrev pub reserves : Option ℕ → ℕ → State → After
reserves None word s = traps SigSegv s
reserves (Some n) word s = goes_on (advanced (sets word n (with_reservation (Some (source1 word s)) s.cpu))) s

-- SC.W: rd is 0 where the word was stored and 1 where it wasn't, and the reservation ends either way
abbrev pub answers : ℕ → ℕ → State → After
answers n word s = computes word n (record s { cpu = with_reservation None s.cpu })

abbrev pub conditional_ends : Option Memory → ℕ → State → After
conditional_ends None word s = traps SigSegv s
conditional_ends (Some m) word s = answers 0 word (record s { memory = m })

-- an atomic memory operation: rd is the word that stood there
abbrev pub modify_ends : Option Memory → ℕ → ℕ → State → After
modify_ends None old word s = traps SigSegv s
modify_ends (Some m) old word s = computes word old (record s { memory = m })

abbrev pub modifies : Option ℕ → AmoKind → ℕ → State → After
modifies None amo word s = traps SigSegv s
modifies (Some old) amo word s = modify_ends (store word_size s.memory (source1 word s) (modified amo old (source2 word s))) old word s

-- ---- the table

abbrev pub effect : Insn → ℕ → State → After
-- 2.4 Integer Computational Instructions
effect (Immediate operation) word s = computes word (value operation (source1 word s) (i_immediate word)) s
effect Lui word s = computes word (u_immediate word) s
effect Auipc word s = computes word (sum s.cpu.pc (u_immediate word)) s
effect (Register operation) word s = computes word (value operation (source1 word s) (source2 word s)) s
-- 2.5 Control Transfer Instructions: JAL and JALR put the address behind them into rd; JALR clears bit 0 of its target
effect Jal word s = jumps (sum s.cpu.pc (j_immediate word)) (sets word (following s.cpu) s.cpu) s
effect Jalr word s = jumps (sum (source1 word s) (i_immediate word) / 2 * 2) (sets word (following s.cpu) s.cpu) s
effect (Branch branch) word s =
    if is_taken branch (source1 word s) (source2 word s) then jumps (sum s.cpu.pc (b_immediate word)) s.cpu s
    else goes_on (advanced s.cpu) s
-- 2.6 Load and Store Instructions
effect (Load kind) word s = load_ends (loaded kind s.memory (sum (source1 word s) (i_immediate word))) word s
effect (Store kind) word s = store_ends (stored kind s.memory (sum (source1 word s) (s_immediate word)) (source2 word s)) s
-- 2.7 Memory Ordering Instructions, and Zifencei: one hart sees its own accesses in their order
effect Fence word s = goes_on (advanced s.cpu) s
effect FenceI word s = goes_on (advanced s.cpu) s
-- 2.8 Environment Call and Breakpoints
effect Ecall word s = record (goes_on (advanced (with_reservation None s.cpu)) s) { outcome = outcome.Call }
effect Ebreak word s = traps SigTrap s
-- the extension A
effect LrW word s = where_aligned (source1 word s) (reserves (load right.Read word_size s.memory (source1 word s)) word s) s
effect ScW word s =
    where_aligned (source1 word s)
    (if is_reserved (source1 word s) s.cpu then conditional_ends (store word_size s.memory (source1 word s) (source2 word s)) word s else answers 1 word s) s
effect (Amo amo) word s = where_aligned (source1 word s) (modifies (load right.Read word_size s.memory (source1 word s)) amo word s) s

-- ---- one instruction

abbrev pub executed : Option Insn → ℕ → State → After
executed None word s = traps SigIll s
executed (Some instruction) word s = effect instruction word s

abbrev pub fetched : Option ℕ → State → After
fetched None s = traps SigSegv s
fetched (Some word) s = executed (decoded word) word s

-- the instruction at pc, whose bytes are mapped with the right to execute
unfoldable pub insn : State → After
insn s = fetched (load right.Execute instruction_size s.memory s.cpu.pc) s

-- the state of these registers and this memory
abbrev pub state : Cpu → Memory → State
state cpu memory = record { cpu = cpu; memory = memory }

abbrev pub after : Cpu → Memory → Outcome → After
after cpu memory outcome = record { state = state cpu memory; outcome = outcome }
