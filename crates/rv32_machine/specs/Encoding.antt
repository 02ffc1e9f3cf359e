-- Which instruction a word is, or none. RISC-V unprivileged manual, the chapter RV32/64G Instruction
-- Set Listings: the tables of RV32I, of RV32M, of RV32A and of Zifencei.
use Rattle.std.specs.Prelude.{ℕ, ◌==◌, if◌then◌else◌, Option, None, Some, option_map}
use Rattle.rv32_machine.specs.Word.{opcode, funct3, funct5, funct7, rs2}
use Rattle.rv32_machine.specs.declared.instruction.Insn.{Insn}
use Rattle.rv32_machine.specs.declared.instruction.Insn.TheVariants as insn
use Rattle.rv32_machine.specs.declared.instruction.Branch.{Branch}
use Rattle.rv32_machine.specs.declared.instruction.Branch.TheVariants.{Beq, Bne, Blt, Bge, Bltu, Bgeu}
use Rattle.rv32_machine.specs.declared.instruction.Load.{Load}
use Rattle.rv32_machine.specs.declared.instruction.Load.TheVariants.{Lb, Lh, Lw, Lbu, Lhu}
use Rattle.rv32_machine.specs.declared.instruction.Store.{Store}
use Rattle.rv32_machine.specs.declared.instruction.Store.TheVariants.{Sb, Sh, Sw}
use Rattle.rv32_machine.specs.declared.instruction.Amo.{Amo}
use Rattle.rv32_machine.specs.declared.instruction.Amo.TheVariants.{AmoSwap, AmoAdd, AmoXor, AmoAnd, AmoOr, AmoMin, AmoMax, AmoMinu, AmoMaxu}
use Rattle.rv32_machine.specs.declared.instruction.Operation.{Operation}
use Rattle.rv32_machine.specs.declared.instruction.Operation.TheVariants.{Add, Sub, Sll, Slt, Sltu, Xor, Srl, Sra, Or, And, Mul, Mulh, Mulhsu, Mulhu, Div, Divu, Rem, Remu}

-- opcode BRANCH, by funct3
abbrev pub branch_of : ℕ → Option Branch
branch_of f3 =
    if f3 == 0 then Some Beq
    else if f3 == 1 then Some Bne
    else if f3 == 4 then Some Blt
    else if f3 == 5 then Some Bge
    else if f3 == 6 then Some Bltu
    else if f3 == 7 then Some Bgeu
    else None

-- opcode LOAD, by funct3
abbrev pub load_of : ℕ → Option Load
load_of f3 =
    if f3 == 0 then Some Lb
    else if f3 == 1 then Some Lh
    else if f3 == 2 then Some Lw
    else if f3 == 4 then Some Lbu
    else if f3 == 5 then Some Lhu
    else None

-- opcode STORE, by funct3
abbrev pub store_of : ℕ → Option Store
store_of f3 =
    if f3 == 0 then Some Sb
    else if f3 == 1 then Some Sh
    else if f3 == 2 then Some Sw
    else None

-- opcode OP-IMM, by funct3, for the shifts also by funct7
abbrev pub immediate_of : ℕ → ℕ → Option Operation
immediate_of f3 f7 =
    if f3 == 0 then Some Add
    else if f3 == 1 then (if f7 == 0x00 then Some Sll else None)
    else if f3 == 2 then Some Slt
    else if f3 == 3 then Some Sltu
    else if f3 == 4 then Some Xor
    else if f3 == 5 then (if f7 == 0x00 then Some Srl else if f7 == 0x20 then Some Sra else None)
    else if f3 == 6 then Some Or
    else Some And

-- opcode OP with funct7 0x00, by funct3
abbrev pub base_of : ℕ → Operation
base_of f3 =
    if f3 == 0 then Add
    else if f3 == 1 then Sll
    else if f3 == 2 then Slt
    else if f3 == 3 then Sltu
    else if f3 == 4 then Xor
    else if f3 == 5 then Srl
    else if f3 == 6 then Or
    else And

-- opcode OP with funct7 0x01, by funct3: the extension M
abbrev pub multiply_of : ℕ → Operation
multiply_of f3 =
    if f3 == 0 then Mul
    else if f3 == 1 then Mulh
    else if f3 == 2 then Mulhsu
    else if f3 == 3 then Mulhu
    else if f3 == 4 then Div
    else if f3 == 5 then Divu
    else if f3 == 6 then Rem
    else Remu

-- opcode OP with funct7 0x20, by funct3
abbrev pub subtract_of : ℕ → Option Operation
subtract_of f3 =
    if f3 == 0 then Some Sub
    else if f3 == 5 then Some Sra
    else None

-- opcode OP, by funct3 and funct7
abbrev pub register_of : ℕ → ℕ → Option Operation
register_of f3 f7 =
    if f7 == 0x00 then Some (base_of f3)
    else if f7 == 0x01 then Some (multiply_of f3)
    else if f7 == 0x20 then subtract_of f3
    else None

-- opcode MISC-MEM, by funct3; the other fields are left aside, as the manual asks
abbrev pub fence_of : ℕ → Option Insn
fence_of f3 =
    if f3 == 0 then Some insn.Fence
    else if f3 == 1 then Some insn.FenceI
    else None

-- opcode SYSTEM: two whole words
abbrev pub system_of : ℕ → Option Insn
system_of word =
    if word == 0x00000073 then Some insn.Ecall
    else if word == 0x00100073 then Some insn.Ebreak
    else None

-- opcode AMO with the width of a word, by funct5: the operations
abbrev pub amo_of : ℕ → Option Amo
amo_of f5 =
    if f5 == 0x00 then Some AmoAdd
    else if f5 == 0x01 then Some AmoSwap
    else if f5 == 0x04 then Some AmoXor
    else if f5 == 0x08 then Some AmoOr
    else if f5 == 0x0c then Some AmoAnd
    else if f5 == 0x10 then Some AmoMin
    else if f5 == 0x14 then Some AmoMax
    else if f5 == 0x18 then Some AmoMinu
    else if f5 == 0x1c then Some AmoMaxu
    else None

-- opcode AMO with the width of a word, by funct5, for LR.W also by rs2; the bits aq and rl are left aside
abbrev pub atomic_of : ℕ → ℕ → Option Insn
atomic_of f5 r2 =
    if f5 == 0x02 then (if r2 == 0 then Some insn.LrW else None)
    else if f5 == 0x03 then Some insn.ScW
    else option_map insn.Amo (amo_of f5)

abbrev pub decoded : ℕ → Option Insn
decoded word =
    if opcode word == 0x37 then Some insn.Lui
    else if opcode word == 0x17 then Some insn.Auipc
    else if opcode word == 0x6f then Some insn.Jal
    else if opcode word == 0x67 then (if funct3 word == 0 then Some insn.Jalr else None)
    else if opcode word == 0x63 then option_map insn.Branch (branch_of (funct3 word))
    else if opcode word == 0x03 then option_map insn.Load (load_of (funct3 word))
    else if opcode word == 0x23 then option_map insn.Store (store_of (funct3 word))
    else if opcode word == 0x13 then option_map insn.Immediate (immediate_of (funct3 word) (funct7 word))
    else if opcode word == 0x33 then option_map insn.Register (register_of (funct3 word) (funct7 word))
    else if opcode word == 0x0f then fence_of (funct3 word)
    else if opcode word == 0x73 then system_of word
    else if opcode word == 0x2f then (if funct3 word == 2 then atomic_of (funct5 word) (rs2 word) else None)
    else None
