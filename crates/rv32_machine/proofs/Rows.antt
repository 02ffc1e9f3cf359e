-- Which instruction a word is, by the place of its row.
use Rattle.std.proofs.Common.{◌≡◌, ℕ, ◌+◌, ◌*◌, ◌/◌, ◌%◌, ◌^◌, ap, ◌∙◌, Bool, true, false, Option, Some, None, if◌then◌else◌}
use Rattle.std.specs.Prelude.{◌==◌}
use Rattle.std.specs.Bool.{OnTrue}
use Rattle.std.specs.Option.{option_map}
use Rattle.guest_mem.specs.Memory.{Memory}
use Rattle.rv32_machine.specs.Word.{opcode, funct3, funct5, funct7, rs2}
use Rattle.rv32_machine.specs.Encoding.{branch_of, load_of, store_of, immediate_of, register_of, fence_of, system_of, atomic_of, decoded}
use Rattle.rv32_machine.specs.Table.{after, effect, executed, state}
use Rattle.rv32_machine.specs.declared.cpu.Cpu.{Cpu}
use Rattle.rv32_machine.specs.declared.instruction.Insn.{Insn}
use Rattle.rv32_machine.specs.declared.instruction.Insn.TheVariants as insn
use Rattle.rv32_machine.specs.declared.outcome.Outcome.TheVariants as outcome

-- `decoded`, by opcode, funct3 and funct7
abbrev by_parts : ℕ → ℕ → ℕ → ℕ → Option Insn
by_parts word o f3 f7 =
    if o == 0x37 then Some insn.Lui
    else if o == 0x17 then Some insn.Auipc
    else if o == 0x6f then Some insn.Jal
    else if o == 0x67 then (if f3 == 0 then Some insn.Jalr else None)
    else if o == 0x63 then option_map insn.Branch (branch_of f3)
    else if o == 0x03 then option_map insn.Load (load_of f3)
    else if o == 0x23 then option_map insn.Store (store_of f3)
    else if o == 0x13 then option_map insn.Immediate (immediate_of f3 f7)
    else if o == 0x33 then option_map insn.Register (register_of f3 f7)
    else if o == 0x0f then fence_of f3
    else if o == 0x73 then system_of word
    else if o == 0x2f then (if f3 == 2 then atomic_of (funct5 word) (rs2 word) else None)
    else None

-- the opcode and funct3 of a place
abbrev opcode_at : ℕ → ℕ
opcode_at place = (place % 2 ^ 5 * 4 + place / 2 ^ 30 + 3) % 2 ^ 7

abbrev funct3_at : ℕ → ℕ
funct3_at place = place % 2 ^ 30 / 2 ^ 5

pub row_is : (word row place f7 : ℕ) (i : Insn) → opcode word ≡ opcode_at row → funct3 word ≡ funct3_at row → row ≡ place → funct7 word ≡ f7 →
    by_parts word (opcode_at place) (funct3_at place) f7 ≡ Some i → decoded word ≡ Some i
row_is word row place f7 i o f3 at seven is =
    ap (λ (n : ℕ). by_parts word n (funct3 word) (funct7 word)) (o ∙ ap opcode_at at)
    ∙ ap (λ (n : ℕ). by_parts word (opcode_at place) n (funct7 word)) (f3 ∙ ap funct3_at at)
    ∙ ap (λ (n : ℕ). by_parts word (opcode_at place) (funct3_at place) n) seven
    ∙ is

-- where the word is this instruction, and that was run, the word's was
pub ran_as : (ran : Bool) (word : ℕ) (i : Insn) (old new : Cpu) (m : Memory) → decoded word ≡ Some i →
    OnTrue ran ((any : Memory) → effect i word (state old any) ≡ after new any outcome.Next) →
    OnTrue ran (executed (decoded word) word (state old m) ≡ after new m outcome.Next)
ran_as true word i old new m is by_effect = ap (λ (d : Option Insn). executed d word (state old m)) is ∙ by_effect m
ran_as false word i old new m is by_effect = tt
