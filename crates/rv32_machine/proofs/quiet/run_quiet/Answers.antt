use Rattle.std.proofs.Common.{refl, sym, ◌∙◌}
use Rattle.rv32_machine.specs.Word.{funct7}
use Rattle.rv32_machine.specs.declared.instruction.Insn.TheVariants.{Immediate, Register}
use Rattle.rv32_machine.specs.declared.instruction.Operation.TheVariants.{Add, And, Div, Divu, Mul, Mulh, Mulhsu, Mulhu, Or, Rem, Remu, Sll, Slt, Sltu, Sra, Srl, Sub, Xor}
use Rattle.rv32_machine.proofs.Rows.{row_is, ran_as}
use Rattle.rv32_machine.proofs.quiet.run_quiet.Goals as goal

pub returns-in-4-clause-ran : goal.returns-in-4-clause-ran
returns-in-4-clause-ran c = ran_as c.immediate.result c.args.word (Immediate Add) c.args.cpu.now c.immediate.new.cpu c.args.mem.now (row_is c.args.word c.row.result 4 (funct7 c.args.word) (Immediate Add) c.row.ensures.opcode c.row.ensures.funct3 c.in-4.is refl refl) c.immediate.ensures.ran

pub returns-in-0-funct7-clause-ran : goal.returns-in-0-funct7-clause-ran
returns-in-0-funct7-clause-ran c = ran_as c.immediate-in-0-funct7.result c.args.word (Immediate Sll) c.args.cpu.now c.immediate-in-0-funct7.new.cpu c.args.mem.now (row_is c.args.word c.row.result 36 0 (Immediate Sll) c.row.ensures.opcode c.row.ensures.funct3 c.in-36.is (sym c.funct7.ensures.value ∙ c.in-0-funct7.is) refl) c.immediate-in-0-funct7.ensures.ran

pub returns-in-68-clause-ran : goal.returns-in-68-clause-ran
returns-in-68-clause-ran c = ran_as c.immediate-in-68.result c.args.word (Immediate Slt) c.args.cpu.now c.immediate-in-68.new.cpu c.args.mem.now (row_is c.args.word c.row.result 68 (funct7 c.args.word) (Immediate Slt) c.row.ensures.opcode c.row.ensures.funct3 c.in-68.is refl refl) c.immediate-in-68.ensures.ran

pub returns-in-100-clause-ran : goal.returns-in-100-clause-ran
returns-in-100-clause-ran c = ran_as c.immediate-in-100.result c.args.word (Immediate Sltu) c.args.cpu.now c.immediate-in-100.new.cpu c.args.mem.now (row_is c.args.word c.row.result 100 (funct7 c.args.word) (Immediate Sltu) c.row.ensures.opcode c.row.ensures.funct3 c.in-100.is refl refl) c.immediate-in-100.ensures.ran

pub returns-in-132-clause-ran : goal.returns-in-132-clause-ran
returns-in-132-clause-ran c = ran_as c.immediate-in-132.result c.args.word (Immediate Xor) c.args.cpu.now c.immediate-in-132.new.cpu c.args.mem.now (row_is c.args.word c.row.result 132 (funct7 c.args.word) (Immediate Xor) c.row.ensures.opcode c.row.ensures.funct3 c.in-132.is refl refl) c.immediate-in-132.ensures.ran

pub returns-in-0-funct7-2-clause-ran : goal.returns-in-0-funct7-2-clause-ran
returns-in-0-funct7-2-clause-ran c = ran_as c.immediate-in-0-funct7-2.result c.args.word (Immediate Srl) c.args.cpu.now c.immediate-in-0-funct7-2.new.cpu c.args.mem.now (row_is c.args.word c.row.result 164 0 (Immediate Srl) c.row.ensures.opcode c.row.ensures.funct3 c.in-164.is (sym c.funct7-in-164.ensures.value ∙ c.in-0-funct7-2.is) refl) c.immediate-in-0-funct7-2.ensures.ran

pub returns-in-32-funct7-clause-ran : goal.returns-in-32-funct7-clause-ran
returns-in-32-funct7-clause-ran c = ran_as c.immediate-in-32-funct7.result c.args.word (Immediate Sra) c.args.cpu.now c.immediate-in-32-funct7.new.cpu c.args.mem.now (row_is c.args.word c.row.result 164 32 (Immediate Sra) c.row.ensures.opcode c.row.ensures.funct3 c.in-164.is (sym c.funct7-in-164.ensures.value ∙ c.in-32-funct7.is) refl) c.immediate-in-32-funct7.ensures.ran

pub returns-in-196-clause-ran : goal.returns-in-196-clause-ran
returns-in-196-clause-ran c = ran_as c.immediate-in-196.result c.args.word (Immediate Or) c.args.cpu.now c.immediate-in-196.new.cpu c.args.mem.now (row_is c.args.word c.row.result 196 (funct7 c.args.word) (Immediate Or) c.row.ensures.opcode c.row.ensures.funct3 c.in-196.is refl refl) c.immediate-in-196.ensures.ran

pub returns-in-228-clause-ran : goal.returns-in-228-clause-ran
returns-in-228-clause-ran c = ran_as c.immediate-in-228.result c.args.word (Immediate And) c.args.cpu.now c.immediate-in-228.new.cpu c.args.mem.now (row_is c.args.word c.row.result 228 (funct7 c.args.word) (Immediate And) c.row.ensures.opcode c.row.ensures.funct3 c.in-228.is refl refl) c.immediate-in-228.ensures.ran

pub returns-in-0-funct7-3-clause-ran : goal.returns-in-0-funct7-3-clause-ran
returns-in-0-funct7-3-clause-ran c = ran_as c.register.result c.args.word (Register Add) c.args.cpu.now c.register.new.cpu c.args.mem.now (row_is c.args.word c.row.result 12 0 (Register Add) c.row.ensures.opcode c.row.ensures.funct3 c.in-12.is (sym c.funct7-in-12.ensures.value ∙ c.in-0-funct7-3.is) refl) c.register.ensures.ran

pub returns-in-1-clause-ran : goal.returns-in-1-clause-ran
returns-in-1-clause-ran c = ran_as c.register-in-1.result c.args.word (Register Mul) c.args.cpu.now c.register-in-1.new.cpu c.args.mem.now (row_is c.args.word c.row.result 12 1 (Register Mul) c.row.ensures.opcode c.row.ensures.funct3 c.in-12.is (sym c.funct7-in-12.ensures.value ∙ c.in-1.is) refl) c.register-in-1.ensures.ran

pub returns-in-32-funct7-2-clause-ran : goal.returns-in-32-funct7-2-clause-ran
returns-in-32-funct7-2-clause-ran c = ran_as c.register-in-32-funct7-2.result c.args.word (Register Sub) c.args.cpu.now c.register-in-32-funct7-2.new.cpu c.args.mem.now (row_is c.args.word c.row.result 12 32 (Register Sub) c.row.ensures.opcode c.row.ensures.funct3 c.in-12.is (sym c.funct7-in-12.ensures.value ∙ c.in-32-funct7-2.is) refl) c.register-in-32-funct7-2.ensures.ran

pub returns-in-0-funct7-4-clause-ran : goal.returns-in-0-funct7-4-clause-ran
returns-in-0-funct7-4-clause-ran c = ran_as c.register-in-0-funct7-4.result c.args.word (Register Sll) c.args.cpu.now c.register-in-0-funct7-4.new.cpu c.args.mem.now (row_is c.args.word c.row.result 44 0 (Register Sll) c.row.ensures.opcode c.row.ensures.funct3 c.in-44.is (sym c.funct7-in-44.ensures.value ∙ c.in-0-funct7-4.is) refl) c.register-in-0-funct7-4.ensures.ran

pub returns-in-1-funct7-clause-ran : goal.returns-in-1-funct7-clause-ran
returns-in-1-funct7-clause-ran c = ran_as c.register-in-1-funct7.result c.args.word (Register Mulh) c.args.cpu.now c.register-in-1-funct7.new.cpu c.args.mem.now (row_is c.args.word c.row.result 44 1 (Register Mulh) c.row.ensures.opcode c.row.ensures.funct3 c.in-44.is (sym c.funct7-in-44.ensures.value ∙ c.in-1-funct7.is) refl) c.register-in-1-funct7.ensures.ran

pub returns-in-0-funct7-5-clause-ran : goal.returns-in-0-funct7-5-clause-ran
returns-in-0-funct7-5-clause-ran c = ran_as c.register-in-0-funct7-5.result c.args.word (Register Slt) c.args.cpu.now c.register-in-0-funct7-5.new.cpu c.args.mem.now (row_is c.args.word c.row.result 76 0 (Register Slt) c.row.ensures.opcode c.row.ensures.funct3 c.in-76.is (sym c.funct7-in-76.ensures.value ∙ c.in-0-funct7-5.is) refl) c.register-in-0-funct7-5.ensures.ran

pub returns-in-1-funct7-2-clause-ran : goal.returns-in-1-funct7-2-clause-ran
returns-in-1-funct7-2-clause-ran c = ran_as c.register-in-1-funct7-2.result c.args.word (Register Mulhsu) c.args.cpu.now c.register-in-1-funct7-2.new.cpu c.args.mem.now (row_is c.args.word c.row.result 76 1 (Register Mulhsu) c.row.ensures.opcode c.row.ensures.funct3 c.in-76.is (sym c.funct7-in-76.ensures.value ∙ c.in-1-funct7-2.is) refl) c.register-in-1-funct7-2.ensures.ran

pub returns-in-0-funct7-6-clause-ran : goal.returns-in-0-funct7-6-clause-ran
returns-in-0-funct7-6-clause-ran c = ran_as c.register-in-0-funct7-6.result c.args.word (Register Sltu) c.args.cpu.now c.register-in-0-funct7-6.new.cpu c.args.mem.now (row_is c.args.word c.row.result 108 0 (Register Sltu) c.row.ensures.opcode c.row.ensures.funct3 c.in-108.is (sym c.funct7-in-108.ensures.value ∙ c.in-0-funct7-6.is) refl) c.register-in-0-funct7-6.ensures.ran

pub returns-in-1-funct7-3-clause-ran : goal.returns-in-1-funct7-3-clause-ran
returns-in-1-funct7-3-clause-ran c = ran_as c.register-in-1-funct7-3.result c.args.word (Register Mulhu) c.args.cpu.now c.register-in-1-funct7-3.new.cpu c.args.mem.now (row_is c.args.word c.row.result 108 1 (Register Mulhu) c.row.ensures.opcode c.row.ensures.funct3 c.in-108.is (sym c.funct7-in-108.ensures.value ∙ c.in-1-funct7-3.is) refl) c.register-in-1-funct7-3.ensures.ran

pub returns-in-0-funct7-7-clause-ran : goal.returns-in-0-funct7-7-clause-ran
returns-in-0-funct7-7-clause-ran c = ran_as c.register-in-0-funct7-7.result c.args.word (Register Xor) c.args.cpu.now c.register-in-0-funct7-7.new.cpu c.args.mem.now (row_is c.args.word c.row.result 140 0 (Register Xor) c.row.ensures.opcode c.row.ensures.funct3 c.in-140.is (sym c.funct7-in-140.ensures.value ∙ c.in-0-funct7-7.is) refl) c.register-in-0-funct7-7.ensures.ran

pub returns-in-1-funct7-4-clause-ran : goal.returns-in-1-funct7-4-clause-ran
returns-in-1-funct7-4-clause-ran c = ran_as c.register-in-1-funct7-4.result c.args.word (Register Div) c.args.cpu.now c.register-in-1-funct7-4.new.cpu c.args.mem.now (row_is c.args.word c.row.result 140 1 (Register Div) c.row.ensures.opcode c.row.ensures.funct3 c.in-140.is (sym c.funct7-in-140.ensures.value ∙ c.in-1-funct7-4.is) refl) c.register-in-1-funct7-4.ensures.ran

pub returns-in-0-funct7-8-clause-ran : goal.returns-in-0-funct7-8-clause-ran
returns-in-0-funct7-8-clause-ran c = ran_as c.register-in-0-funct7-8.result c.args.word (Register Srl) c.args.cpu.now c.register-in-0-funct7-8.new.cpu c.args.mem.now (row_is c.args.word c.row.result 172 0 (Register Srl) c.row.ensures.opcode c.row.ensures.funct3 c.in-172.is (sym c.funct7-in-172.ensures.value ∙ c.in-0-funct7-8.is) refl) c.register-in-0-funct7-8.ensures.ran

pub returns-in-1-funct7-5-clause-ran : goal.returns-in-1-funct7-5-clause-ran
returns-in-1-funct7-5-clause-ran c = ran_as c.register-in-1-funct7-5.result c.args.word (Register Divu) c.args.cpu.now c.register-in-1-funct7-5.new.cpu c.args.mem.now (row_is c.args.word c.row.result 172 1 (Register Divu) c.row.ensures.opcode c.row.ensures.funct3 c.in-172.is (sym c.funct7-in-172.ensures.value ∙ c.in-1-funct7-5.is) refl) c.register-in-1-funct7-5.ensures.ran

pub returns-in-32-funct7-3-clause-ran : goal.returns-in-32-funct7-3-clause-ran
returns-in-32-funct7-3-clause-ran c = ran_as c.register-in-32-funct7-3.result c.args.word (Register Sra) c.args.cpu.now c.register-in-32-funct7-3.new.cpu c.args.mem.now (row_is c.args.word c.row.result 172 32 (Register Sra) c.row.ensures.opcode c.row.ensures.funct3 c.in-172.is (sym c.funct7-in-172.ensures.value ∙ c.in-32-funct7-3.is) refl) c.register-in-32-funct7-3.ensures.ran

pub returns-in-0-funct7-9-clause-ran : goal.returns-in-0-funct7-9-clause-ran
returns-in-0-funct7-9-clause-ran c = ran_as c.register-in-0-funct7-9.result c.args.word (Register Or) c.args.cpu.now c.register-in-0-funct7-9.new.cpu c.args.mem.now (row_is c.args.word c.row.result 204 0 (Register Or) c.row.ensures.opcode c.row.ensures.funct3 c.in-204.is (sym c.funct7-in-204.ensures.value ∙ c.in-0-funct7-9.is) refl) c.register-in-0-funct7-9.ensures.ran

pub returns-in-1-funct7-6-clause-ran : goal.returns-in-1-funct7-6-clause-ran
returns-in-1-funct7-6-clause-ran c = ran_as c.register-in-1-funct7-6.result c.args.word (Register Rem) c.args.cpu.now c.register-in-1-funct7-6.new.cpu c.args.mem.now (row_is c.args.word c.row.result 204 1 (Register Rem) c.row.ensures.opcode c.row.ensures.funct3 c.in-204.is (sym c.funct7-in-204.ensures.value ∙ c.in-1-funct7-6.is) refl) c.register-in-1-funct7-6.ensures.ran

pub returns-in-0-funct7-10-clause-ran : goal.returns-in-0-funct7-10-clause-ran
returns-in-0-funct7-10-clause-ran c = ran_as c.register-in-0-funct7-10.result c.args.word (Register And) c.args.cpu.now c.register-in-0-funct7-10.new.cpu c.args.mem.now (row_is c.args.word c.row.result 236 0 (Register And) c.row.ensures.opcode c.row.ensures.funct3 c.in-236.is (sym c.funct7-in-236.ensures.value ∙ c.in-0-funct7-10.is) refl) c.register-in-0-funct7-10.ensures.ran

pub returns-in-1-funct7-7-clause-ran : goal.returns-in-1-funct7-7-clause-ran
returns-in-1-funct7-7-clause-ran c = ran_as c.register-in-1-funct7-7.result c.args.word (Register Remu) c.args.cpu.now c.register-in-1-funct7-7.new.cpu c.args.mem.now (row_is c.args.word c.row.result 236 1 (Register Remu) c.row.ensures.opcode c.row.ensures.funct3 c.in-236.is (sym c.funct7-in-236.ensures.value ∙ c.in-1-funct7-7.is) refl) c.register-in-1-funct7-7.ensures.ran
