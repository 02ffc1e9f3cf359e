use Rattle.rv32_machine.proofs.TableLaws.{insn_trap, insn_call}
use Rattle.rv32_machine.proofs.laws.traps_and_calls.Goals as goal

pub returns-clause-trap : goal.returns-clause-trap
returns-clause-trap c = insn_trap

pub returns-clause-call : goal.returns-clause-call
returns-clause-call c = insn_call
