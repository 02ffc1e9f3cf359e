use Rattle.std.proofs.Common.{◌∙◌, sym}
use Rattle.rv32_machine.proofs.TurnLaws.{turn_is, turn_only, turn_trap}
use Rattle.rv32_machine.proofs.laws.one_turn.Goals as goal

pub returns-clause-at_least : goal.returns-clause-at_least
returns-clause-at_least c = turn_is

pub returns-clause-at_most : goal.returns-clause-at_most
returns-clause-at_most c budget s t u one other = turn_only budget s t one ∙ sym (turn_only budget s u other)

pub returns-clause-trap : goal.returns-clause-trap
returns-clause-trap c = turn_trap
