use Rattle.std.proofs.Common.{arith}
use Rattle.world_order.proofs.Orders.{window_upto}
use Rattle.world_order.proofs.laws.window.Goals as goal

pub returns-clause-no_later : goal.returns-clause-no_later
returns-clause-no_later c = window_upto

pub returns-clause-lone : goal.returns-clause-lone
returns-clause-lone c = λ stop least due. due

pub returns-clause-later : goal.returns-clause-later
returns-clause-later c = λ lookahead stop least some due. omega arith
