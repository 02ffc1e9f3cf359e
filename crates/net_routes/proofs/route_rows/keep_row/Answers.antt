use Rattle.std.proofs.Common.{subst}
use Rattle.std.specs.Prelude.{IfSome}
use Rattle.net_routes.proofs.NumberLemmas.{AreNumbersOf, row_is, numbers_within}
use Rattle.net_routes.proofs.route_rows.keep_row.Goals as goal

pub returns-in-Some-clause-row : goal.returns-in-Some-clause-row
returns-in-Some-clause-row c = row_is _ _ _ (subst (λ o. IfSome o (λ numbers. AreNumbersOf c.numbers_of.new.self numbers.items c.args.row.now)) c.in-Some.is c.in_ok-numbers.ensures.numbers)

pub returns-in-Some-clause-costs : goal.returns-in-Some-clause-costs
returns-in-Some-clause-costs c = numbers_within _ _ c.args.row.now (subst (λ o. IfSome o (λ numbers. AreNumbersOf c.numbers_of.new.self numbers.items c.args.row.now)) c.in-Some.is c.in_ok-numbers.ensures.numbers)
