use Rattle.steal_workers.proofs.DealLaws.{empty_exact, one_seat_never_lost}
use Rattle.steal_workers.proofs.laws.answers.Goals as goal

pub returns-clause-empty : goal.returns-clause-empty
returns-clause-empty g c = empty_exact

pub returns-clause-alone : goal.returns-clause-alone
returns-clause-alone g c = one_seat_never_lost
