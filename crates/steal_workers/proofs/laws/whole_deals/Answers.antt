use Rattle.steal_workers.proofs.DealLaws.{place-within, nothing_left}
use Rattle.steal_workers.proofs.SameSeats.{same_seats_whole}
use Rattle.steal_workers.proofs.laws.whole_deals.Goals as goal

pub returns-clause-stays : goal.returns-clause-stays
returns-clause-stays g c = same_seats_whole

pub returns-clause-places : goal.returns-clause-places
returns-clause-places g c = place-within

pub returns-clause-nothing_left : goal.returns-clause-nothing_left
returns-clause-nothing_left g c = nothing_left
