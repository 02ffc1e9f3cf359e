use Rattle.steal_workers.proofs.DealLaws.{nothing_left}
use Rattle.steal_workers.proofs.gathering.gather.Goals as goal

pub returns-in-Ok-clause-none : goal.returns-in-Ok-clause-none
returns-in-Ok-clause-none g c = λ found. nothing_left c.args.seats.items c.emptied.result.items c.requires c.emptied.ensures found
