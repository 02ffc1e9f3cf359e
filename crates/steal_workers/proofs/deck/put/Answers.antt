use Rattle.steal_workers.proofs.Steps.{pushes}
use Rattle.steal_workers.proofs.deck.put.Goals as goal

pub push_as-requires-clause-pushes : goal.push_as-requires-clause-pushes
push_as-requires-clause-pushes g c = pushes _ _ _ c.requires.deals c.requires.share
