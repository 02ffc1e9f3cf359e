use Rattle.steal_workers.proofs.ShareLists.{moves_set, none_set, found_set, marked_here}
use Rattle.steal_workers.proofs.sweep.own.Goals as goal

pub returns-in-Task-clause-same : goal.returns-in-Task-clause-same
returns-in-Task-clause-same g c = moves_set _ _ c.index-shares-place.result _ c.requires.sound c.requires.within c.in-Task.ensures.same

pub returns-in-Task-clause-found : goal.returns-in-Task-clause-found
returns-in-Task-clause-found g c = found_set _ _ c.index-shares-place.result _ _ _ c.requires.within c.in-Task.ensures.finding

pub returns-in-Marked-clause-same : goal.returns-in-Marked-clause-same
returns-in-Marked-clause-same g c = moves_set _ _ c.index-shares-place.result _ c.requires.sound c.requires.within c.in-Marked.ensures.same

pub returns-in-Marked-clause-found : goal.returns-in-Marked-clause-found
returns-in-Marked-clause-found g c = none_set _ _ c.index-shares-place.result _ c.requires.within c.in-Marked.ensures.finding.1

pub returns-in-Marked-clause-marked : goal.returns-in-Marked-clause-marked
returns-in-Marked-clause-marked g c = marked_here _ _ _ c.requires.within c.in-Marked.ensures.finding.0
