use Rattle.steal_workers.proofs.ShareLists.{moves_sound, moves_trans, moves_marked, none_trans, found_after, ends_with, if_none}
use Rattle.steal_workers.proofs.sweep.find.Goals as goal

pub sweep-requires-clause-sound : goal.sweep-requires-clause-sound
sweep-requires-clause-sound g c = moves_sound _ _ c.own.ensures.same

pub returns-in-Some-sweep-clause-same : goal.returns-in-Some-sweep-clause-same
returns-in-Some-sweep-clause-same g c = moves_trans _ _ _ c.own.ensures.same c.sweep.ensures.same

pub returns-in-Some-sweep-clause-found : goal.returns-in-Some-sweep-clause-found
returns-in-Some-sweep-clause-found g c = found_after _ _ _ _ _ c.own.ensures.same c.in-None.ensures.found c.in-Some-sweep.ensures.found

pub sweep-requires-2-clause-sound : goal.sweep-requires-2-clause-sound
sweep-requires-2-clause-sound g c = moves_sound _ _ c.sweep.ensures.same

pub returns-clause-same : goal.returns-clause-same
returns-clause-same g c = moves_trans _ _ _ (moves_trans _ _ _ c.own.ensures.same c.sweep.ensures.same) c.sweep-2.ensures.same

pub returns-clause-found : goal.returns-clause-found
returns-clause-found g c =
    ends_with _ _ _ c.sweep-2.result (moves_trans _ _ _ c.own.ensures.same c.sweep.ensures.same) (none_trans _ _ _ c.in-None.ensures.found c.in-None-sweep.ensures.found) c.sweep-2.ensures.found

pub returns-clause-marked : goal.returns-clause-marked
returns-clause-marked g c =
    if_none c.sweep-2.result _ (moves_marked _ _ _ (moves_trans _ _ _ c.sweep.ensures.same c.sweep-2.ensures.same) c.in-None.ensures.marked)
