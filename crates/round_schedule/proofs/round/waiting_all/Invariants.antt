use Rattle.std.specs.Vec.Iter.{into_iter_items}
use Rattle.round_schedule.proofs.Clearing.{IsMaking}
use Rattle.round_schedule.proofs.round.waiting_all.Given as goal

abbrev pub invariant-loop-host : goal.invariant-loop-host
invariant-loop-host l = IsMaking l.fn.hosts.items (into_iter_items l.host-iterator) l.members.items
