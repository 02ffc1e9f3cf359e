use Rattle.std.proofs.Common.{◌++◌, IsPermutation}
use Rattle.std.specs.Vec.Iter.{into_iter_items}
use Rattle.host_state.specs.HostStands.{IsSameBody}
use Rattle.round_parts.specs.Arrivals.{arrivals}
use Rattle.round_lookahead.proofs.workers.running.join_parcels.Given as goal

abbrev pub invariant-loop-parcel : goal.invariant-loop-parcel
invariant-loop-parcel l = record {
  moved : IsPermutation (l.host.queue ++ arrivals (into_iter_items l.parcel-iterator)) (l.initial.host.queue ++ arrivals l.fn.parcels.items);
  body : IsSameBody l.initial.host l.host;
}
