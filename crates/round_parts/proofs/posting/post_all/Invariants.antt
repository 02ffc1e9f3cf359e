use Rattle.std.proofs.Common.{◌≡◌, ◌++◌, ◌<◌, List, All, length}
use Rattle.std.specs.Vec.Iter.{into_iter_items}
use Rattle.sim_base.specs.declared.event.Parcel.{Parcel}
use Rattle.round_parts.specs.Posts.{IsPosted}
use Rattle.round_parts.proofs.posting.post_all.Given as goal

abbrev pub invariant-loop-parcel : goal.invariant-loop-parcel
invariant-loop-parcel l = record {
  boards : l.carrier.boards ≡ l.initial.carrier.boards;
  to : All (λ (parcel : Parcel). parcel.to.index < l.boards.hosts) (into_iter_items l.parcel-iterator);
  puts : length l.carrier.entries ≡ l.puts;
  posted : (all : List Parcel) → IsPosted all l.initial.carrier.entries l.initial.spill.items
      → (so_far : List Parcel) × IsPosted so_far l.carrier.entries l.spill.items × (so_far ++ into_iter_items l.parcel-iterator ≡ all ++ l.fn.parcels.items);
}
