use Rattle.std.proofs.Common.{◌≡◌, ◌<◌, ◌++◌, All, length, map, IsPermutation}
use Rattle.std.specs.Vec.Iter.{into_iter_items}
use Rattle.host_link.specs.Parcels.{parcel_event}
use Rattle.host_link.specs.Home.{home}
use Rattle.host_link.specs.Net.{Net}
use Rattle.round_parts.specs.Rows.{row_arrivals, AreAtHome}
use Rattle.round_lookahead.specs.inside.Waits.{IsSameHosts, rows_of}
use Rattle.round_lookahead.proofs.world.waiting.wait_all.Given as goal

-- what is left completes the whole
abbrev pub invariant-loop-parcel : goal.invariant-loop-parcel
invariant-loop-parcel l = record {
  hosts : IsSameHosts l.initial.tasks l.tasks;
  below : All (λ p. p.to.index < length l.tasks) (into_iter_items l.parcel-iterator);
  events : IsPermutation (map parcel_event (into_iter_items l.parcel-iterator) ++ row_arrivals (rows_of l.tasks)) (map parcel_event l.fn.parcels.items ++ row_arrivals (rows_of l.initial.tasks));
  theirs : (net : Net) → All (λ p. home net (parcel_event p) ≡ p.to.index) l.fn.parcels.items → AreAtHome net (rows_of l.initial.tasks)
      → AreAtHome net (rows_of l.tasks) × All (λ p. home net (parcel_event p) ≡ p.to.index) (into_iter_items l.parcel-iterator);
}
