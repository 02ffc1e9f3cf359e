use Rattle.std.proofs.Common.{◌≡◌, ◌<◌, ◌++◌, All, length, map, IsPermutation}
use Rattle.std.specs.Vec.Iter.{into_iter_items}
use Rattle.host_link.specs.Parcels.{parcel_event}
use Rattle.round_parts.specs.Rows.{row_arrivals, AreAtHome}
use Rattle.host_link.specs.Home.{home}
use Rattle.host_link.specs.Net.{Net}
use Rattle.round_parts.proofs.delivery.deliver.Given as goal

-- what is left completes the whole
abbrev pub invariant-loop-parcel : goal.invariant-loop-parcel
invariant-loop-parcel l = record {
  count : length l.rows.items ≡ length l.initial.rows.items;
  below : All (λ p. p.to.index < length l.rows.items) (into_iter_items l.parcel-iterator);
  events : IsPermutation (map parcel_event (into_iter_items l.parcel-iterator) ++ row_arrivals l.rows.items) (map parcel_event l.fn.parcels.items ++ row_arrivals l.initial.rows.items);
  theirs : (net : Net) → All (λ p. home net (parcel_event p) ≡ p.to.index) l.fn.parcels.items → AreAtHome net l.initial.rows.items → AreAtHome net l.rows.items × All (λ p. home net (parcel_event p) ≡ p.to.index) (into_iter_items l.parcel-iterator);
}
