use Rattle.std.proofs.Common.{◌≡◌, ℕ, ◌<◌, ◌∷◌, List, All, length, sym, subst, ◌∙◌}
use Rattle.std.specs.Vec.Iter.{into_iter_items}
use Rattle.sim_base.specs.declared.event.Parcel.{Parcel}
use Rattle.round_parts.specs.Rows.{row_arrivals}
use Rattle.host_link.specs.Home.{home}
use Rattle.host_link.specs.Parcels.{parcel_event}
use Rattle.std.proofs.Common.{map, ◌++◌}
use Rattle.round_parts.proofs.ListFacts.{first_of, rest_of}
use Rattle.round_parts.proofs.DeliverySteps.{delivered_more}
use Rattle.round_parts.proofs.delivery.deliver.Goals as goal

pub loop-parcel-preserved : goal.loop-parcel-preserved
loop-parcel-preserved c =
    let rest : List Parcel = into_iter_items c.next.new.self in
    let left : List Parcel = into_iter_items c.loop-parcel.parcel-iterator in
    let is : left ≡ c.in-Some.parcel ∷ rest = c.in-Some.ensures.steps.0 in
    let old = c.loop-parcel in
    let n : ℕ = length c.args.rows.now.items in
    let count : length c.deliver_one.new.rows.items ≡ length old.rows.items = c.in_ok-deliver_one.ensures.count in
    record {
      count = count ∙ old.invariant.count;
      below = subst (λ (k : ℕ). All (λ (p : Parcel). p.to.index < k) rest) (sym count)
          (rest_of (λ (p : Parcel). p.to.index < length old.rows.items) left rest c.in-Some.parcel is old.invariant.below);
      events = delivered_more left rest c.in-Some.parcel (row_arrivals old.rows.items) (row_arrivals c.deliver_one.new.rows.items)
          (map parcel_event c.args.parcels.items ++ row_arrivals c.args.rows.now.items) is c.in_ok-deliver_one.ensures.events old.invariant.events;
      theirs = λ net to first. (let t = old.invariant.theirs net to first in let P : Parcel → Type 0 = λ p. home net (parcel_event p) ≡ p.to.index in
          (c.in_ok-deliver_one.ensures.theirs net (first_of P left rest c.in-Some.parcel is t.1) t.0, rest_of P left rest c.in-Some.parcel is t.1));
    }
