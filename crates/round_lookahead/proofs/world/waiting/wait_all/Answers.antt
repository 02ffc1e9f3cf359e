use Rattle.std.proofs.Common.{◌≡◌, ℕ, ◌<◌, ◌∷◌, ◌++◌, List, All, length, map, refl, sym, subst, ◌∙◌}
use Rattle.std.specs.Vec.Iter.{into_iter_items}
use Rattle.sim_base.specs.declared.event.Parcel.{Parcel}
use Rattle.host_link.specs.Home.{home}
use Rattle.host_link.specs.Parcels.{parcel_event}
use Rattle.round_parts.specs.Rows.{row_arrivals}
use Rattle.round_lookahead.specs.inside.Waits.{rows_of}
use Rattle.round_parts.proofs.ListFacts.{first_of, rest_of}
use Rattle.round_parts.proofs.DeliverySteps.{delivered_more}
use Rattle.round_lookahead.proofs.PlaceSteps.{same_length}
use Rattle.round_lookahead.proofs.world.waiting.wait_all.Goals as goal

pub loop-parcel-init : goal.loop-parcel-init
loop-parcel-init c =
    let is = c.into_iter-parcel-iterator.ensures.into_iter_gives.0 in
    record {
      hosts = record { ids = refl; hosts = refl };
      below = subst (λ (ps : List Parcel). All (λ (p : Parcel). p.to.index < length c.args.tasks.now) ps) (sym is) c.requires;
      events = subst (λ (ps : List Parcel). Rattle.std.proofs.Common.IsPermutation (map parcel_event ps ++ row_arrivals (rows_of c.args.tasks.now)) (map parcel_event c.args.parcels.items ++ row_arrivals (rows_of c.args.tasks.now)))
          (sym is) (Rattle.std.proofs.lemmas.List.Sorted.IsPermutation-refl (map parcel_event c.args.parcels.items ++ row_arrivals (rows_of c.args.tasks.now)));
      theirs = λ net to first. (first, subst (λ (ps : List Parcel). All (λ (p : Parcel). home net (parcel_event p) ≡ p.to.index) ps) (sym is) to);
    }

pub loop-parcel-preserved : goal.loop-parcel-preserved
loop-parcel-preserved c =
    let rest : List Parcel = into_iter_items c.next.new.self in
    let left : List Parcel = into_iter_items c.loop-parcel.parcel-iterator in
    let is : left ≡ c.in-Some.parcel ∷ rest = c.in-Some.ensures.steps.0 in
    let old = c.loop-parcel in
    let one = c.in_ok-wait_one.ensures in
    let count : length c.wait_one.new.tasks ≡ length old.tasks = same_length old.tasks c.wait_one.new.tasks one.hosts in
    record {
      hosts = record { ids = one.hosts.ids ∙ old.invariant.hosts.ids; hosts = one.hosts.hosts ∙ old.invariant.hosts.hosts };
      below = subst (λ (k : ℕ). All (λ (p : Parcel). p.to.index < k) rest) (sym count)
          (rest_of (λ (p : Parcel). p.to.index < length old.tasks) left rest c.in-Some.parcel is old.invariant.below);
      events = delivered_more left rest c.in-Some.parcel (row_arrivals (rows_of old.tasks)) (row_arrivals (rows_of c.wait_one.new.tasks))
          (map parcel_event c.args.parcels.items ++ row_arrivals (rows_of c.args.tasks.now)) is one.events old.invariant.events;
      theirs = λ net to first. (let t = old.invariant.theirs net to first in let P : Parcel → Type 0 = λ p. home net (parcel_event p) ≡ p.to.index in
          (one.theirs net (first_of P left rest c.in-Some.parcel is t.1) t.0, rest_of P left rest c.in-Some.parcel is t.1));
    }
