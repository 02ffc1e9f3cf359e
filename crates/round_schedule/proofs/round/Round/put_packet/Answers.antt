use Rattle.std.proofs.Common.{◌≡◌, ℕ, ◌<◌, ◌∷◌, Some, List, length, slice_get, slice_set, refl, sym, ap, subst, ◌∙◌, arith}
use Rattle.host_link.specs.Net.{Net}
use Rattle.sim_base.specs.declared.event.Parcel.{Parcel}
use Rattle.world_order.specs.declared.step.Spot.{Spot}
use Rattle.world_order.specs.declared.step.Spot.TheVariants.{Place, Spill}
use Rattle.world_order.proofs.Homes.{below_get, some_is}
use Rattle.round_schedule.specs.inside.Kinds.{puts}
use Rattle.round_schedule.specs.inside.Putting.{Spills, HasPlaced}
use Rattle.round_schedule.specs.Reaching.{May, Does}
use Rattle.round_schedule.specs.declared.member.Member.{Member}
use Rattle.round_schedule.specs.declared.member.Worker.{Worker}
use Rattle.round_schedule.specs.declared.round.Round.{Round}
use Rattle.round_schedule.proofs.Going.{on_ok}
use Rattle.round_schedule.proofs.Keeping.{IsSameRest, put_worker, place_there, spilled, placed}
use Rattle.round_schedule.proofs.Pairs.{get_at}
use Rattle.round_schedule.proofs.round.Round.put_packet.Goals as goal

-- the worker is there
there : (net : Net) (worker : ℕ) (spot : Spot) (c : Round) → May net (puts net worker spot) c → worker < length c.workers.items
there net worker spot c may = let w = put_worker net worker spot c may in below_get c.workers.items worker w.0 w.1

-- and has a packet
some : (net : Net) (worker : ℕ) (spot : Spot) (c : Round) (m : Worker) → May net (puts net worker spot) c → slice_get c.workers.items worker ≡ Some m → 0 < length m.hand.items
some net worker spot c m may at =
    let w = put_worker net worker spot c may in
    subst (λ (k : Worker). 0 < length k.hand.items) (some_is w.0 m (sym w.1 ∙ at)) w.2

pub spill_first-requires : goal.spill_first-requires
spill_first-requires c =
    some c.requires.0 c.args.worker c.args.spot c.args.self.now c.index_mut.result.now c.requires.1
    (get_at c.args.self.now.workers.items c.args.worker c.index_mut.result.now (there c.requires.0 c.args.worker c.args.spot c.args.self.now c.requires.1) c.index_mut.ensures.value)

pub index_mut-requires-in-Place : goal.index_mut-requires-in-Place
index_mut-requires-in-Place c = let below = there c.requires.0 c.args.worker c.args.spot c.args.self.now c.requires.1 in omega (arith, c.args.self.now.workers.ok.0)

pub take_first-parcel-requires : goal.take_first-parcel-requires
take_first-parcel-requires c =
    some c.requires.0 c.args.worker c.args.spot c.args.self.now c.index_mut-in-Place.result.now c.requires.1
    (get_at c.args.self.now.workers.items c.args.worker c.index_mut-in-Place.result.now (there c.requires.0 c.args.worker c.args.spot c.args.self.now c.requires.1) c.index_mut-in-Place.ensures.value)

pub index_mut-requires-in-Place-2 : goal.index_mut-requires-in-Place-2
index_mut-requires-in-Place-2 c =
    let at = get_at c.args.self.now.workers.items c.args.worker c.index_mut-in-Place.result.now (there c.requires.0 c.args.worker c.args.spot c.args.self.now c.requires.1) c.index_mut-in-Place.ensures.value in
    let p = place_there c.requires.0 c.args.worker c.in-Place.place c.args.self.now c.index_mut-in-Place.result.now c.take_first-parcel.new.self c.take_first-parcel.result at c.take_first-parcel.ensures.hand
    (subst (λ (s : Spot). May c.requires.0 (puts c.requires.0 c.args.worker s) c.args.self.now) c.in-Place.is c.requires.1) in
    let below = below_get c.args.self.now.members.items c.take_first-parcel.result.to.index p.0 p.1 in
    omega (arith, c.args.self.now.members.ok.0)

pub set_place-requires : goal.set_place-requires
set_place-requires c =
    let at = get_at c.args.self.now.workers.items c.args.worker c.index_mut-in-Place.result.now (there c.requires.0 c.args.worker c.args.spot c.args.self.now c.requires.1) c.index_mut-in-Place.ensures.value in
    let p = place_there c.requires.0 c.args.worker c.in-Place.place c.args.self.now c.index_mut-in-Place.result.now c.take_first-parcel.new.self c.take_first-parcel.result at c.take_first-parcel.ensures.hand
    (subst (λ (s : Spot). May c.requires.0 (puts c.requires.0 c.args.worker s) c.args.self.now) c.in-Place.is c.requires.1) in
    let below = below_get c.args.self.now.members.items c.take_first-parcel.result.to.index p.0 p.1 in
    let here = get_at c.args.self.now.members.items c.take_first-parcel.result.to.index c.index_mut-in-Place-2.result.now below c.index_mut-in-Place-2.ensures.value in
    let same = some_is p.0 c.index_mut-in-Place-2.result.now (sym p.1 ∙ here) in
    subst (λ m. c.in-Place.place < length m.places.items) same p.2

spilled_as : (net : Net) (worker : ℕ) (spot : Spot) (c d : Round) (m n : Worker) → spot ≡ Spill → IsSameRest c d → slice_get c.workers.items worker ≡ Some m → Spills m n
    → d.workers.items ≡ slice_set c.workers.items worker n → d.members.items ≡ c.members.items → d.lines.items ≡ c.lines.items → Does net (puts net worker spot) c d
spilled_as net worker spot c d m n is same at spills workers members lines =
    subst (λ (s : Spot). Does net (puts net worker s) c d) (sym is) (spilled net worker c d m n same at spills workers members lines)

pub returns-in-Spill : goal.returns-in-Spill
returns-in-Spill c =
    let at = get_at c.args.self.now.workers.items c.args.worker c.index_mut.result.now (there c.requires.0 c.args.worker c.args.spot c.args.self.now c.requires.1) c.index_mut.ensures.value in
    on_ok c.spill_first.result _ _
    (λ spills net. spilled_as net c.args.worker c.args.spot c.args.self.now _ c.index_mut.result.now c.spill_first.new.self c.in-Spill.is (record { window = refl; closed = refl }) at spills refl refl refl)
    c.spill_first.ensures

placed_as : (net : Net) (worker : ℕ) (spot : Spot) (place : ℕ) (c d : Round) (m n : Worker) (p : Parcel) (x y : Member) → spot ≡ Place place → slice_get c.workers.items worker ≡ Some m
    → m.hand.items ≡ p ∷ n.hand.items → IsSameRest c d → slice_get c.members.items p.to.index ≡ Some x → HasPlaced place p x y → n.spill ≡ m.spill
    → d.members.items ≡ slice_set c.members.items p.to.index y → d.workers.items ≡ slice_set c.workers.items worker n → d.lines.items ≡ c.lines.items → Does net (puts net worker spot) c d
placed_as net worker spot place c d m n p x y is at hand same here has spill members workers lines =
    subst (λ (s : Spot). Does net (puts net worker s) c d) (sym is) (placed net worker place c m n p at hand d x y same here has spill members workers lines)

pub returns-in-Place : goal.returns-in-Place
returns-in-Place c = λ net.
    let at = get_at c.args.self.now.workers.items c.args.worker c.index_mut-in-Place.result.now (there c.requires.0 c.args.worker c.args.spot c.args.self.now c.requires.1) c.index_mut-in-Place.ensures.value in
    let p = place_there c.requires.0 c.args.worker c.in-Place.place c.args.self.now c.index_mut-in-Place.result.now c.take_first-parcel.new.self c.take_first-parcel.result at c.take_first-parcel.ensures.hand
    (subst (λ (s : Spot). May c.requires.0 (puts c.requires.0 c.args.worker s) c.args.self.now) c.in-Place.is c.requires.1) in
    let below = below_get c.args.self.now.members.items c.take_first-parcel.result.to.index p.0 p.1 in
    let here = get_at c.args.self.now.members.items c.take_first-parcel.result.to.index c.index_mut-in-Place-2.result.now below c.index_mut-in-Place-2.ensures.value in
    placed_as net c.args.worker c.args.spot c.in-Place.place c.args.self.now _ c.index_mut-in-Place.result.now c.take_first-parcel.new.self c.take_first-parcel.result
    c.index_mut-in-Place-2.result.now c.set_place.new.self c.in-Place.is at c.take_first-parcel.ensures.hand (record { window = refl; closed = refl }) here c.set_place.ensures c.take_first-parcel.ensures.spill
    refl refl refl
