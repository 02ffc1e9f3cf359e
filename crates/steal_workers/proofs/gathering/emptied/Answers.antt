use Rattle.std.proofs.Common.{◌≡◌, List, Vec, length, ap, sym, ◌∙◌, subst, arith}
use Rattle.std.proofs.lemmas.List.{length-map}
use Rattle.std.specs.declared.alloc.Global.{Global}
use Rattle.steal_workers.specs.declared.seat.Stack.{Stack}
use Rattle.steal_workers.specs.declared.item.Numbered.{Numbered}
use Rattle.steal_workers.specs.Deals.{IsDealt}
use Rattle.steal_workers.specs.WholeDeals.{common_deal}
use Rattle.steal_workers.specs.SeatViews.{SeatView}
use Rattle.steal_workers.specs.Gathers.{IsGathered}
use Rattle.steal_workers.specs.inside.Emptying.{IsEmptying}
use Rattle.steal_workers.proofs.EmptySteps.{start, ends}
use Rattle.steal_workers.proofs.gathering.emptied.Goals as goal

pub empty_all-requires-clause-emptying : goal.empty_all-requires-clause-emptying
empty_all-requires-clause-emptying g c =
    let T = g.row.T.Denot in
    let seats = c.args.seats.items in
    let stacks = c.stacks_of-stacks.result.items in
    let from = start seats stacks c.requires.whole c.stacks_of-stacks.ensures.stacks c.stacks_of-stacks.ensures.places c.stacks_of-stacks.ensures.numbers
    (λ w. c.stacks_of-stacks.ensures.dealt (omega (arith, c.args.seats.ok.0))) in
    subst (λ (p : List (SeatView T) × List (Stack T) × List (Numbered T)). IsEmptying p.0 (length p.1) p.1 p.2)
    (λ i. (sym (ap (λ (v : Vec (SeatView T) Global). v.items) c.of-all.ensures) i, sym c.as_mut_slice.ensures.value i, sym c.requires.left.0 i)) from

pub empty_all-requires-clause-dealt : goal.empty_all-requires-clause-dealt
empty_all-requires-clause-dealt g c = λ some_stack.
    let T = g.row.T.Denot in
    let seats = c.args.seats.items in
    let stacks = c.stacks_of-stacks.result.items in
    let slice = ap length c.as_mut_slice.ensures.value in
    let wide : length stacks ≡ length seats = sym (length-map stacks (λ (s : Stack T). s.place)) ∙ ap length c.stacks_of-stacks.ensures.places ∙ length-map seats (λ (s : SeatView T). s.place) in
    subst (λ (all : List (SeatView T)). IsDealt (common_deal all).queues (common_deal all).tasks) (sym (ap (λ (v : Vec (SeatView T) Global). v.items) c.of-all.ensures))
    (c.stacks_of-stacks.ensures.dealt (omega (arith, c.args.seats.ok.0))).0

pub empty_all-requires-clause-column : goal.empty_all-requires-clause-column
empty_all-requires-clause-column g c =
    let T = g.row.T.Denot in
    let seats = c.args.seats.items in
    let stacks = c.stacks_of-stacks.result.items in
    let slice = ap length c.as_mut_slice.ensures.value in
    let wide : length stacks ≡ length seats = sym (length-map stacks (λ (s : Stack T). s.place)) ∙ ap length c.stacks_of-stacks.ensures.places ∙ length-map seats (λ (s : SeatView T). s.place) in
    let room = c.requires.column.1 in
    (c.requires.column.0, omega (arith, c.args.seats.ok.0))

pub empty_all-requires-clause-room : goal.empty_all-requires-clause-room
empty_all-requires-clause-room g c =
    let T = g.row.T.Denot in
    let same = ap (λ (v : Vec (SeatView T) Global). length (common_deal v.items).tasks) c.of-all.ensures in
    let room = c.requires.left.1 in
    omega arith

pub returns : goal.returns
returns g c =
    let T = g.row.T.Denot in
    subst (λ (seats : List (SeatView T)). IsGathered seats c.empty_all.new.left.items) (ap (λ (v : Vec (SeatView T) Global). v.items) c.of-all.ensures)
    (ends c.of-all.result.value.items c.empty_all.new.stacks c.empty_all.new.left.items c.empty_all.ensures)
