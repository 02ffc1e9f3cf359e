use Rattle.std.proofs.Common.{◌∙◌}
use Rattle.host_inbox.proofs.SeatSteps.{joins}
use Rattle.host_inbox.proofs.JoiningSteps.{begins, joins_more, last_is_theirs, holds_nothing}
use Rattle.host_inbox.proofs.joining.joined.Goals as goal

pub loop-carrier-init : goal.loop-carrier-init
loop-carrier-init g c =
    let id = c.args.places.now.table_id in
    let all = c.args.carriers.items in
    let left = c.pop.new.self.items in
    let pop = c.in-Some.ensures in
    let seat = c.into_seat-seat in
    record {
      table = seat.ensures.table ∙ last_is_theirs id all left c.in-Some.last c.requires.theirs pop.items;
      joins = begins id all left c.in-Some.last seat.result.me pop.items c.requires.theirs seat.ensures.knows;
    }

pub join_seat-requires : goal.join_seat-requires
join_seat-requires g c =
    let id = c.args.places.now.table_id in
    let before = c.into_seat-before in
    let inv = c.loop-carrier.invariant in (
      before.ensures.table ∙ last_is_theirs id c.loop-carrier.carriers.items c.pop-in-loop-carrier.new.self.items c.in-Some-pop.carrier inv.joins.theirs c.in-Some-pop.ensures.items,
      inv.table,
      holds_nothing id c.args.carriers.items c.loop-carrier.carriers.items c.loop-carrier.seat.me inv.joins,
      c.requires.words,
      joins c.args.places.now.key before.result.id c.loop-carrier.seat.id before.result.me.0 c.loop-carrier.seat.me.0,
    )

pub loop-carrier-preserved : goal.loop-carrier-preserved
loop-carrier-preserved g c =
    let id = c.args.places.now.table_id in
    let all = c.args.carriers.items in
    let old = c.loop-carrier.carriers.items in
    let left = c.pop-in-loop-carrier.new.self.items in
    let pop = c.in-Some-pop.ensures in
    let next = c.in-Some-pop.carrier in
    let before = c.into_seat-before in
    let inv = c.loop-carrier.invariant in
    record {
      table = c.join_seat.ensures.0 ∙ (before.ensures.table ∙ last_is_theirs id old left next inv.joins.theirs pop.items);
      joins = joins_more id all old left next c.loop-carrier.seat.me before.result.me c.join_seat.new.seat.me inv.joins pop.items before.ensures.knows c.join_seat.ensures.2;
    }
