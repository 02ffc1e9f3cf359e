use Rattle.std.proofs.Common.{◌≡◌, [], length, sym, subst, arith}
use Rattle.std.proofs.lemmas.List.{nil_from_length}
use Rattle.std.specs.Vec.Iter.{into_iter_items}
use Rattle.round_lookahead.specs.inside.OpeningWorld.{AreOpened}
use Rattle.round_lookahead.proofs.WorldOpenings.{row_fits, opened_next, opened_all}
use Rattle.round_lookahead.proofs.world.opening.open_hosts.Goals as goal

pub open_host-requires : goal.open_host-requires
open_host-requires c =
    row_fits c.args.net.now c.args.rows.items (into_iter_items c.loop-row.row-iterator) (into_iter_items c.next.new.self) c.in-Some.row c.loop-row.tasks.items c.requires
    c.in-Some.ensures.steps.0 c.loop-row.invariant

pub loop-row-init : goal.loop-row-init
loop-row-init c = ([], sym c.into_iter-row-iterator.ensures.into_iter_gives.0, subst (AreOpened []) (sym c.in_ok-tasks.ensures.items) tt)

pub loop-row-preserved : goal.loop-row-preserved
loop-row-preserved c =
    opened_next c.args.rows.items (into_iter_items c.loop-row.row-iterator) (into_iter_items c.next.new.self) c.in-Some.row c.loop-row.tasks.items c.push.new.self.items c.in_ok-open_host.field-0
    c.in-Some.ensures.steps.0 c.loop-row.invariant c.in_ok-open_host.ensures c.in_ok-push.ensures.items

pub returns : goal.returns
returns c =
    let empty : length (into_iter_items c.loop-row.row-iterator) ≡ 0 = (let e = c.in-None.ensures.steps.0 in omega (arith, c.loop-row.row-iterator.rest.ok.0)) in
    opened_all c.args.rows.items (into_iter_items c.loop-row.row-iterator) c.loop-row.tasks.items (nil_from_length (into_iter_items c.loop-row.row-iterator) empty) c.loop-row.invariant
