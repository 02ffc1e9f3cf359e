use Rattle.std.proofs.Common.{◌≡◌, length, sym, arith}
use Rattle.std.proofs.lemmas.List.{nil_from_length}
use Rattle.std.specs.Vec.Iter.{into_iter_items}
use Rattle.schedule_tests.proofs.Hosts.{row_fits, opening_start, opening_next, opening_end}
use Rattle.schedule_tests.proofs.beginning.open_hosts.Goals as goal

pub new-requires : goal.new-requires
new-requires c =
    (row_fits c.args.net.now c.args.rows.items (into_iter_items c.loop-row.row-iterator) (into_iter_items c.next.new.self) c.in-Some.row c.loop-row.hosts.items c.requires
    c.in-Some.ensures.steps.0 c.loop-row.invariant).few

pub loop-row-init : goal.loop-row-init
loop-row-init c =
    opening_start c.args.rows.items (into_iter_items c.into_iter-row-iterator.result) c.new-hosts.result.items (sym c.into_iter-row-iterator.ensures.into_iter_gives.0) c.new-hosts.ensures.items

pub loop-row-preserved : goal.loop-row-preserved
loop-row-preserved c =
    opening_next c.args.rows.items (into_iter_items c.loop-row.row-iterator) (into_iter_items c.next.new.self) c.loop-row.hosts.items _ c.in-Some.row _
    c.in-Some.ensures.steps.0 c.loop-row.invariant c.in_ok-new.ensures c.in_ok-push.ensures.items

pub returns : goal.returns
returns c =
    let empty : length (into_iter_items c.loop-row.row-iterator) ≡ 0 = (let e = c.in-None.ensures.steps.0 in omega (arith, c.loop-row.row-iterator.rest.ok.0)) in
    opening_end c.args.net.now c.args.rows.items (into_iter_items c.loop-row.row-iterator) c.loop-row.hosts.items c.requires (nil_from_length (into_iter_items c.loop-row.row-iterator) empty) c.loop-row.invariant
