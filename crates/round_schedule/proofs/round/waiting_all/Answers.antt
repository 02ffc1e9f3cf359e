use Rattle.std.proofs.Common.{◌≡◌, [], length, sym, arith}
use Rattle.std.proofs.lemmas.List.{nil_from_length}
use Rattle.std.specs.Vec.Iter.{into_iter_items}
use Rattle.round_schedule.proofs.Clearing.{making_start, making_next, making_end}
use Rattle.round_schedule.proofs.round.waiting_all.Goals as goal

pub loop-host-init : goal.loop-host-init
loop-host-init c =
    making_start c.args.hosts.items (into_iter_items c.into_iter-host-iterator.result) c.new-members.result.items (sym c.into_iter-host-iterator.ensures.into_iter_gives.0) c.new-members.ensures.items

pub loop-host-preserved : goal.loop-host-preserved
loop-host-preserved c =
    making_next c.args.hosts.items (into_iter_items c.loop-host.host-iterator) (into_iter_items c.next.new.self) c.loop-host.members.items _ c.in-Some.host _
    c.in-Some.ensures.steps.0 c.loop-host.invariant c.in_ok-waiting.ensures c.in_ok-push.ensures.items

pub returns : goal.returns
returns c =
    let empty : length (into_iter_items c.loop-host.host-iterator) ≡ 0 = (let e = c.in-None.ensures.steps.0 in omega (arith, c.loop-host.host-iterator.rest.ok.0)) in
    making_end c.args.hosts.items (into_iter_items c.loop-host.host-iterator) c.loop-host.members.items (nil_from_length (into_iter_items c.loop-host.host-iterator) empty) c.loop-host.invariant
