use Rattle.std.proofs.Common.{◌≡◌, ℕ, ◌<◌, length, refl, sym, ap, ◌∙◌, arith}
use Rattle.world_order.proofs.Homes.{below_get, some_is}
use Rattle.round_schedule.proofs.Pairs.{get_at}
use Rattle.round_schedule.proofs.Turning.{finds, fire_held, fire_worker, fire_below, fire_may_turn, fired}
use Rattle.round_schedule.proofs.round.Round.fire_host.Goals as goal

pub unreachable-requires : goal.unreachable-requires
unreachable-requires c = c.in_default.not-Some _ (c.held.ensures ∙ fire_held c.args.net.now c.args.worker c.args.self.now c.requires)

pub fire-requires : goal.fire-requires
fire-requires c =
    let held = sym c.held.ensures ∙ c.in-Some.is in
    fire_may_turn c.args.net.now c.args.worker c.args.self.now c.requires c.in-Some.number c.index_mut.result.now held
    (get_at c.args.self.now.members.items c.in-Some.number c.index_mut.result.now (fire_below c.args.net.now c.args.worker c.args.self.now c.requires c.in-Some.number held) c.index_mut.ensures.value)

pub index_mut-requires-2 : goal.index_mut-requires-2
index_mut-requires-2 c =
    let w = fire_worker c.args.net.now c.args.worker c.args.self.now c.requires in
    let below = below_get c.args.self.now.workers.items c.args.worker w.0 w.1 in
    omega (arith, c.args.self.now.workers.ok.0)

pub returns : goal.returns
returns c =
    let held = sym c.held.ensures ∙ c.in-Some.is in
    let w = fire_worker c.args.net.now c.args.worker c.args.self.now c.requires in
    let below = below_get c.args.self.now.workers.items c.args.worker w.0 w.1 in
    fired c.args.net.now c.args.worker c.args.self.now c.requires _ c.in-Some.number c.index_mut.result.now c.fire.new.self c.index_mut-2.result.now _ c.in_ok-parcels.field-0 held
    (get_at c.args.self.now.members.items c.in-Some.number c.index_mut.result.now (fire_below c.args.net.now c.args.worker c.args.self.now c.requires c.in-Some.number held) c.index_mut.ensures.value)
    c.in_ok-parcels.ensures
    (get_at c.args.self.now.workers.items c.args.worker c.index_mut-2.result.now below c.index_mut-2.ensures.value)
    (record { window = refl; closed = refl }) refl refl c.in_ok-append.ensures.items refl c.in_ok-append-2.ensures.items
