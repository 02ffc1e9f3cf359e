use Rattle.std.proofs.Common.{◌≡◌, ℕ, ◌<◌, Option, Some, None, length, refl, sym, subst, ◌∙◌}
use Rattle.world_order.proofs.Homes.{some_is}
use Rattle.round_schedule.proofs.Guarding.{held_same}
use Rattle.round_schedule.proofs.Keeping.{back_held, given_back}
use Rattle.round_schedule.proofs.Pairs.{get_at}
use Rattle.round_schedule.proofs.round.Round.give_back.Goals as goal

pub returns-in-Some : goal.returns-in-Some
returns-in-Some c = λ net.
    let found = back_held c.requires.0 c.args.worker c.args.self.now c.requires.1 in
    let same = some_is found.0 c.in-Some.number (sym found.1 ∙ sym c.held.ensures ∙ c.in-Some.is) in
    given_back net c.args.worker c.args.self.now _ c.in-Some.number c.index_mut.result.now (record { window = refl; closed = refl })
    (get_at c.args.self.now.members.items c.in-Some.number c.index_mut.result.now (subst (λ (n : ℕ). n < length c.args.self.now.members.items) same found.2) c.index_mut.ensures.value)
    (λ w r stands. sym (held_same net w c.args.self.now r stands c.args.worker) ∙ sym c.held.ensures ∙ c.in-Some.is)
    refl refl refl

pub returns-in_default : goal.returns-in_default
returns-in_default c = λ net.
    let found = back_held c.requires.0 c.args.worker c.args.self.now c.requires.1 in
    absurd (c.in_default.not-Some found.0 (c.held.ensures ∙ found.1))
