use Rattle.std.proofs.Common.{ℕ, ◌<◌, List, All, refl, sym, subst, ◌∙◌}
use Rattle.sim_base.specs.declared.event.Parcel.{Parcel}
use Rattle.round_lookahead.proofs.SettleSteps.{works_below, all_some, length_slots, has_settled}
use Rattle.round_lookahead.proofs.world.settling.settle.Goals as goal

pub put_back-requires : goal.put_back-requires
put_back-requires c = works_below c.args.count c.args.works.items c.args.rows.items c.requires

pub deliver-requires : goal.deliver-requires
deliver-requires c =
    subst (λ (n : ℕ). All (λ (p : Parcel). p.to.index < n) c.in_ok-slots.field-0.spill.items) (sym c.requires.rows_count)
    (subst (λ (ps : List Parcel). All (λ (p : Parcel). p.to.index < c.args.count) ps) (sym c.in_ok-slots.ensures.spill) c.requires.to)

pub retask-requires-clause-count : goal.retask-requires-clause-count
retask-requires-clause-count c =
    c.in_ok-deliver.ensures.count ∙ c.requires.rows_count ∙ sym (length_slots c.args.count c.args.works.items c.args.rows.items c.requires c.in_ok-slots.field-0.slots.items c.in_ok-slots.ensures.slots)

pub retask-requires-clause-taken : goal.retask-requires-clause-taken
retask-requires-clause-taken c = all_some c.args.count c.args.works.items c.args.rows.items c.requires c.in_ok-slots.field-0.slots.items c.in_ok-slots.ensures.slots

pub returns : goal.returns
returns c =
    has_settled c.args.count c.args.works.items c.args.rows.items c.requires c.in_ok-slots.field-0.slots.items c.in_ok-slots.ensures.slots
    c.deliver.new.rows.items c.in_ok-tasks.field-0 c.in_ok-tasks.ensures _ refl refl
    c.in_ok-slots.field-0.spill.items c.in_ok-slots.ensures.spill c.in_ok-deliver.ensures.events
    c.in_ok-deliver.ensures.theirs
    (λ all is. c.in_ok-merge.ensures all (c.in_ok-slots.ensures.lines ∙ is))
    c.in_ok-slots.ensures.took
