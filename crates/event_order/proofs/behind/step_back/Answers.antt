use Rattle.std.proofs.Common.{Option, ap, subst, sym, ◌∙◌}
use Rattle.sim_base.specs.declared.event.Event.{Event}
use Rattle.event_order.specs.Events.{IsOrdered, events_of, held}
use Rattle.std.proofs.lemmas.Result.{on_ok_weaker}
use Rattle.event_order.proofs.EventsLemmas.{new_before, put_first}
use Rattle.event_order.proofs.behind.step_back.Goals as goal

pub add_behind-requires : goal.add_behind-requires
add_behind-requires c =
    let ordered = subst (λ (first : Option Event). IsOrdered (held first c.args.rest.now.entries)) c.in-Some.is c.requires in
    new_before c.in-Some.event (events_of c.args.rest.now.entries) ordered.0

pub returns-in-Some-clause-ok : goal.returns-in-Some-clause-ok
returns-in-Some-clause-ok c =
    let ordered = subst (λ (first : Option Event). IsOrdered (held first c.args.rest.now.entries)) c.in-Some.is c.requires in
    on_ok_weaker c.add_behind.result
    (λ is. is ∙ put_first c.in-Some.event (events_of c.args.rest.now.entries) ordered.0 ∙ sym (ap (λ (first : Option Event). held first c.args.rest.now.entries) c.in-Some.is))
    c.add_behind.ensures.ok
