use Rattle.std.proofs.Common.{Option, Ordering, ap, subst, sym, ◌∙◌, ◌||◌}
use Rattle.std.specs.Ordering.{is_eq}
use Rattle.sim_base.specs.declared.event.Event.{Event}
use Rattle.event_order.specs.Events.{IsOrdered, events_of, has_key, held}
use Rattle.event_order.proofs.EventsLemmas.{has_key_events_of, key_before}
use Rattle.event_order.proofs.queue.Queue.has_key.Goals as goal

pub returns-in-Less : goal.returns-in-Less
returns-in-Less c =
    let entries = c.self.inside.rest.entries in
    let ordered = subst (λ (first : Option Event). IsOrdered (held first entries)) c.in-Some.is c.self.invariant in
    key_before c.args.key.now c.in-Some.first (events_of entries) (sym c.in-Less.ensures) ordered.0
    ∙ ap (has_key c.args.key.now) (ap (λ (first : Option Event). held first entries) (sym c.in-Some.is) ∙ c.self.view_is)

pub returns-in-Greater : goal.returns-in-Greater
returns-in-Greater c =
    let entries = c.self.inside.rest.entries in
    c.contains_key.ensures ∙ has_key_events_of c.args.key.now entries
    ∙ ap (λ (o : Ordering). is_eq o || has_key c.args.key.now (events_of entries)) c.in-Greater.ensures
    ∙ ap (has_key c.args.key.now) (ap (λ (first : Option Event). held first entries) (sym c.in-Some.is) ∙ c.self.view_is)

pub returns-in-None : goal.returns-in-None
returns-in-None c =
    let entries = c.self.inside.rest.entries in
    c.contains_key-in-None.ensures ∙ has_key_events_of c.args.key.now entries
    ∙ ap (has_key c.args.key.now) (ap (λ (first : Option Event). held first entries) (sym c.in-None.is) ∙ c.self.view_is)
