use Rattle.std.proofs.Common.{All, List, Option, ap, subst, sym, ◌∙◌}
use Rattle.std.proofs.lemmas.Bool.{OnTrue_from}
use Rattle.sim_base.specs.declared.event.Event.{Event}
use Rattle.event_order.specs.Events.{IsBefore, IsOrdered, events_of, held}
use Rattle.event_order.proofs.EventsLemmas.{first_of_all}
use Rattle.event_order.proofs.queue.Queue.is_first.Goals as goal

pub returns-in-Some-clause-first : goal.returns-in-Some-clause-first
returns-in-Some-clause-first c =
    let entries = c.self.inside.rest.entries in
    let ordered = subst (λ (first : Option Event). IsOrdered (held first entries)) c.in-Some.is c.self.invariant in
    OnTrue_from c.is_earlier.result _
    (λ is. subst (λ (es : List Event). All (IsBefore c.args.event.now) es)
    (ap (λ (first : Option Event). held first entries) (sym c.in-Some.is) ∙ c.self.view_is)
    (first_of_all c.args.event.now c.in-Some.first (events_of entries) (sym c.is_earlier.ensures ∙ is) ordered.0))
