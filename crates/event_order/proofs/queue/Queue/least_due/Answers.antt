use Rattle.std.proofs.Common.{List, Option, ap, option_map, slice_get, subst, sym, ◌∙◌}
use Rattle.sim_base.specs.declared.event.Event.{Event}
use Rattle.event_order.specs.Events.{IsLeastDue, held}
use Rattle.event_order.proofs.queue.Queue.least_due.Goals as goal

pub returns-in-None-clause-first : goal.returns-in-None-clause-first
returns-in-None-clause-first c =
    c.least_due_in.ensures.first
    ∙ ap (λ (events : List Event). option_map (λ (event : Event). event.key.due) (slice_get events 0))
    (ap (λ (first : Option Event). held first c.self.inside.rest.entries) (sym c.in-None.is) ∙ c.self.view_is)

pub returns-in-None-clause-least : goal.returns-in-None-clause-least
returns-in-None-clause-least c =
    subst (λ (events : List Event). IsLeastDue events c.least_due_in.result)
    (ap (λ (first : Option Event). held first c.self.inside.rest.entries) (sym c.in-None.is) ∙ c.self.view_is) c.least_due_in.ensures.least
