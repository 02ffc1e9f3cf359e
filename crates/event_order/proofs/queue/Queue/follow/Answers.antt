use Rattle.std.proofs.Common.{List, ap, subst, sym, ◌∙◌}
use Rattle.sim_base.specs.declared.event.Event.{Event}
use Rattle.event_order.specs.Events.{ComesLater, has_key, held}
use Rattle.std.proofs.lemmas.Result.{on_err_weaker, on_ok_weaker}
use Rattle.event_order.proofs.EventsLemmas.{follows, ordered_either}
use Rattle.event_order.proofs.queue.Queue.follow.Goals as goal

pub invariant_of-self : goal.invariant_of-self
invariant_of-self c =
    let first = c.self.inside.first in
    let old = c.self.inside.rest.entries in
    let new = c.add_behind.new.rest.entries in
    let later : ComesLater c.args.event (held first old) = subst (λ (es : List Event). ComesLater c.args.event es) (sym c.self.view_is) c.requires.later in
    ordered_either c.add_behind.result c.args.event (held first old) (held first new) c.self.invariant
    (ap (λ (es : List Event). has_key c.args.event.key es) c.self.view_is ∙ c.requires.new)
    (on_ok_weaker c.add_behind.result (λ is. follows c.args.event first old new later is) c.add_behind.ensures.ok)
    (on_err_weaker c.add_behind.result (λ is. ap (held first) is) c.add_behind.ensures.err)
