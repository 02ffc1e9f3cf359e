use Rattle.std.proofs.Common.{ap, ◌∙◌, List, []}
use Rattle.sim_base.specs.declared.event.Event.{Event}
use Rattle.host_link.specs.Handing.{with_events}
use Rattle.host_link.specs.Link.{LinkState, without_made}
use Rattle.host_link.proofs.link.Link.begin.Goals as goal

pub returns-clause-rest : goal.returns-clause-rest
returns-clause-rest c = c.hand_out-events.ensures.rest ∙ ap without_made c.in_ok-begin_all.ensures

pub returns-clause-made : goal.returns-clause-made
returns-clause-made c =
    c.in_ok-hold_all.ensures
    ∙ (ap (with_events c.hand_out-events.result.0.items) c.new-queue.ensures
    ∙ ap (λ (es : List Event). with_events es []) (c.hand_out-events.ensures.made ∙ ap (λ (l : LinkState). l.made) c.in_ok-begin_all.ensures))
