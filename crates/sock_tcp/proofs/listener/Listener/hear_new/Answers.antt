use Rattle.std.proofs.Common.{Option, if◌then◌else◌, ap, subst, ◌∙◌}
use Rattle.host_draws.specs.Draws.{draw}
use Rattle.sock_tcp.specs.declared.segment.header.Header.{Header}
use Rattle.sock_tcp.specs.listener.Listen.{new_heard, header_makes}
use Rattle.sock_tcp.specs.listener.ListensFor.{Tells}
use Rattle.sock_tcp.proofs.Listeners.ListenActs.{tells_nothing}
use Rattle.sock_tcp.proofs.listener.Listener.hear_new.Goals as goal

pub returns-clause-hears : goal.returns-clause-hears
returns-clause-hears c = λ l h.
    subst (λ (o : Option Header). Tells c.args.self.now c.none.result (new_heard c.args.segment.now o (draw c.args.draws.now).0 l)) c.in_default.ensures
    (tells_nothing c.args.self.now l c.none.result h c.none.ensures.segments c.none.ensures.timer)

pub returns-clause-draws : goal.returns-clause-draws
returns-clause-draws c = λ l h.
    let old = c.args.draws.now in
    ap (λ o. if header_makes o l then (draw old).1 else old) c.in_default.ensures

pub returns-in-Some-clause-hears : goal.returns-in-Some-clause-hears
returns-in-Some-clause-hears c = λ l h.
    subst (λ (o : Option Header). Tells c.hear_header.new.self c.in_ok-effects.effects (new_heard c.args.segment.now o (draw c.args.draws.now).0 l)) c.in-Some.ensures
    (c.in_ok-effects.ensures.hears l h)

pub returns-in-Some-clause-draws : goal.returns-in-Some-clause-draws
returns-in-Some-clause-draws c = λ l h.
    let old = c.args.draws.now in
    c.in_ok-effects.ensures.draws l h ∙ ap (λ o. if header_makes o l then (draw old).1 else old) c.in-Some.ensures
