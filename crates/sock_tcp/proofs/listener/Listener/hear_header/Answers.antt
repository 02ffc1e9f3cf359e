use Rattle.std.proofs.Common.{◌≡◌, true, false, if◌then◌else◌, sym, ap, ◌∙◌}
use Rattle.host_draws.specs.Draws.{draw}
use Rattle.sock_tcp.specs.listener.Listen.{makes_record}
use Rattle.sock_tcp.proofs.Listeners.ListenActs.{tells_not_made}
use Rattle.sock_tcp.proofs.listener.Listener.hear_header.Goals as goal

pub returns-then-header_makes-clause-hears : goal.returns-then-header_makes-clause-hears
returns-then-header_makes-clause-hears c = λ l h.
    let b : makes_record c.args.header l ≡ true = cc (c.header_makes.ensures l h) in
    c.in_ok-effects.ensures.hears l h b

pub returns-then-header_makes-clause-draws : goal.returns-then-header_makes-clause-draws
returns-then-header_makes-clause-draws c = λ l h.
    let b : makes_record c.args.header l ≡ true = cc (c.header_makes.ensures l h) in
    let old = c.args.draws.now in
    c.in_ok-effects.ensures.draws ∙ sym (ap (λ t. if t then (draw old).1 else old) b)

pub returns-clause-hears : goal.returns-clause-hears
returns-clause-hears c = λ l h.
    let b : makes_record c.args.header l ≡ false = cc (c.header_makes.ensures l h) in
    tells_not_made c.args.segment.now c.args.header (draw c.args.draws.now).0 c.args.self.now l c.none.result h b c.none.ensures.segments c.none.ensures.timer

pub returns-clause-draws : goal.returns-clause-draws
returns-clause-draws c = λ l h.
    let b : makes_record c.args.header l ≡ false = cc (c.header_makes.ensures l h) in
    let old = c.args.draws.now in
    sym (ap (λ t. if t then (draw old).1 else old) b)
