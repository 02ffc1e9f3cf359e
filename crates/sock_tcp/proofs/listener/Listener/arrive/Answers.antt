use Rattle.std.proofs.Common.{if◌then◌else◌, sym, ap, ◌∙◌}
use Rattle.host_draws.specs.Draws.{draw}
use Rattle.sock_tcp.specs.connection.Arrival.{takes_packet}
use Rattle.sock_tcp.specs.listener.Listen.{new_heard, load_header, hears}
use Rattle.sock_tcp.proofs.Listeners.Dropping.{gone_kept, gone_none}
use Rattle.sock_tcp.proofs.Listeners.ListenActs.{tells_kept, tells_kept_none, takes_word_kept, takes_word_new}
use Rattle.sock_tcp.proofs.listener.Listener.arrive.Goals as goal

pub returns-in-Some-clause-hears : goal.returns-in-Some-clause-hears
unfolding hears
returns-in-Some-clause-hears c = λ l h.
    let p = c.args.segment.now in
    tells_kept (takes_packet p) p.to p.from c.args.self.now _ l c.in_ok-effects.effects (new_heard p (load_header p.load) (draw c.args.draws.now).0 l) c.in-Some.place h c.in-Some.ensures.within (c.in-Some.ensures.place l h) (c.in_ok-effects.ensures.tells l h)

pub returns-in-Some-clause-draws : goal.returns-in-Some-clause-draws
returns-in-Some-clause-draws c = λ l h.
    let old = c.args.draws.now in
    sym (ap (λ t. if t then (draw old).1 else old) (takes_word_kept c.args.segment.now l (sym (c.in-Some.ensures.found l h))))

pub returns-clause-hears : goal.returns-clause-hears
unfolding hears
returns-clause-hears c = λ l h.
    let p = c.args.segment.now in
    tells_kept_none (takes_packet p) p.to p.from _ l c.in_ok-heard.heard (new_heard p (load_header p.load) (draw c.args.draws.now).0 l) (sym (c.in_default.ensures.found l h)) (c.in_ok-heard.ensures.hears l h)

pub returns-clause-draws : goal.returns-clause-draws
returns-clause-draws c = λ l h.
    let old = c.args.draws.now in
    c.in_ok-heard.ensures.draws l h
    ∙ sym (ap (λ t. if t then (draw old).1 else old) (takes_word_new c.args.segment.now l (sym (c.in_default.ensures.found l h))))

pub returns-in-Some-clause-gone : goal.returns-in-Some-clause-gone
returns-in-Some-clause-gone c = λ l h.
    let p = c.args.segment.now in
    gone_kept (takes_packet p) p.to p.from c.args.self.now l c.in-Some.place c.args.gone.now.items c.record_arrive.new.gone.items h c.in-Some.ensures.within (c.in-Some.ensures.place l h) (c.in_ok-effects.ensures.gone l h)

pub returns-clause-gone : goal.returns-clause-gone
returns-clause-gone c = λ l h.
    let p = c.args.segment.now in
    gone_none (takes_packet p) p.to p.from l c.args.gone.now.items (sym (c.in_default.ensures.found l h))
