use Rattle.std.proofs.Common.{sym}
use Rattle.sock_tcp.specs.connection.Process.{expires}
use Rattle.sock_tcp.specs.listener.Listen.{nothing_heard, hears_timer}
use Rattle.sock_tcp.proofs.Listeners.Dropping.{gone_kept, gone_none}
use Rattle.sock_tcp.proofs.Listeners.ListenActs.{tells_kept, tells_kept_none, tells_nothing}
use Rattle.sock_tcp.proofs.listener.Listener.timer.Goals as goal

pub returns-in-Some-clause-hears : goal.returns-in-Some-clause-hears
unfolding hears_timer
returns-in-Some-clause-hears c = λ l h.
    tells_kept expires c.args.local c.args.peer c.args.self.now _ l c.in_ok-effects.effects (nothing_heard l) c.in-Some.place h c.in-Some.ensures.within (c.in-Some.ensures.place l h) (c.in_ok-effects.ensures.tells l h)

pub returns-clause-hears : goal.returns-clause-hears
unfolding hears_timer
returns-clause-hears c = λ l h.
    tells_kept_none expires c.args.local c.args.peer c.args.self.now l c.none.result (nothing_heard l) (sym (c.in_default.ensures.found l h)) (tells_nothing c.args.self.now l c.none.result h c.none.ensures.segments c.none.ensures.timer)

pub returns-in-Some-clause-gone : goal.returns-in-Some-clause-gone
returns-in-Some-clause-gone c = λ l h.
    gone_kept expires c.args.local c.args.peer c.args.self.now l c.in-Some.place c.args.gone.now.items c.record_expire.new.gone.items h c.in-Some.ensures.within (c.in-Some.ensures.place l h) (c.in_ok-effects.ensures.gone l h)

pub returns-clause-gone : goal.returns-clause-gone
returns-clause-gone c = λ l h.
    gone_none expires c.args.local c.args.peer l c.args.gone.now.items (sym (c.in_default.ensures.found l h))
