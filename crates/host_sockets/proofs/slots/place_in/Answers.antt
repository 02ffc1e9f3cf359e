use Rattle.std.proofs.Common.{sym, ◌∙◌}
use Rattle.host_sockets.specs.inside.Lookup.{is_sought}
use Rattle.host_sockets.proofs.Places.{sought_here, sought_next, sought_none}
use Rattle.host_sockets.proofs.slots.place_in.Goals as goal

pub returns-then-is_sought-clause-place : goal.returns-then-is_sought-clause-place
returns-then-is_sought-clause-place c = λ sockets h.
    sought_here (is_sought c.args.sought) c.args.socks.now sockets c.loop-place.place c.index-socks-place.result h (c.loop-place.invariant sockets h) c.loop-place-test.true c.index-socks-place.is
    (λ s stands. sym c.if-is_sought.true ∙ c.is_sought.ensures s stands)

pub loop-place-preserved : goal.loop-place-preserved
loop-place-preserved c = λ sockets h.
    sought_next (is_sought c.args.sought) c.args.socks.now sockets c.loop-place.place c.index-socks-place.result h (c.loop-place.invariant sockets h) c.loop-place-test.true c.index-socks-place.is
    (λ s stands. sym c.if-is_sought.false ∙ c.is_sought.ensures s stands)

pub returns-clause-place : goal.returns-clause-place
returns-clause-place c = λ sockets h.
    sought_none (is_sought c.args.sought) c.args.socks.now sockets c.loop-place.place h (c.loop-place.invariant sockets h) c.loop-place-test.false
