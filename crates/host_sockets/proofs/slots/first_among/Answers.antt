use Rattle.std.proofs.Common.{ℕ, List, ◌+◌, drop, subst}
use Rattle.std.proofs.lemmas.List.{drop_more}
use Rattle.host_sockets.specs.inside.Lookup.{is_sought}
use Rattle.host_sockets.proofs.Gathering.{drop_past}
use Rattle.host_sockets.proofs.FirstAmong.{Best, looked, looked_at_all}
use Rattle.host_sockets.proofs.slots.first_among.Goals as goal

pub loop-place-preserved : goal.loop-place-preserved
loop-place-preserved c =
    looked (is_sought c.args.sought) c.args.socks.now c.args.last c.args.places.now c.loop-place.best c.better-best-in-loop-place.result _ (drop (c.loop-place.place-index + 1) c.args.places.now)
    (subst (λ (rest : List ℕ). Best (is_sought c.args.sought) c.args.socks.now c.args.last c.args.places.now c.loop-place.best rest) (drop_more c.args.places.now c.loop-place.place-index 0 c.loop-place-test.true) c.loop-place.invariant)
    c.better-best-in-loop-place.ensures.either c.better-best-in-loop-place.ensures.sought

pub returns-clause-place : goal.returns-clause-place
returns-clause-place c =
    looked_at_all (is_sought c.args.sought) c.args.socks.now c.args.last c.args.places.now c.loop-place.best
    (subst (λ (rest : List ℕ). Best (is_sought c.args.sought) c.args.socks.now c.args.last c.args.places.now c.loop-place.best rest) (drop_past c.args.places.now c.loop-place.place-index c.loop-place-test.false) c.loop-place.invariant)
