use Rattle.std.proofs.Common.{ℕ, subst}
use Rattle.host_sockets.specs.Sockets.{put_tcp_at}
use Rattle.host_sockets.specs.StandsFor.{Stand}
use Rattle.host_sockets.proofs.sockets.Sockets.put_tcp.Goals as goal

pub returns-clause-place : goal.returns-clause-place
returns-clause-place c = λ t h. c.tcp_place-place.ensures t (c.turn_to.ensures.stands t h)

pub returns-clause-stands : goal.returns-clause-stands
returns-clause-stands c = λ t s h stands.
    subst (λ (n : ℕ). Stand c.put_tcp_at.new.self (put_tcp_at n s t)) (c.tcp_place-place.ensures t (c.turn_to.ensures.stands t h))
    (c.in_ok-put_tcp_at.ensures t s (c.turn_to.ensures.stands t h) stands)
