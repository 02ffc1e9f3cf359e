use Rattle.host_sockets.specs.Accepting.{accept_asked, accepts_at, accepts_tcp}
use Rattle.host_sockets.proofs.Taking.{accepts_row}
use Rattle.host_sockets.proofs.sockets.Sockets.accept_tcp.Goals as goal

pub returns-in_ok-accepted-in-Some : goal.returns-in_ok-accepted-in-Some
unfolding accepts_tcp
returns-in_ok-accepted-in-Some c = λ t h.
    accepts_row c.take_at.new.self c.place_conn.new.self t c.args.k c.in-Some.conn c.in_ok-accepted-in-Some.accepted (accept_asked c.args.k t) (accepts_at c.args.k t) (c.in_ok-accept_asked.ensures t h) (c.in-Some.ensures t h) c.in_ok-accepted-in-Some.ensures.answer c.in_ok-accepted-in-Some.ensures.stands
