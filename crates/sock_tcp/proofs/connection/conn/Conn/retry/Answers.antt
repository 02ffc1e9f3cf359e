use Rattle.sock_tcp.specs.connection.Process.{retries_once}
use Rattle.sock_tcp.proofs.connection.conn.Conn.retry.Goals as goal

pub returns : goal.returns
unfolding retries_once
returns c = λ t h.
    c.in_ok-send_one.ensures _ (c.count_expiry.ensures.does _ (record { conn = c.notice_expiry.ensures.stands t.tcb h.conn; segments = h.segments; started = h.started }))
