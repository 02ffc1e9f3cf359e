use Rattle.std.proofs.Common.{List, sym, subst}
use Rattle.sock_tcp.specs.declared.connection.conn.Conn.{Conn}
use Rattle.sock_tcp.specs.connection.StandsFor.{StandsAll}
use Rattle.sock_tcp.proofs.listener.Listener.add_carried.Goals as goal

pub returns : goal.returns
returns c = λ l h.
    c.in_ok-add_carried.ensures l.records (subst (λ (xs : List Conn). StandsAll xs l.records) (sym c.as_slice.ensures.value) h.records)
