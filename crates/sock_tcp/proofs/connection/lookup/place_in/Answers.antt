use Rattle.std.proofs.Common.{◌≤◌, length, unwrap_or, ap, subst, sym, ◌∙◌}
use Rattle.sock_tcp.specs.declared.connection.conn.Conn.{Conn}
use Rattle.sock_tcp.specs.connection.Pairs.{is_pair}
use Rattle.sock_tcp.proofs.Connections.Places.{place_within, unwrapped, same_place}
use Rattle.sock_tcp.proofs.connection.lookup.place_in.Goals as goal

pub returns-clause-place : goal.returns-clause-place
returns-clause-place c = λ records h.
    c.unwrap_or.ensures
    ∙ (ap (λ o. unwrap_or o (length c.args.conns.now)) c.position_in.ensures
    ∙ (unwrapped (λ (x : Conn). is_pair c.args.own c.args.other x.control) c.args.conns.now
    ∙ same_place c.args.own c.args.other c.args.conns.now records h))

pub returns-clause-within : goal.returns-clause-within
returns-clause-within c =
    let place =
    c.unwrap_or.ensures
    ∙ (ap (λ o. unwrap_or o (length c.args.conns.now)) c.position_in.ensures
    ∙ unwrapped (λ (x : Conn). is_pair c.args.own c.args.other x.control) c.args.conns.now) in
    let within = place_within (λ (x : Conn). is_pair c.args.own c.args.other x.control) c.args.conns.now in
    subst (λ n. n ≤ length c.args.conns.now) (sym place) within
