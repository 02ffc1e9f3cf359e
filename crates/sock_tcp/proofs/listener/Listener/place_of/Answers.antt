use Rattle.std.proofs.Common.{◌<◌, ◌≤◌, List, sym, subst, ◌∙◌}
use Rattle.sock_tcp.specs.declared.connection.conn.Conn.{Conn}
use Rattle.sock_tcp.specs.connection.StandsFor.{StandsAll}
use Rattle.sock_tcp.proofs.Connections.Places.{found_yes, found_no}
use Rattle.sock_tcp.proofs.listener.Listener.place_of.Goals as goal

pub returns-then-place-len-clause-found : goal.returns-then-place-len-clause-found
returns-then-place-len-clause-found c = λ l h.
    let conns = c.args.self.now.records.items in
    let all = subst (λ (xs : List Conn). StandsAll xs l.records) (sym c.as_slice.ensures.value) h.records in
    let is = c.place_in-place.ensures.place l.records all in
    found_yes c.args.own c.args.other conns l.records c.place_in-place.result h.records is (subst (λ n. c.place_in-place.result < n) (c.len.ensures ∙ c.args.self.now.records.ok.0) c.if-place-len.true)

pub returns-then-place-len-clause-place : goal.returns-then-place-len-clause-place
returns-then-place-len-clause-place c = λ l h.
    let all = subst (λ (xs : List Conn). StandsAll xs l.records) (sym c.as_slice.ensures.value) h.records in
    c.place_in-place.ensures.place l.records all

pub returns-else-place-len-clause-found : goal.returns-else-place-len-clause-found
returns-else-place-len-clause-found c = λ l h.
    let conns = c.args.self.now.records.items in
    let all = subst (λ (xs : List Conn). StandsAll xs l.records) (sym c.as_slice.ensures.value) h.records in
    let is = c.place_in-place.ensures.place l.records all in
    found_no c.args.own c.args.other conns l.records c.place_in-place.result h.records is (subst (λ n. n ≤ c.place_in-place.result) (c.len.ensures ∙ c.args.self.now.records.ok.0) c.if-place-len.false)
