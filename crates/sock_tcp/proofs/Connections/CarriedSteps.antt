-- the steps of the loop over what connections carried
use Rattle.std.proofs.Common.{◌≡◌, ℕ, zero, suc, ◌+◌, ◌<◌, ◌≤◌, List, [], ◌∷◌, ◌++◌, length, get_or, take, map, Some, slice_get, sym, ap, subst, ◌∙◌, append_assoc, add-one, arith}
use Rattle.std.proofs.lemmas.List.{take_all}
use Rattle.sock_tcp.specs.declared.connection.carried.Carried.{Carried}
use Rattle.sock_tcp.specs.declared.connection.conn.Conn.{Conn}
use Rattle.sock_tcp.specs.connection.Carried.{carried_of, with_gone}
use Rattle.sock_tcp.specs.connection.Tcb.{Tcb}
use Rattle.sock_tcp.specs.connection.StandsFor.{StandsFor, StandsAll}
use Rattle.sock_tcp.proofs.Connections.Places.{same_length, record_at, stands_at}

-- one record more
carried_take_suc : (records : List Tcb) (place : ℕ) (r : Tcb) → slice_get records place ≡ Some r → map carried_of (take (suc place) records) ≡ map carried_of (take place records) ++ carried_of r ∷ []
carried_take_suc [] place r e = cc
carried_take_suc (x ∷ records) zero r e = let same : x ≡ r = cc in ap (λ (y : Tcb). carried_of y ∷ []) same
carried_take_suc (x ∷ records) (suc place) r e = ap (λ xs. carried_of x ∷ xs) (carried_take_suc records place r e)

pub carried_more : (conns : List Conn) (records : List Tcb) (place : ℕ) (conn : Conn) (carried : Carried) (first now next : List Carried) → StandsAll conns records → place < length conns → conn ≡ get_or conns place conn → now ≡ with_gone (take place records) first → ((r : Tcb) → StandsFor conn r → carried ≡ carried_of r) → next ≡ now ++ carried ∷ [] → next ≡ with_gone (take (place + 1) records) first
carried_more conns records place conn carried first now next h b is so one more =
    let found = record_at conns records place h b in
    let s = subst (λ (c : Conn). StandsFor c found.0) (sym is) (stands_at conns records place found.0 conn h found.1) in
    more
    ∙ (ap (λ c. now ++ c ∷ []) (one found.0 s)
    ∙ (ap (λ xs. xs ++ carried_of found.0 ∷ []) so
    ∙ (append_assoc first (map carried_of (take place records)) (carried_of found.0 ∷ [])
    ∙ (ap (λ xs. first ++ xs) (sym (carried_take_suc records place found.0 found.1))
    ∙ ap (λ n. with_gone (take n records) first) (sym (add-one place))))))

pub carried_all : (conns : List Conn) (records : List Tcb) (place : ℕ) (first now : List Carried) → StandsAll conns records → length conns ≤ place → now ≡ with_gone (take place records) first → now ≡ with_gone records first
carried_all conns records place first now h b so =
    let n = same_length conns records h in
    so ∙ ap (λ xs. with_gone xs first) (take_all place records (omega arith))
