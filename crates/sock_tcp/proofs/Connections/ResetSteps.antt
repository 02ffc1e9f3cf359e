-- the steps of the loop over connections that are reset
use Rattle.std.proofs.Common.{◌≡◌, ℕ, zero, suc, ◌+◌, ◌<◌, ◌≤◌, List, [], ◌∷◌, ◌++◌, length, get_or, take, Some, slice_get, sym, ap, subst, ◌∙◌, append_assoc, append-nil, add-one, arith}
use Rattle.std.proofs.lemmas.List.{take_all}
use Rattle.sim_base.specs.declared.packet.Packet.{Packet}
use Rattle.sock_tcp.specs.declared.connection.conn.Conn.{Conn}
use Rattle.sock_tcp.specs.connection.Tcb.{Tcb}
use Rattle.sock_tcp.specs.connection.Resets.{reset_of, resets_of}
use Rattle.sock_tcp.specs.connection.StandsFor.{StandsFor, StandsAll}
use Rattle.sock_tcp.proofs.Connections.Places.{same_length, record_at, stands_at}

-- one reset more
resets_of_more : (records : List Tcb) (place : ℕ) (r : Tcb) → slice_get records place ≡ Some r → resets_of (take (suc place) records) ≡ resets_of (take place records) ++ reset_of r
resets_of_more [] place r e = cc
resets_of_more (x ∷ records) zero r e = let same : x ≡ r = cc in append-nil (reset_of x) ∙ ap reset_of same
resets_of_more (x ∷ records) (suc place) r e =
    ap (λ xs. reset_of x ++ xs) (resets_of_more records place r e) ∙ sym (append_assoc (reset_of x) (resets_of (take place records)) (reset_of r))

pub resets_more : (conns : List Conn) (records : List Tcb) (place : ℕ) (conn : Conn) (first now next : List Packet) → StandsAll conns records → place < length conns → conn ≡ get_or conns place conn → now ≡ first ++ resets_of (take place records) → ((r : Tcb) → StandsFor conn r → next ≡ now ++ reset_of r) → next ≡ first ++ resets_of (take (place + 1) records)
resets_more conns records place conn first now next h b is so more =
    let found = record_at conns records place h b in
    let s = subst (λ (c : Conn). StandsFor c found.0) (sym is) (stands_at conns records place found.0 conn h found.1) in
    more found.0 s
    ∙ (ap (λ xs. xs ++ reset_of found.0) so
    ∙ (append_assoc first (resets_of (take place records)) (reset_of found.0)
    ∙ (ap (λ xs. first ++ xs) (sym (resets_of_more records place found.0 found.1))
    ∙ ap (λ n. first ++ resets_of (take n records)) (sym (add-one place)))))

pub resets_all : (conns : List Conn) (records : List Tcb) (place : ℕ) (first now : List Packet) → StandsAll conns records → length conns ≤ place → now ≡ first ++ resets_of (take place records) → now ≡ first ++ resets_of records
resets_all conns records place first now h b so =
    let n = same_length conns records h in
    so ∙ ap (λ xs. first ++ resets_of xs) (take_all place records (omega arith))
