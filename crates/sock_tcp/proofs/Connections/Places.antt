-- connections and the records that they stand for, place by place
use Rattle.std.proofs.Common.{◌≡◌, ℕ, zero, suc, ◌+◌, ◌<◌, ◌≤◌, List, [], ◌∷◌, ◌++◌, length, get_or, set, Bool, true, false, cond, not, nat_lt, Some, None, unwrap_or, slice_get, refl, ap, subst, ◌∙◌, arith}
use Rattle.std.specs.List.{position, position_or_len, remove}
use Rattle.std.proofs.lemmas.List.Sums.{prefix_len-le-length}
use Rattle.std.proofs.lemmas.Bool.Decides.{nat_tests}
use Rattle.sim_base.specs.declared.address.Addr.{Addr}
use Rattle.sock_tcp.specs.declared.connection.conn.Conn.{Conn}
use Rattle.sock_tcp.specs.declared.segment.control.Control.{Control}
use Rattle.sock_tcp.specs.connection.Tcb.{Tcb}
use Rattle.sock_tcp.specs.connection.Pairs.{is_pair, place_in}
use Rattle.sock_tcp.specs.connection.StandsFor.{StandsFor, StandsAll}

pub place_within : {X : Type 0} (p : X → Bool) (xs : List X) → position_or_len p xs ≤ length xs
place_within p xs = prefix_len-le-length (λ x. not (p x)) xs

pub unwrapped : {X : Type 0} (p : X → Bool) (xs : List X) → unwrap_or (position p xs) (length xs) ≡ position_or_len p xs
unwrapped p xs = chosen (position_or_len p xs) (length xs) (place_within p xs)
  where
    chosen : (place count : ℕ) → place ≤ count → unwrap_or (cond (nat_lt place count) (Some place) None) count ≡ place
    chosen place count h = grind (arith, nat_tests)

pub same_length : (conns : List Conn) (records : List Tcb) → StandsAll conns records → length conns ≡ length records
same_length [] [] h = refl
same_length [] (r ∷ records) h = absurd h
same_length (c ∷ conns) [] h = absurd h
same_length (c ∷ conns) (r ∷ records) h = ap suc (same_length conns records h.1)

-- the same place is found
pub same_place : (own other : Addr) (conns : List Conn) (records : List Tcb) → StandsAll conns records → position_or_len (λ (c : Conn). is_pair own other c.control) conns ≡ place_in own other records
same_place own other [] [] h = refl
same_place own other [] (r ∷ records) h = absurd h
same_place own other (c ∷ conns) [] h = absurd h
same_place own other (c ∷ conns) (r ∷ records) h =
    ap (λ (k : Control). cond (not (is_pair own other k)) (1 + position_or_len (λ (x : Conn). is_pair own other x.control) conns) 0) h.0.control
    ∙ ap (λ n. cond (not (is_pair own other r.control)) (1 + n) 0) (same_place own other conns records h.1)

-- a record stands at each place
pub record_at : (conns : List Conn) (records : List Tcb) (place : ℕ) → StandsAll conns records → place < length conns → (r : Tcb) × (slice_get records place ≡ Some r)
record_at [] records place h b = absurd (omega arith)
record_at (c ∷ conns) [] place h b = absurd h
record_at (c ∷ conns) (r ∷ records) zero h b = (r, refl)
record_at (c ∷ conns) (r ∷ records) (suc place) h b = record_at conns records place h.1 (omega arith)

pub no_record_at : (conns : List Conn) (records : List Tcb) (place : ℕ) → StandsAll conns records → length conns ≤ place → slice_get records place ≡ None
no_record_at [] [] place h b = refl
no_record_at [] (r ∷ records) place h b = absurd h
no_record_at (c ∷ conns) [] place h b = absurd h
no_record_at (c ∷ conns) (r ∷ records) zero h b = absurd (omega arith)
no_record_at (c ∷ conns) (r ∷ records) (suc place) h b = no_record_at conns records place h.1 (omega arith)

pub stands_at : (conns : List Conn) (records : List Tcb) (place : ℕ) (r : Tcb) (d : Conn) → StandsAll conns records → slice_get records place ≡ Some r → StandsFor (get_or conns place d) r
stands_at [] [] place r d h e = cc
stands_at [] (x ∷ records) place r d h e = absurd h
stands_at (c ∷ conns) [] place r d h e = absurd h
stands_at (c ∷ conns) (x ∷ records) zero r d h e = let same : x ≡ r = cc in subst (λ (y : Tcb). StandsFor c y) same h.0
stands_at (c ∷ conns) (x ∷ records) (suc place) r d h e = stands_at conns records place r d h.1 e

pub stands_set : (conns : List Conn) (records : List Tcb) (place : ℕ) (c : Conn) (r : Tcb) → StandsAll conns records → StandsFor c r → StandsAll (set conns place c) (set records place r)
stands_set [] [] place c r h s = tt
stands_set [] (x ∷ records) place c r h s = absurd h
stands_set (y ∷ conns) [] place c r h s = absurd h
stands_set (y ∷ conns) (x ∷ records) zero c r h s = (s, h.1)
stands_set (y ∷ conns) (x ∷ records) (suc place) c r h s = (h.0, stands_set conns records place c r h.1 s)

pub slice_get_set : (records : List Tcb) (place : ℕ) (old r : Tcb) → slice_get records place ≡ Some old → slice_get (set records place r) place ≡ Some r
slice_get_set [] place old r e = cc
slice_get_set (x ∷ records) zero old r e = refl
slice_get_set (x ∷ records) (suc place) old r e = slice_get_set records place old r e

pub stands_push : (conns : List Conn) (records : List Tcb) (c : Conn) (r : Tcb) → StandsAll conns records → StandsFor c r → StandsAll (conns ++ c ∷ []) (records ++ r ∷ [])
stands_push [] [] c r h s = (s, tt)
stands_push [] (x ∷ records) c r h s = absurd h
stands_push (y ∷ conns) [] c r h s = absurd h
stands_push (y ∷ conns) (x ∷ records) c r h s = (h.0, stands_push conns records c r h.1 s)

pub stands_remove : (conns : List Conn) (records : List Tcb) (place : ℕ) → StandsAll conns records → StandsAll (remove conns place) (remove records place)
stands_remove [] [] zero h = tt
stands_remove [] [] (suc place) h = tt
stands_remove [] (x ∷ records) place h = absurd h
stands_remove (y ∷ conns) [] place h = absurd h
stands_remove (y ∷ conns) (x ∷ records) zero h = h.1
stands_remove (y ∷ conns) (x ∷ records) (suc place) h = (h.0, stands_remove conns records place h.1)

-- a place that was found
below : (place n : ℕ) → place < n → true ≡ nat_lt place n
below place n h = grind (arith, nat_tests)

above : (place n : ℕ) → n ≤ place → false ≡ nat_lt place n
above place n h = grind (arith, nat_tests)

pub found_yes : (own other : Addr) (conns : List Conn) (records : List Tcb) (place : ℕ) → StandsAll conns records → place ≡ place_in own other records → place < length conns → true ≡ nat_lt (place_in own other records) (length records)
found_yes own other conns records place h e b =
    below place (length conns) b
    ∙ (ap (λ n. nat_lt n (length conns)) e ∙ ap (nat_lt (place_in own other records)) (same_length conns records h))

pub found_no : (own other : Addr) (conns : List Conn) (records : List Tcb) (place : ℕ) → StandsAll conns records → place ≡ place_in own other records → length conns ≤ place → false ≡ nat_lt (place_in own other records) (length records)
found_no own other conns records place h e b =
    above place (length conns) b
    ∙ (ap (λ n. nat_lt n (length conns)) e ∙ ap (nat_lt (place_in own other records)) (same_length conns records h))
