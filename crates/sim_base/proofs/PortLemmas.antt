-- ports in a row, one after another
use Rattle.std.proofs.Common.{◌≡◌, ℕ, zero, suc, ◌+◌, ◌-◌, ◌<◌, true, false, not, cond, List, Option, Some, None, refl, sym, ap, ◌∙◌, inl, inr, arith, ◌≢◌, ◌==◌, ◌||◌, length, take, get_or}
use Rattle.std.proofs.lemmas.Bool.{cases_lt, eq-eqb, ne_eqb}
use Rattle.std.proofs.lemmas.List.Folds.{list_any_at, list_any_more}
use Rattle.std.specs.Prelude.{find, Result, Ok, Err}
use Rattle.std.specs.Result.{OkIff, result_ok}
use Rattle.std.specs.List.{range_with_len}
use Rattle.sim_base.specs.declared.address.Addr.{Addr}
use Rattle.sim_base.specs.Addresses.{has_port, first_free_port}

abbrev later : List Addr → ℕ → ℕ → Option ℕ
later bound port count = find (λ candidate. not (has_port bound candidate)) (range_with_len (port + 1) count)

pub first_free_port_free : (bound : List Addr) (port count : ℕ) → has_port bound port ≡ false → 0 < count → first_free_port bound port count ≡ Some port
unfolding first_free_port
first_free_port_free bound port zero free some = absurd (omega arith)
first_free_port_free bound port (suc count) free some = ap (λ b. cond (not b) (Some port) (later bound port count)) free

pub first_free_port_taken : (bound : List Addr) (port count : ℕ) → has_port bound port ≡ true → 0 < count
    → first_free_port bound port count ≡ first_free_port bound (port + 1) (count - 1)
unfolding first_free_port
first_free_port_taken bound port zero taken some = absurd (omega arith)
first_free_port_taken bound port (suc count) taken some =
    let less : count ≡ suc count - 1 = omega arith in
    ap (λ b. cond (not b) (Some port) (later bound port count)) taken ∙ ap (later bound port) less

pub first_free_port_none : (bound : List Addr) (port count : ℕ) → count ≡ 0 → first_free_port bound port count ≡ None
unfolding first_free_port
first_free_port_none bound port zero none = refl
first_free_port_none bound port (suc count) none = absurd (omega arith)

-- the port that no socket has, if it is one
pub first_free_port_told : {E : Type 0} (bound : List Addr) (port : ℕ) (told : Result ℕ E) → has_port bound port ≡ false → OkIff told (port < 65536) port
    → result_ok told ≡ first_free_port bound port (65536 - port)
first_free_port_told bound port (Ok found) free is_port =
    ap Some is_port.1 ∙ sym (first_free_port_free bound port (65536 - port) free (omega (arith, is_port.0)))
first_free_port_told bound port (Err e) free is_none = sym (first_free_port_none bound port (65536 - port) (elim (cases_lt port 65536) [ inl less ↦ absurd (is_none less) | inr more ↦ omega (arith, more) ]))

-- a port that a socket has is passed
pub first_free_port_passed : (bound : List Addr) (i port : ℕ) (d : Addr) → i < length bound → (get_or bound i d).port ≡ port → port < 65536
    → first_free_port bound (port + 1) (65536 - (port + 1)) ≡ first_free_port bound port (65536 - port)
first_free_port_passed bound i port d here same is_port =
    let taken : has_port bound port ≡ true = list_any_at (λ at. at.port == port) bound i d here (eq-eqb _ _ same) in
    let less : 65536 - (port + 1) ≡ 65536 - port - 1 = omega arith in
    ap (first_free_port bound (port + 1)) less ∙ sym (first_free_port_taken bound port (65536 - port) taken (omega arith))

-- a port that no socket has so far, nor the next one
pub has_port_not_so_far : (bound : List Addr) (i port : ℕ) (d : Addr) → i < length bound → has_port (take i bound) port ≡ false → (get_or bound i d).port ≢ port
    → has_port (take (i + 1) bound) port ≡ false
has_port_not_so_far bound i port d here before differs =
    list_any_more (λ at. at.port == port) bound i d here ∙ ap (λ b. b || ((get_or bound i d).port == port)) before ∙ ne_eqb _ _ differs
