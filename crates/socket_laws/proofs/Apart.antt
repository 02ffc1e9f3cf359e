-- sockets that are apart, and what keeps them so
use Rattle.std.proofs.Common.{◌≡◌, ◌≢◌, ℕ, zero, suc, ◌==◌, List, [], ◌∷◌, ◌++◌, length, set, Bool, true, false, ◌&&◌, ◌||◌, if◌then◌else◌, nat_lt, Option, Some, None, slice_get, ◌⊎◌, inl, inr, refl, sym, ap, subst, ◌∙◌, arith}
use Rattle.std.specs.List.{list_any, flat_map}
use Rattle.std.proofs.lemmas.Bool.{cases_eq, or_parts}
use Rattle.std.proofs.lemmas.Bool.Decides.{nat_tests}
use Rattle.std.proofs.lemmas.List.Folds.{list_any-append}
use Rattle.sim_base.specs.declared.address.Addr.{Addr}
use Rattle.sim_base.specs.Addresses.{any, is_same_ip, meets, is_taken, least_free_port, at_port, at_free_port}
use Rattle.sim_base.specs.AddressLaws.{first_free_port_IsLeastFree, has_port_meets}
use Rattle.std.specs.Prelude.{option_map}
use Rattle.host_sockets.specs.Sockets.{put_at}
use Rattle.host_sockets.specs.TcpSocket.{bound_end}
use Rattle.socket_laws.specs.Apart.{end_at, AreApart}

-- whatever is bound was bound so before
abbrev pub Loses : {A : Type 0} → (A → Option Addr) → List A → List A → Type 0
Loses end xs ys = (k : ℕ) (a : Addr) → end_at end ys k ≡ Some a → end_at end xs k ≡ Some a

pub apart_loses : {A : Type 0} (end : A → Option Addr) (xs ys : List A) → AreApart end xs → Loses end xs ys → AreApart end ys
apart_loses end xs ys apart loses = λ i j a b ne ei ej. apart i j a b ne (loses i a ei) (loses j b ej)

pub loses_set : {A : Type 0} (end : A → Option Addr) (xs : List A) (k : ℕ) (old new : A) → slice_get xs k ≡ Some old → ((a : Addr) → end new ≡ Some a → end old ≡ Some a) → Loses end xs (set xs k new)
loses_set end [] k old new at keeps j a e = cc
loses_set end (x ∷ xs) zero old new at keeps zero a e = let same : x ≡ old = cc in ap end same ∙ keeps a e
loses_set end (x ∷ xs) zero old new at keeps (suc j) a e = e
loses_set end (x ∷ xs) (suc k) old new at keeps zero a e = e
loses_set end (x ∷ xs) (suc k) old new at keeps (suc j) a e = loses_set end xs k old new at keeps j a e

-- with a socket that is unbound at a place, or behind all
pub loses_unbound : {A : Type 0} (end : A → Option Addr) (xs : List A) (k : ℕ) (new : A) → end new ≡ None → Loses end xs (set xs k new)
loses_unbound end [] k new none j a e = e
loses_unbound end (x ∷ xs) zero new none zero a e = cc
loses_unbound end (x ∷ xs) zero new none (suc j) a e = e
loses_unbound end (x ∷ xs) (suc k) new none zero a e = e
loses_unbound end (x ∷ xs) (suc k) new none (suc j) a e = loses_unbound end xs k new none j a e

loses_push : {A : Type 0} (end : A → Option Addr) (xs : List A) (new : A) → end new ≡ None → Loses end xs (xs ++ new ∷ [])
loses_push end [] new none zero a e = cc
loses_push end [] new none (suc j) a e = e
loses_push end (x ∷ xs) new none zero a e = e
loses_push end (x ∷ xs) new none (suc j) a e = loses_push end xs new none j a e

loses_by : {A : Type 0} (within : Bool) (end : A → Option Addr) (xs : List A) (k : ℕ) (new : A) → end new ≡ None → Loses end xs (if within then set xs k new else xs ++ new ∷ [])
loses_by true end xs k new none = loses_unbound end xs k new none
loses_by false end xs k new none = loses_push end xs new none

pub loses_put : {A : Type 0} (end : A → Option Addr) (xs : List A) (k : ℕ) (new : A) → end new ≡ None → Loses end xs (put_at k new xs)
loses_put end xs k new none = loses_by (nat_lt k (length xs)) end xs k new none

pub other : {A : Type 0} (end : A → Option Addr) (xs : List A) (k : ℕ) (new : A) (j : ℕ) (a : Addr) → k ≢ j → end_at end (set xs k new) j ≡ Some a → end_at end xs j ≡ Some a
other end [] k new j a ne e = e
other end (x ∷ xs) zero new zero a ne e = absurd (ne refl)
other end (x ∷ xs) zero new (suc j) a ne e = e
other end (x ∷ xs) (suc k) new zero a ne e = e
other end (x ∷ xs) (suc k) new (suc j) a ne e = other end xs k new j a (λ same. ne (ap suc same)) e

pub here : {A : Type 0} (end : A → Option Addr) (xs : List A) (k : ℕ) (new : A) (a : Addr) → end_at end (set xs k new) k ≡ Some a → end new ≡ Some a
here end [] k new a e = cc
here end (x ∷ xs) zero new a e = e
here end (x ∷ xs) (suc k) new a e = here end xs k new a e

swapped : (p q r : Bool) → ((p || q) || r) ≡ ((p || r) || q)
swapped true q r = refl
swapped false true true = refl
swapped false true false = refl
swapped false false true = refl
swapped false false false = refl

same_back : (m n : ℕ) → (m == n) ≡ (n == m)
same_back m n = grind (arith, nat_tests)

meets_back : (a b : Addr) → meets a b ≡ meets b a
meets_back a b =
    ap (λ (p : Bool). p && ((is_same_ip a.ip b.ip || is_same_ip a.ip any) || is_same_ip b.ip any)) (same_back a.port b.port)
    ∙ ap (λ (p : Bool). (b.port == a.port) && p)
    (swapped (is_same_ip a.ip b.ip) (is_same_ip a.ip any) (is_same_ip b.ip any)
    ∙ ap (λ (p : Bool). (p || is_same_ip b.ip any) || is_same_ip a.ip any) (same_back a.ip.bits b.ip.bits))

-- an end that no other socket meets
abbrev pub IsFree : {A : Type 0} → (A → Option Addr) → List A → ℕ → Addr → Type 0
IsFree end xs k at = (j : ℕ) (b : Addr) → k ≢ j → end_at end xs j ≡ Some b → meets at b ≡ false

apart_by : {A : Type 0} (end : A → Option Addr) (xs : List A) (k : ℕ) (new : A) (at : Addr) → AreApart end xs → IsFree end xs k at → end new ≡ Some at → (i j : ℕ) (a b : Addr) → i ≢ j → end_at end (set xs k new) i ≡ Some a → end_at end (set xs k new) j ≡ Some b → (k ≡ i) ⊎ (k ≢ i) → (k ≡ j) ⊎ (k ≢ j) → meets a b ≡ false
apart_by end xs k new at apart free is i j a b ne ei ej (inl ki) (inl kj) = absurd (ne (sym ki ∙ kj))
apart_by end xs k new at apart free is i j a b ne ei ej (inl ki) (inr kj) =
    let bound = here end xs k new a (subst (λ (n : ℕ). end_at end (set xs k new) n ≡ Some a) (sym ki) ei) in
    let same : at ≡ a = cc in
    ap (λ (x : Addr). meets x b) (sym same) ∙ free j b kj (other end xs k new j b kj ej)
apart_by end xs k new at apart free is i j a b ne ei ej (inr ki) (inl kj) =
    let bound = here end xs k new b (subst (λ (n : ℕ). end_at end (set xs k new) n ≡ Some b) (sym kj) ej) in
    let same : at ≡ b = cc in
    ap (meets a) (sym same) ∙ (meets_back a at ∙ free i a ki (other end xs k new i a ki ei))
apart_by end xs k new at apart free is i j a b ne ei ej (inr ki) (inr kj) = apart i j a b ne (other end xs k new i a ki ei) (other end xs k new j b kj ej)

pub apart_set : {A : Type 0} (end : A → Option Addr) (xs : List A) (k : ℕ) (new : A) (at : Addr) → AreApart end xs → IsFree end xs k at → end new ≡ Some at → AreApart end (set xs k new)
apart_set end xs k new at apart free is = λ i j a b ne ei ej. apart_by end xs k new at apart free is i j a b ne ei ej (cases_eq k i) (cases_eq k j)

-- where none of the ends that were gathered is met, no socket is
pub first_of_ends : (o : Option Addr) (rest : List Addr) (at : Addr) → list_any (meets at) (bound_end o ++ rest) ≡ false → (b : Addr) → o ≡ Some b → meets at b ≡ false
first_of_ends None rest at e b is = cc
first_of_ends (Some a) rest at e b is = let same : a ≡ b = cc in ap (meets at) (sym same) ∙ (or_parts _ _ e).0

gathered : {A : Type 0} (end : A → Option Addr) (g : A → List Addr) (at : Addr) → ((x : A) → list_any (meets at) (g x) ≡ false → (b : Addr) → end x ≡ Some b → meets at b ≡ false) → (xs : List A) → list_any (meets at) (flat_map g xs) ≡ false → (j : ℕ) (b : Addr) → end_at end xs j ≡ Some b → meets at b ≡ false
gathered end g at each [] e j b is = cc
gathered end g at each (x ∷ xs) e zero b is =
    let parts = or_parts _ _ (sym (list_any-append (meets at) (g x) (flat_map g xs)) ∙ e) in
    each x parts.0 b is
gathered end g at each (x ∷ xs) e (suc j) b is =
    let parts = or_parts _ _ (sym (list_any-append (meets at) (g x) (flat_map g xs)) ∙ e) in
    gathered end g at each xs parts.1 j b is

pub free_among : {A : Type 0} (end : A → Option Addr) (g : A → List Addr) (at : Addr) → ((x : A) → list_any (meets at) (g x) ≡ false → (b : Addr) → end x ≡ Some b → meets at b ≡ false) → (xs : List A) (k : ℕ) → is_taken (flat_map g xs) at ≡ false → IsFree end xs k at
free_among end g at each xs k e = λ j b ne is. gathered end g at each xs e j b is

-- a port that is chosen is free
chosen : (ends : List Addr) (at : Addr) (found : Option ℕ) → least_free_port ends ≡ found → option_map (at_port any) found ≡ Some at → is_taken ends at ≡ false
chosen ends at None e is = cc
chosen ends at (Some port) e is =
    let same : at_port any port ≡ at = cc in
    ap (is_taken ends) (sym same) ∙ has_port_meets any port ends (first_free_port_IsLeastFree ends 10000 55536 port e).free

pub free_port_is_taken : (ends : List Addr) (at : Addr) → at_free_port ends any ≡ Some at → is_taken ends at ≡ false
free_port_is_taken ends at is = chosen ends at (least_free_port ends) refl is
