-- the least port that is free, by how many ends have each
use Rattle.std.proofs.Common.{◌≡◌, ℕ, zero, suc, ◌+◌, ◌-◌, ◌<◌, ◌≤◌, List, [], ◌∷◌, get_or, Bool, true, false, ◌||◌, ◌==◌, Option, Some, None, nat_lt, if◌then◌else◌, Result, Ok, Err, is_ok, OnOk, refl, sym, ap, ◌∙◌, arith, inl, inr}
use Rattle.std.specs.List.{sum_by}
use Rattle.std.proofs.lemmas.Bool.{cases_lt}
use Rattle.std.proofs.lemmas.Bool.Decides.{nat_tests}
use Rattle.std.proofs.lemmas.List.Sums.{sum_by-cons}
use Rattle.sim_base.specs.declared.address.Addr.{Addr}
use Rattle.sim_base.specs.Addresses.{has_port, first_free_port, least_free_port}
use Rattle.sim_base.specs.AddressLaws.{first_free_port_IsLeastFree}
use Rattle.sim_base.proofs.PortLemmas.{first_free_port_free, first_free_port_taken, first_free_port_none}
use Rattle.number_sets.specs.Bags.{Holds}
use Rattle.number_sets.specs.Ports.{given, once, had}
use Rattle.number_sets.specs.declared.bag.NumberBag.{NumberBag}

lt_test : (n m : ℕ) → n < m → nat_lt n m ≡ true
lt_test n m h = grind (arith, nat_tests)

ge_test : (n m : ℕ) → m ≤ n → nat_lt n m ≡ false
ge_test n m h = grind (arith, nat_tests)

lt_suc : (n m : ℕ) → nat_lt (suc n) (suc m) ≡ nat_lt n m
lt_suc n m = elim (cases_lt n m) [
  | inl less ↦ lt_test (suc n) (suc m) (omega arith) ∙ sym (lt_test n m less)
  | inr more ↦ ge_test (suc n) (suc m) (omega arith) ∙ sym (ge_test n m more)
]

-- the first of some ports in a row that is free
first_is : (bound : List Addr) (first count n : ℕ) → has_port bound (first + n) ≡ false → ((m : ℕ) → m < n → has_port bound (first + m) ≡ true)
    → first_free_port bound first count ≡ (if nat_lt n count then Some (first + n) else None)
first_is bound first zero n free had = first_free_port_none bound first 0 refl ∙ sym (ap (λ (b : Bool). if b then Some (first + n) else None) (not_less n))
  where
    not_less : (n : ℕ) → nat_lt n 0 ≡ false
    not_less n = grind (arith, nat_tests)
first_is bound first (suc count) zero free had =
    let here : first + 0 ≡ first = omega arith in
    first_free_port_free bound first (suc count) (ap (has_port bound) (sym here) ∙ free) (omega arith)
    ∙ (ap (λ (k : ℕ). Some k) (sym here) ∙ sym (ap (λ (b : Bool). if b then Some (first + 0) else None) (lt_test 0 (suc count) (omega arith))))
first_is bound first (suc count) (suc n) free had =
    let here : first ≡ first + 0 = omega arith in
    let next : first + 1 + n ≡ first + suc n = omega arith in
    let fewer : suc count - 1 ≡ count = omega arith in
    let rest = first_is bound (first + 1) count n (ap (has_port bound) next ∙ free)
    (λ m less. let further : first + 1 + m ≡ first + suc m = omega arith in ap (has_port bound) further ∙ had (suc m) (omega arith)) in
    let told : (if nat_lt n count then Some (first + suc n) else None) ≡ (if nat_lt (suc n) (suc count) then Some (first + suc n) else None) =
    sym (ap (λ (b : Bool). if b then Some (first + suc n) else None) (lt_suc n count)) in
    first_free_port_taken bound first (suc count) (ap (has_port bound) here ∙ had 0 (omega arith)) (omega arith)
    ∙ (ap (λ (k : ℕ). first_free_port bound (first + 1) k) fewer
    ∙ (rest ∙ (ap (λ (k : ℕ). if nat_lt n count then Some k else None) next ∙ told)))

-- a port that is free, where each given one below is had
pub first_told : (bound : List Addr) (n : ℕ) → has_port bound (10000 + n) ≡ false → ((m : ℕ) → m < n → has_port bound (10000 + m) ≡ true) → n < 55536 → Some (10000 + n) ≡ least_free_port bound
first_told bound n free had within = sym (first_is bound 10000 55536 n free had ∙ ap (λ (b : Bool). if b then Some (10000 + n) else None) (lt_test n 55536 within))

-- or each is had
pub all_told : (bound : List Addr) → ((m : ℕ) → m < 55536 → has_port bound (10000 + m) ≡ true) → None ≡ least_free_port bound
all_told bound had = by_found (least_free_port bound) refl
  where
    by_found : (found : Option ℕ) → least_free_port bound ≡ found → None ≡ least_free_port bound
    by_found None e = sym e
    by_found (Some port) e =
        let least = first_free_port_IsLeastFree bound 10000 55536 port e in
        let from = least.from in
        let within = least.within in
        let back : 10000 + (port - 10000) ≡ port = omega arith in
        let both : false ≡ true = sym least.free ∙ (ap (has_port bound) (sym back) ∙ had (port - 10000) (omega arith)) in
        cc

-- an end is counted at its port
had_is : (port n : ℕ) → nat_lt 0 (once (given port) n) ≡ (port == 10000 + n)
had_is port n = by_test (nat_lt port 10000) refl
  where
    by_test : (b : Bool) → nat_lt port 10000 ≡ b → nat_lt 0 (once (if b then None else Some (port - 10000)) n) ≡ (port == 10000 + n)
    by_test true e = grind (arith, nat_tests)
    by_test false e = grind (arith, nat_tests)

sum_positive : (a b : ℕ) → nat_lt 0 (a + b) ≡ (nat_lt 0 a || nat_lt 0 b)
sum_positive zero b = let e : 0 + b ≡ b = omega arith in ap (λ (k : ℕ). nat_lt 0 k) e
sum_positive (suc a) b = grind (arith, nat_tests)

all_counted : (n : ℕ) (bound : List Addr) → nat_lt 0 (sum_by (had n) bound) ≡ has_port bound (10000 + n)
all_counted n [] = refl
all_counted n (at ∷ bound) =
    ap (λ (k : ℕ). nat_lt 0 k) (sum_by-cons (had n) at bound)
    ∙ (sum_positive (had n at) (sum_by (had n) bound)
    ∙ (ap (λ (b : Bool). b || nat_lt 0 (sum_by (had n) bound)) (had_is at.port n)
    ∙ ap (λ (b : Bool). (at.port == 10000 + n) || b) (all_counted n bound)))

positive : (k : ℕ) → 0 < k → nat_lt 0 k ≡ true
positive k b = grind (arith, nat_tests)

-- the number that is counted nowhere, where all below are, is that of the least free port
pub least_told : (bound : List Addr) (n : ℕ) → sum_by (had n) bound ≡ 0 → ((m : ℕ) → m < n → 0 < sum_by (had m) bound) → n < 55536 → Some (10000 + n) ≡ least_free_port bound
least_told bound n none least within =
    first_told bound n (sym (all_counted n bound) ∙ ap (λ (k : ℕ). nat_lt 0 k) none) (λ m less. sym (all_counted m bound) ∙ positive (sum_by (had m) bound) (least m less)) within

pub none_told : (bound : List Addr) (n : ℕ) → ((m : ℕ) → m < n → 0 < sum_by (had m) bound) → 55536 ≤ n → None ≡ least_free_port bound
none_told bound n least past = all_told bound (λ m less. sym (all_counted m bound) ∙ positive (sum_by (had m) bound) (least m (omega arith)))

pub holds_same : (b : NumberBag) (f g : ℕ → ℕ) → ((n : ℕ) → f n ≡ g n) → Holds b f → Holds b g
holds_same b f g same h = λ n. ((h n).0 ∙ same n, (h n).1 ∙ ap (λ (k : ℕ). nat_lt 0 k) (same n))

pub on_ok : {A E : Type 0} (r : Result A E) (P : Type 0) → is_ok r ≡ true → OnOk r P → P
on_ok (Ok a) P e h = h
on_ok (Err x) P e h = cc

-- what a place is counted for is counted
pub counted_in : {A : Type 0} (f : A → ℕ) (none : A) (xs : List A) (place : ℕ) → f none ≡ 0 → f (get_or xs place none) ≤ sum_by f xs
counted_in f none [] place zero_there = omega arith
counted_in f none (x ∷ xs) zero zero_there = let cons = sum_by-cons f x xs in omega arith
counted_in f none (x ∷ xs) (suc place) zero_there =
    let cons = sum_by-cons f x xs in
    let rest = counted_in f none xs place zero_there in
    omega arith
