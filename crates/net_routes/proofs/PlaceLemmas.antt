-- ids in rising order, and their places
use Rattle.std.proofs.Common.{◌≡◌, ℕ, ◌<◌, ◌≤◌, true, false, cond, ◌==◌, nat_lt, List, length, get_or, Option, Some, None, Result, Ok, Err, refl, sym, ◌∙◌, subst, ⊎_elim, arith}
use Rattle.std.specs.Prelude.{Contains}
use Rattle.std.specs.List.{position_or_len}
use Rattle.std.specs.List.Sorted.{IsStrictlyIncreasing, IsBinarySearchResult}
use Rattle.std.specs.Result.{result_ok}
use Rattle.std.specs.Ordering.{nat_cmp}
use Rattle.std.proofs.lemmas.Bool.{cases_lt}
use Rattle.std.proofs.lemmas.Bool.Decides.{nat_tests}
use Rattle.std.proofs.lemmas.List.{get_or_default}
use Rattle.std.proofs.lemmas.List.Kept.{AllPairs-from_increasing}
use Rattle.std.proofs.lemmas.List.Quantifiers.{position-Some}
use Rattle.std.proofs.lemmas.List.Sorted.{searched}
use Rattle.std.proofs.lemmas.List.Sums.{position_or_len_is}
use Rattle.net_routes.specs.Needed.{IsAt}
use Rattle.net_routes.specs.inside.Places.{place_of}

-- an earlier id is less
pub at_rises : (ids : List ℕ) (i j x y : ℕ) → IsStrictlyIncreasing ids → IsAt ids i x → IsAt ids j y → i < j → x < y
at_rises ids i j x y up a b lt = omega (arith, AllPairs-from_increasing ids up i j 0 lt b.within, a.is, b.is)

-- an id has one place
pub at_once : (ids : List ℕ) (i j x : ℕ) → IsStrictlyIncreasing ids → IsAt ids i x → IsAt ids j x → i ≡ j
at_once ids i j x up a b =
    ⊎_elim
    (λ (lt : i < j). absurd (omega (arith, at_rises ids i j x x up a b lt)))
    (λ (ge : j ≤ i). ⊎_elim
    (λ (lt : j < i). absurd (omega (arith, at_rises ids j i x x up b a lt)))
    (λ (le : i ≤ j). omega (arith, le, ge))
    (cases_lt j i))
    (cases_lt i j)

-- and a place has one id
pub at_is : (ids : List ℕ) (i x y : ℕ) → IsAt ids i x → IsAt ids i y → x ≡ y
at_is ids i x y a b = sym a.is ∙ b.is

pub at_contains : (ids : List ℕ) (x : ℕ) → Contains ids x → (i : ℕ) × IsAt ids i x
at_contains ids x h = (h.0, record { within = h.1; is = get_or_default ids h.0 0 x h.1 ∙ h.2 })

pub contains_at : (ids : List ℕ) (i x : ℕ) → IsAt ids i x → Contains ids x
contains_at ids i x a = (i, a.within, get_or_default ids i x 0 a.within ∙ a.is)

test_same : (a b : ℕ) → a ≡ b → (a == b) ≡ true
test_same a b e = grind (arith, nat_tests)

test_less : (a b : ℕ) → a < b → (a == b) ≡ false
test_less a b e = grind (arith, nat_tests)

same_tested : (a b : ℕ) → (a == b) ≡ true → a ≡ b
same_tested a b e = grind (arith, nat_tests)

within_some : (i n : ℕ) → i < n → cond (nat_lt i n) (Some i) None ≡ Some i
within_some i n lt = grind (arith, nat_tests)

pub place_found : (ids : List ℕ) (i id : ℕ) → IsStrictlyIncreasing ids → IsAt ids i id → place_of ids id ≡ Some i
place_found ids i id up a =
    let before : (k : ℕ) → k < i → (get_or ids k 0 == id) ≡ false = λ k lt. test_less (get_or ids k 0) id (omega (arith, AllPairs-from_increasing ids up k i 0 lt a.within, a.is)) in
    let here : i < length ids → (get_or ids i 0 == id) ≡ true = λ _. test_same (get_or ids i 0) id a.is in
    let e : position_or_len (λ n. n == id) ids ≡ i = position_or_len_is (λ n. n == id) ids i 0 (omega (arith, a.within)) before here in
    let P : ℕ → Type 0 = λ q. cond (nat_lt q (length ids)) (Some q) None ≡ Some i in
    subst P (sym e) (within_some i (length ids) a.within)

pub place_at : (ids : List ℕ) (id i : ℕ) → place_of ids id ≡ Some i → IsAt ids i id
place_at ids id i e =
    let s = position-Some (λ n. n == id) ids i 0 e in
    record { within = s.0; is = same_tested (get_or ids i 0) id s.1 }

none_or : (ids : List ℕ) (id : ℕ) (o : Option ℕ) → place_of ids id ≡ o → ((i : ℕ) → IsAt ids i id → ⊥) → place_of ids id ≡ None
none_or ids id None e absent = e
none_or ids id (Some i) e absent = absurd (absent i (place_at ids id i e))

pub place_missing : (ids : List ℕ) (id : ℕ) → ((i : ℕ) → IsAt ids i id → ⊥) → place_of ids id ≡ None
place_missing ids id absent = none_or ids id (place_of ids id) refl absent

place_or : (ids : List ℕ) (id : ℕ) (o : Option ℕ) → place_of ids id ≡ o → IsStrictlyIncreasing ids → Contains ids id → (i : ℕ) × (o ≡ Some i) × IsAt ids i id
place_or ids id (Some i) e up h = (i, refl, place_at ids id i e)
place_or ids id None e up h =
    let a = at_contains ids id h in
    let there = place_found ids a.0 id up a.1 in
    absurd (let none : ⊥ = cc in none)

-- an id that is there has a place
pub place_there : (ids : List ℕ) (id : ℕ) → IsStrictlyIncreasing ids → Contains ids id → (i : ℕ) × (place_of ids id ≡ Some i) × IsAt ids i id
place_there ids id up h = place_or ids id (place_of ids id) refl up h

-- no id falls below an earlier one
pub rises : (ids : List ℕ) → IsStrictlyIncreasing ids → (i j : ℕ) → i ≤ j → j < length ids → get_or ids i 0 ≤ get_or ids j 0
rises ids up i j le within =
    ⊎_elim
    (λ (lt : i < j). omega (arith, AllPairs-from_increasing ids up i j 0 lt within))
    (λ (ge : j ≤ i).
    let same : i ≡ j = omega (arith, le, ge) in
    let P : ℕ → Type 0 = λ q. get_or ids i 0 ≤ get_or ids q 0 in
    subst P same (omega arith))
    (cases_lt i j)

-- what a search by halves finds
pub searched_place : (ids : List ℕ) (id : ℕ) (r : Result ℕ ℕ) → IsStrictlyIncreasing ids → IsBinarySearchResult (λ y. nat_cmp y id) ids r → result_ok r ≡ place_of ids id
searched_place ids id (Ok i) up h =
    let s = searched ids id (Ok i) h (rises ids up) in
    sym (place_found ids i id up (record { within = s.0; is = s.1 }))
searched_place ids id (Err i) up h =
    let s = searched ids id (Err i) h (rises ids up) in
    sym (place_missing ids id (λ k a. ⊎_elim
    (λ (lt : k < i). absurd (omega (arith, s.1 k lt, a.is)))
    (λ (ge : i ≤ k). absurd (omega (arith, s.2 k ge a.within, a.is)))
    (cases_lt k i)))
