-- a part of two slices that follow one another
use Rattle.std.proofs.Common.{◌≡◌, ℕ, ◌+◌, ◌-◌, List, ⊎_elim, ◌++◌, length, take, drop, min, sym, ap, append-nil, le_of_lt, ◌∙◌, arith}
use Rattle.std.proofs.lemmas.Bool.{cases_lt}
use Rattle.std.proofs.lemmas.List.{drop-append-le, take-append-le, take_all, take_rest}
use Rattle.std.proofs.Math.Seq.{drop-append-add, take-append-add, drop-length}

-- both from a place on
behind : (front back : List ℕ) (at : ℕ) → drop at (front ++ back) ≡ drop (min at (length front)) front ++ drop (at - length front) back
behind front back at =
    ⊎_elim
    (λ h.
    let a : at ≡ min at (length front) = omega arith in
    let b : 0 ≡ at - length front = omega arith in
    drop-append-le at front back (le_of_lt h)
    ∙ (ap (λ n. drop n front ++ back) a ∙ ap (λ n. drop (min at (length front)) front ++ drop n back) b))
    (λ h.
    let a : min at (length front) ≡ length front = omega arith in
    let e : at ≡ length front + (at - length front) = omega arith in
    ap (λ n. drop n (front ++ back)) e
    ∙ (drop-append-add front back (at - length front)
    ∙ ap (λ xs. xs ++ drop (at - length front) back) (sym (ap (λ n. drop n front) a ∙ drop-length front))))
    (cases_lt at (length front))

-- the first of both
first_of : (front back : List ℕ) (count : ℕ) → take count (front ++ back) ≡ take (min count (length front)) front ++ take (count - min count (length front)) back
first_of front back count =
    ⊎_elim
    (λ h.
    let a : count ≡ min count (length front) = omega arith in
    let b : 0 ≡ count - min count (length front) = omega arith in
    take-append-le count front back (le_of_lt h)
    ∙ (sym (append-nil (take count front))
    ∙ (ap (λ n. take count front ++ take n back) b ∙ ap (λ n. take n front ++ take (count - min count (length front)) back) a)))
    (λ h.
    let e : count ≡ length front + (count - length front) = omega arith in
    let b : count - length front ≡ count - min count (length front) = omega arith in
    ap (λ n. take n (front ++ back)) e
    ∙ (take-append-add front back (count - length front)
    ∙ (ap (λ n. front ++ take n back) b
    ∙ ap (λ xs. xs ++ take (count - min count (length front)) back) (sym (take_all (min count (length front)) front (omega arith))))))
    (cases_lt count (length front))

-- what the code copies of either
from : ℕ → List ℕ → List ℕ
from at items = take (length items - at) (drop at items)

from_is : (at : ℕ) (items : List ℕ) → drop at items ≡ from at items
unfolding from
from_is at items = sym (take_rest items at)

part_from : (front back : List ℕ) (at count : ℕ) → let rest = from (min at (length front)) front in take count (drop at (front ++ back)) ≡ take (min count (length rest)) rest ++ take (count - min count (length rest)) (from (at - length front) back)
part_from front back at count =
    ap (take count) (behind front back at)
    ∙ (ap (λ xs. take count (xs ++ drop (at - length front) back)) (from_is (min at (length front)) front)
    ∙ (ap (λ xs. take count (from (min at (length front)) front ++ xs)) (from_is (at - length front) back)
    ∙ first_of (from (min at (length front)) front) (from (at - length front) back) count))

pub part_of : (front back : List ℕ) (at count : ℕ) → let rest = take (length front - min at (length front)) (drop (min at (length front)) front) in take count (drop at (front ++ back)) ≡ take (min count (length rest)) rest ++ take (count - min count (length rest)) (take (length back - (at - length front)) (drop (at - length front) back))
unfolding from
part_of front back at count = part_from front back at count
