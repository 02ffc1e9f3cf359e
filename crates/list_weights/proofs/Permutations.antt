-- Weights are sums, and numbers that weigh the same, however they are weighed, are the same in another order.
use Rattle.std.proofs.Common.{◌≡◌, ◌≢◌, ℕ, zero, suc, ◌+◌, ◌<◌, List, [], ◌∷◌, ◌++◌, length, get_or, sym, refl, ap, ◌∙◌, arith}
use mathlib.Core.Logic.{dite}
use native.Mathlib.Decide.{ℕ_discrete}
use Rattle.std.specs.List.{sum_by, range_with_len, remove}
use Rattle.std.specs.List.Sorted.{IsPermutation}
use Rattle.std.proofs.lemmas.List.Sums.{sum_by-cons}
use Rattle.std.proofs.lemmas.List.Sorted.{IsPermutation-refl, IsPermutation-cons, IsPermutation-sym, IsPermutation-trans, IsPermutation-remove, sum_by-IsPermutation}
use Rattle.list_weights.specs.Weights.{weigh, numbers_below}
use Rattle.list_weights.proofs.Weights.{is_number, is_itself, is_other}

pub weigh_is_sum : {X : Type 0} (f : X → ℕ) (xs : List X) → weigh f xs ≡ sum_by f xs
weigh_is_sum f [] = refl
weigh_is_sum f (x ∷ xs) = ap (λ n. f x + n) (weigh_is_sum f xs) ∙ sym (sum_by-cons f x xs)

range_snoc : (a n : ℕ) → range_with_len a (suc n) ≡ range_with_len a n ++ (a + n) ∷ []
range_snoc a zero = ap (λ k. k ∷ []) (let e : a ≡ a + zero = omega arith in e)
range_snoc a (suc n) = ap (λ l. a ∷ l) (range_snoc (a + 1) n) ∙ ap (λ k. a ∷ (range_with_len (a + 1) n ++ k ∷ [])) (let e : a + 1 + n ≡ a + suc n = omega arith in e)

pub numbers_are_range : (n : ℕ) → numbers_below n ≡ range_with_len 0 n
numbers_are_range zero = refl
numbers_are_range (suc n) = ap (λ l. l ++ n ∷ []) (numbers_are_range n) ∙ ap (λ k. range_with_len 0 n ++ k ∷ []) (let e : n ≡ 0 + n = omega arith in e) ∙ sym (range_snoc 0 n)

pub weigh_permutation : {X : Type 0} (f : X → ℕ) (xs ys : List X) → IsPermutation xs ys → weigh f ys ≡ weigh f xs
weigh_permutation f xs ys p = weigh_is_sum f ys ∙ sum_by-IsPermutation f xs ys p ∙ sym (weigh_is_sum f xs)

find_number : (x : ℕ) (ys : List ℕ) → 0 < weigh (is_number x) ys → (i : ℕ) × (i < length ys) × (x ≡ get_or ys i x)
find_number x [] some_there = absurd (omega arith)
find_number x (y ∷ ys) some_there = dite (ℕ_discrete y x)
    (λ (e : y ≡ x). (0, (omega arith), sym e))
    (λ (ne : y ≢ x).
    let none = is_other x y ne in
    let r = find_number x ys (omega arith) in
    (suc r.0, (let w = r.1 in omega arith), r.2))

pub same_weights : (xs ys : List ℕ) → ((h : ℕ → ℕ) → weigh h xs ≡ weigh h ys) → IsPermutation xs ys
same_weights [] [] same = IsPermutation-refl []
same_weights [] (y ∷ ys) same = let e = same (λ _. 1) in absurd (omega arith)
same_weights (x ∷ xs) ys same =
    let one = is_itself x in
    let there = find_number x ys (let e = same (is_number x) in omega arith) in
    let moved = IsPermutation-remove ys there.0 x there.1 there.2 in
    let rest : (h : ℕ → ℕ) → weigh h xs ≡ weigh h (remove ys there.0) = λ h. (let p = weigh_permutation h ys (x ∷ remove ys there.0) moved in let e = same h in omega arith) in
    IsPermutation-trans (x ∷ xs) (x ∷ remove ys there.0) ys (IsPermutation-cons x xs (remove ys there.0) (same_weights xs (remove ys there.0) rest))
    (IsPermutation-sym ys (x ∷ remove ys there.0) moved)
