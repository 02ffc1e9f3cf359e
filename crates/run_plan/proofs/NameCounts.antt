-- How often names stand in lists.
use Rattle.std.proofs.Common.{◌≡◌, ◌≢◌, ◌∙◌, ℕ, zero, suc, ◌+◌, ◌≤◌, Bool, true, false, ◌||◌, List, [], ◌∷◌, ◌++◌, map, Some, slice_get, sum_by, IsPermutation, refl, sym, ap, arith, ◌==◌}
use Rattle.std.specs.Prelude.{if◌then◌else◌}
use Rattle.std.specs.Cmp.Lexicographic.{pointwise, same_text, other_text}
use Rattle.std.proofs.lemmas.Bool.{false≢true}
use Rattle.std.proofs.lemmas.Option.{none-some}
use Rattle.std.proofs.lemmas.List.Sums.{sum_by-cons}
use Rattle.std.proofs.lemmas.List.Sorted.{sum_by-IsPermutation}
use Rattle.yaml_merge.specs.Merge.{has}

-- 1 where the test holds
abbrev pub one_if : Bool → ℕ
one_if b = if b then 1 else 0

pub one_if_le : (b : Bool) → one_if b ≤ 1
one_if_le true = omega arith
one_if_le false = omega arith

-- 1 for one name, and 0 for two
abbrev pub is_one : List ℕ → List ℕ → ℕ
is_one name other = one_if (pointwise ◌==◌ name other)

-- how often a name stands
abbrev pub copies : List ℕ → List (List ℕ) → ℕ
copies name [] = 0
copies name (n ∷ ns) = is_one name n + copies name ns

-- ---- one name

pub same_name : (name : List ℕ) → pointwise ◌==◌ name name ≡ true
same_name name = by (pointwise ◌==◌ name name) refl
  where
    by : (t : Bool) → pointwise ◌==◌ name name ≡ t → t ≡ true
    by true e = refl
    by false e = absurd (other_text name name (sym e) refl)

pub is_one_same : (name other : List ℕ) → name ≡ other → is_one name other ≡ 1
is_one_same name other e = ap (λ (n : List ℕ). is_one name n) (sym e) ∙ ap one_if (same_name name)

pub is_one_other : (name other : List ℕ) → name ≢ other → is_one name other ≡ 0
is_one_other name other differ = by (pointwise ◌==◌ name other) refl
  where
    by : (t : Bool) → pointwise ◌==◌ name other ≡ t → one_if t ≡ 0
    by true e = absurd (differ (same_text name other (sym e)))
    by false e = refl

-- ---- lists

pub copies_append : (name : List ℕ) (ns ms : List (List ℕ)) → copies name (ns ++ ms) ≡ copies name ns + copies name ms
copies_append name [] ms = omega arith
copies_append name (n ∷ ns) ms = omega (arith, copies_append name ns ms)

copies_is : {A : Type 0} (name_of : A → List ℕ) (name : List ℕ) (xs : List A) → copies name (map name_of xs) ≡ sum_by (λ x. is_one name (name_of x)) xs
copies_is name_of name [] = refl
copies_is {A = A} name_of name (x ∷ xs) = omega (arith, copies_is name_of name xs, sum_by-cons (λ (y : A). is_one name (name_of y)) x xs)

pub copies_permutation : {A : Type 0} (name_of : A → List ℕ) (name : List ℕ) (xs ys : List A) → IsPermutation xs ys → copies name (map name_of ys) ≡ copies name (map name_of xs)
copies_permutation {A = A} name_of name xs ys p =
    copies_is name_of name ys ∙ sum_by-IsPermutation (λ (x : A). is_one name (name_of x)) xs ys p ∙ sym (copies_is name_of name xs)

-- a name that isn't there has no copy
pub copies_absent : (name : List ℕ) (ns : List (List ℕ)) → has name ns ≡ false → copies name ns ≡ 0
copies_absent name [] h = refl
copies_absent name (n ∷ ns) h = by (pointwise ◌==◌ name n) h (copies_absent name ns)
  where
    by : (t : Bool) → (t || has name ns) ≡ false → (has name ns ≡ false → copies name ns ≡ 0) → one_if t + copies name ns ≡ 0
    by true k more = absurd (false≢true (sym k))
    by false k more = omega (arith, more k)

pub has_append : (name : List ℕ) (ns : List (List ℕ)) (n : List ℕ) → has name ns ≡ true → has name (ns ++ n ∷ []) ≡ true
has_append name [] n h = absurd (false≢true h)
has_append name (m ∷ ns) n h = by (pointwise ◌==◌ name m) h (has_append name ns n)
  where
    by : (t : Bool) → (t || has name ns) ≡ true → (has name ns ≡ true → has name (ns ++ n ∷ []) ≡ true) → (t || has name (ns ++ n ∷ [])) ≡ true
    by true k more = refl
    by false k more = more k

pub has_last : (name : List ℕ) (ns : List (List ℕ)) (n : List ℕ) → name ≡ n → has name (ns ++ n ∷ []) ≡ true
has_last name [] n e = ap (λ (m : List ℕ). pointwise ◌==◌ name m || false) (sym e) ∙ ap (λ (t : Bool). t || false) (same_name name)
has_last name (m ∷ ns) n e = by (pointwise ◌==◌ name m) (has_last name ns n e)
  where
    by : (t : Bool) → has name (ns ++ n ∷ []) ≡ true → (t || has name (ns ++ n ∷ [])) ≡ true
    by true more = refl
    by false more = more

-- ---- places

pub some_is : (n name : List ℕ) → Some n ≡ Some name → name ≡ n
some_is n name h = cc

pub copies_there : (name : List ℕ) (ns : List (List ℕ)) (i : ℕ) → slice_get ns i ≡ Some name → 1 ≤ copies name ns
copies_there name [] i h = absurd (none-some name h)
copies_there name (n ∷ ns) zero h = omega (arith, is_one_same name n (some_is n name h))
copies_there name (n ∷ ns) (suc i) h = omega (arith, copies_there name ns i h)

-- what stands once stands at one place
pub one_place : (name : List ℕ) (ns : List (List ℕ)) → copies name ns ≤ 1 → (i j : ℕ) → slice_get ns i ≡ Some name → slice_get ns j ≡ Some name → i ≡ j
one_place name [] few i j h k = absurd (none-some name h)
one_place name (n ∷ ns) few zero zero h k = refl
one_place name (n ∷ ns) few zero (suc j) h k = absurd (omega (arith, few, is_one_same name n (some_is n name h), copies_there name ns j k))
one_place name (n ∷ ns) few (suc i) zero h k = absurd (omega (arith, few, is_one_same name n (some_is n name k), copies_there name ns i h))
one_place name (n ∷ ns) few (suc i) (suc j) h k = ap suc (one_place name ns (omega (arith, few)) i j h k)
