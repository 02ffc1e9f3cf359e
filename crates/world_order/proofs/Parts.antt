-- Lists of parts, one of which changes; lists in another order.
use Rattle.std.proofs.Common.{◌≡◌, ℕ, zero, suc, List, [], ◌∷◌, ◌++◌, Option, Some, None, option_map, option_and_then, flat_map, Bool, true, false, slice_get, slice_set, refl, sym, ap, subst, ◌∙◌, append_assoc, IsPermutation}
use Rattle.std.proofs.lemmas.List.Sorted.{IsPermutation-refl, IsPermutation-sym, IsPermutation-trans, IsPermutation-append_left, IsPermutation-append_right, IsPermutation-append_comm}
use Rattle.world_order.specs.Steps.{given}
use Rattle.world_order.proofs.Homes.{some_is, get_set_same}

-- ---- the same members in another order

module _ {X : Type 0} where
  pub same_order : (xs ys : List X) → xs ≡ ys → IsPermutation xs ys
  same_order xs ys is = subst (IsPermutation xs) is (IsPermutation-refl xs)

  -- the second of three lists comes first
  pub second_first : (a b c : List X) → IsPermutation (a ++ (b ++ c)) (b ++ (a ++ c))
  second_first a b c =
      IsPermutation-trans (a ++ (b ++ c)) ((a ++ b) ++ c) (b ++ (a ++ c))
      (same_order (a ++ (b ++ c)) ((a ++ b) ++ c) (sym (append_assoc a b c)))
      (IsPermutation-trans ((a ++ b) ++ c) ((b ++ a) ++ c) (b ++ (a ++ c))
      (IsPermutation-append_left c (a ++ b) (b ++ a) (IsPermutation-append_comm a b))
      (same_order ((b ++ a) ++ c) (b ++ (a ++ c)) (append_assoc b a c)))

-- ---- one part changes

module _ {X Y : Type 0} (f : X → List Y) where
  -- what the others have
  abbrev pub others : List X → ℕ → List Y
  others [] i = []
  others (x ∷ xs) zero = flat_map f xs
  others (x ∷ xs) (suc i) = f x ++ others xs i

  pub part : (xs : List X) (i : ℕ) (x : X) → slice_get xs i ≡ Some x → IsPermutation (flat_map f xs) (f x ++ others xs i)
  part [] i x is = absurd (let e : None ≡ Some x = is in cc)
  part (y ∷ ys) zero x is = subst (λ (z : X). IsPermutation (f y ++ flat_map f ys) (f z ++ flat_map f ys)) (some_is y x is) (IsPermutation-refl (f y ++ flat_map f ys))
  part (y ∷ ys) (suc i) x is =
      IsPermutation-trans (f y ++ flat_map f ys) (f y ++ (f x ++ others ys i)) (f x ++ (f y ++ others ys i))
      (IsPermutation-append_right (f y) (flat_map f ys) (f x ++ others ys i) (part ys i x is))
      (second_first (f y) (f x) (others ys i))

  others_set : (xs : List X) (i : ℕ) (y : X) → others (slice_set xs i y) i ≡ others xs i
  others_set [] i y = refl
  others_set (x ∷ xs) zero y = refl
  others_set (x ∷ xs) (suc i) y = ap (λ (l : List Y). f x ++ l) (others_set xs i y)

  pub part_set : (xs : List X) (i : ℕ) (x y : X) → slice_get xs i ≡ Some x → IsPermutation (flat_map f (slice_set xs i y)) (f y ++ others xs i)
  part_set xs i x y is = subst (λ (l : List Y). IsPermutation (flat_map f (slice_set xs i y)) (f y ++ l)) (others_set xs i y)
      (part (slice_set xs i y) i y (get_set_same xs i x y is))

  -- a part that has the same changes nothing
  pub part_same : (xs : List X) (i : ℕ) (x y : X) → slice_get xs i ≡ Some x → f y ≡ f x → flat_map f (slice_set xs i y) ≡ flat_map f xs
  part_same [] i x y is same = refl
  part_same (z ∷ zs) zero x y is same = ap (λ (l : List Y). l ++ flat_map f zs) (same ∙ ap f (sym (some_is z x is)))
  part_same (z ∷ zs) (suc i) x y is same = ap (λ (l : List Y). f z ++ l) (part_same zs i x y is same)

  -- a part that has more
  pub part-more : (xs : List X) (i : ℕ) (x y : X) (more : List Y) → slice_get xs i ≡ Some x → IsPermutation (f y) (more ++ f x)
      → IsPermutation (flat_map f (slice_set xs i y)) (more ++ flat_map f xs)
  part-more xs i x y more is p =
      IsPermutation-trans (flat_map f (slice_set xs i y)) (f y ++ others xs i) (more ++ flat_map f xs)
      (part_set xs i x y is)
      (IsPermutation-trans (f y ++ others xs i) ((more ++ f x) ++ others xs i) (more ++ flat_map f xs)
      (IsPermutation-append_left (others xs i) (f y) (more ++ f x) p)
      (IsPermutation-trans ((more ++ f x) ++ others xs i) (more ++ (f x ++ others xs i)) (more ++ flat_map f xs)
      (same_order ((more ++ f x) ++ others xs i) (more ++ (f x ++ others xs i)) (append_assoc more (f x) (others xs i)))
      (IsPermutation-append_right more (f x ++ others xs i) (flat_map f xs) (IsPermutation-sym (flat_map f xs) (f x ++ others xs i) (part xs i x is)))))

  -- a part that has less
  pub part_less : (xs : List X) (i : ℕ) (x y : X) (less : List Y) → slice_get xs i ≡ Some x → IsPermutation (f x) (less ++ f y)
      → IsPermutation (flat_map f xs) (less ++ flat_map f (slice_set xs i y))
  part_less xs i x y less is p =
      IsPermutation-trans (flat_map f xs) (f x ++ others xs i) (less ++ flat_map f (slice_set xs i y))
      (part xs i x is)
      (IsPermutation-trans (f x ++ others xs i) ((less ++ f y) ++ others xs i) (less ++ flat_map f (slice_set xs i y))
      (IsPermutation-append_left (others xs i) (f x) (less ++ f y) p)
      (IsPermutation-trans ((less ++ f y) ++ others xs i) (less ++ (f y ++ others xs i)) (less ++ flat_map f (slice_set xs i y))
      (same_order ((less ++ f y) ++ others xs i) (less ++ (f y ++ others xs i)) (append_assoc less (f y) (others xs i)))
      (IsPermutation-append_right less (f y ++ others xs i) (flat_map f (slice_set xs i y)) (IsPermutation-sym (flat_map f (slice_set xs i y)) (f y ++ others xs i) (part_set xs i x y is)))))

-- ---- where a step in `do` notation leads somewhere

module _ {A B : Type 0} where
  pub from_then : (o : Option A) (f : A → Option B) (b : B) → option_and_then f o ≡ Some b → (a : A) × (o ≡ Some a) × (f a ≡ Some b)
  from_then None f b is = absurd (let e : None ≡ Some b = is in cc)
  from_then (Some a) f b is = (a, refl, is)

  pub from_map : (o : Option A) (f : A → B) (b : B) → option_map f o ≡ Some b → (a : A) × (o ≡ Some a) × (f a ≡ b)
  from_map None f b is = absurd (let e : None ≡ Some b = is in cc)
  from_map (Some a) f b is = (a, refl, some_is (f a) b is)

pub from_given : {A : Type 0} (guard : Bool) (a b : A) → given guard a ≡ Some b → (guard ≡ true) × (a ≡ b)
from_given true a b is = (refl, some_is a b is)
from_given false a b is = absurd (let e : None ≡ Some b = is in cc)
