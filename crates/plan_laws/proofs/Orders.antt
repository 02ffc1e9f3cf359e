-- Each list has a stable order. Hosts have one by their names.
use Rattle.std.proofs.Common.{◌≡◌, ℕ, zero, suc, ◌<◌, Bool, true, false, not, ◌&&◌, cond, List, [], ◌∷◌, length, get_or, filter, IsPermutation, refl, sym, ap, ◌∙◌, true≢false, add-one, arith}
use Rattle.std.specs.Cmp.{IsStrictWeakOrder}
use Rattle.std.specs.Cmp.Lexicographic.{slice_cmp}
use Rattle.std.specs.Ordering.{nat_cmp, is_lt}
use Rattle.std.specs.List.Sorted.{IsSortedBy, IsStableBy, ties}
use Rattle.std.proofs.lemmas.Cmp.{nat_list_cmp_total}
use Rattle.std.proofs.lemmas.List.Sorted.{ranks_by, IsPermutation-refl, IsPermutation-cons, IsPermutation-trans, IsPermutation-middle}
use Rattle.shd_config.specs.declared.config.HostConfig.{HostConfig}
use Rattle.run_plan.specs.HostRows.{AreInOrder}

module _ {X : Type 0} (lt : X → X → Bool) where
  -- an item before the first that is not less
  abbrev put : X → List X → List X
  put x [] = x ∷ []
  put x (y ∷ ys) = cond (lt y x) (y ∷ put x ys) (x ∷ y ∷ ys)

  abbrev sorted : List X → List X
  sorted [] = []
  sorted (x ∷ xs) = put x (sorted xs)

  -- ---- it has the same items

  put_same : (x : X) (ys : List X) → IsPermutation (x ∷ ys) (put x ys)
  put_same x [] = IsPermutation-refl (x ∷ [])
  put_same x (y ∷ ys) = by (lt y x) (put_same x ys)
    where
      by : (b : Bool) → IsPermutation (x ∷ ys) (put x ys) → IsPermutation (x ∷ y ∷ ys) (cond b (y ∷ put x ys) (x ∷ y ∷ ys))
      by true rest = IsPermutation-trans (x ∷ y ∷ ys) (y ∷ x ∷ ys) (y ∷ put x ys) (IsPermutation-middle (x ∷ []) y ys) (IsPermutation-cons y (x ∷ ys) (put x ys) rest)
      by false rest = IsPermutation-refl (x ∷ y ∷ ys)

  sorted_same : (xs : List X) → IsPermutation xs (sorted xs)
  sorted_same [] = IsPermutation-refl []
  sorted_same (x ∷ xs) = IsPermutation-trans (x ∷ xs) (x ∷ sorted xs) (put x (sorted xs)) (IsPermutation-cons x xs (sorted xs) (sorted_same xs)) (put_same x (sorted xs))

  -- ---- it ascends

  -- the first of these is not less
  abbrev MayFollow : X → List X → Type 0
  MayFollow x [] = Unit {0}
  MayFollow x (y ∷ ys) = lt y x ≡ false

  abbrev Ascends : List X → Type 0
  Ascends [] = Unit {0}
  Ascends (x ∷ xs) = MayFollow x xs × Ascends xs

  put_follows : (x y : X) (ys : List X) → lt x y ≡ false → MayFollow y ys → MayFollow y (put x ys)
  put_follows x y [] not_less h = not_less
  put_follows x y (z ∷ zs) not_less h = by (lt z x)
    where
      by : (b : Bool) → MayFollow y (cond b (z ∷ put x zs) (x ∷ z ∷ zs))
      by true = h
      by false = not_less

  put_ascends : IsStrictWeakOrder lt → (x : X) (ys : List X) → Ascends ys → Ascends (put x ys)
  put_ascends order x [] h = (tt, tt)
  put_ascends order x (y ∷ ys) h = by (lt y x) refl (put_ascends order x ys h.1)
    where
      by : (b : Bool) → lt y x ≡ b → Ascends (put x ys) → Ascends (cond b (y ∷ put x ys) (x ∷ y ∷ ys))
      by true e rest = (put_follows x y ys (order.one_way y x e) h.0, rest)
      by false e rest = (e, h)

  sorted_ascends : IsStrictWeakOrder lt → (xs : List X) → Ascends (sorted xs)
  sorted_ascends order [] = tt
  sorted_ascends order (x ∷ xs) = put_ascends order x (sorted xs) (sorted_ascends order xs)

  next_not_less : (xs : List X) → Ascends xs → (k : ℕ) (d : X) → suc k < length xs → lt (get_or xs (suc k) d) (get_or xs k d) ≡ false
  next_not_less [] h k d within = absurd (omega arith)
  next_not_less (x ∷ []) h k d within = absurd (omega arith)
  next_not_less (x ∷ y ∷ ys) h zero d within = h.0
  next_not_less (x ∷ y ∷ ys) h (suc k) d within = next_not_less (y ∷ ys) h.1 k d (omega arith)

  is_sorted : (xs : List X) → Ascends xs → IsSortedBy lt xs
  is_sorted xs h k d low within = ap (λ n. lt (get_or xs n d) (get_or xs k d)) (add-one k) ∙ next_not_less xs h k d (omega arith)

  -- ---- what ties stays in its order

  neither : (a b : Bool) → not a && not b ≡ true → (a ≡ false) × (b ≡ false)
  neither false false e = (refl, refl)
  neither false true e = absurd (true≢false (sym e))
  neither true b e = absurd (true≢false (sym e))

  -- two items that tie with one aren't less than one another
  no_less : IsStrictWeakOrder lt → (t x y : X) → lt y x ≡ true → ties lt t x ≡ true → ties lt t y ≡ true → ⊥
  no_less order t x y less tx ty =
      let x_ties = neither (lt t x) (lt x t) tx in
      let y_ties = neither (lt t y) (lt y t) ty in
      true≢false (sym less ∙ order.chain y t x y_ties.1 x_ties.0)

  passed : (p q : Bool) (x y : X) (kept : List X) → (p ≡ true → q ≡ true → ⊥) → cond q (y ∷ cond p (x ∷ kept) kept) (cond p (x ∷ kept) kept) ≡ cond p (x ∷ cond q (y ∷ kept) kept) (cond q (y ∷ kept) kept)
  passed true true x y kept apart = absurd (apart refl refl)
  passed true false x y kept apart = refl
  passed false true x y kept apart = refl
  passed false false x y kept apart = refl

  put_stable : IsStrictWeakOrder lt → (t x : X) (ys : List X) → filter (ties lt t) (put x ys) ≡ filter (ties lt t) (x ∷ ys)
  put_stable order t x [] = refl
  put_stable order t x (y ∷ ys) = by (lt y x) refl (put_stable order t x ys)
    where
      by : (b : Bool) → lt y x ≡ b → filter (ties lt t) (put x ys) ≡ filter (ties lt t) (x ∷ ys) → filter (ties lt t) (cond b (y ∷ put x ys) (x ∷ y ∷ ys)) ≡ filter (ties lt t) (x ∷ y ∷ ys)
      by true e rest = ap (λ (kept : List X). cond (ties lt t y) (y ∷ kept) kept) rest ∙ passed (ties lt t x) (ties lt t y) x y (filter (ties lt t) ys) (no_less order t x y e)
      by false e rest = refl

  sorted_stable : IsStrictWeakOrder lt → (xs : List X) → IsStableBy lt xs (sorted xs)
  sorted_stable order [] t = refl
  sorted_stable order (x ∷ xs) t = put_stable order t x (sorted xs) ∙ ap (λ (kept : List X). cond (ties lt t x) (x ∷ kept) kept) (sorted_stable order xs t)

-- ---- hosts

abbrev is_before : HostConfig → HostConfig → Bool
is_before x y = is_lt (slice_cmp nat_cmp x.name y.name)

-- hosts have an order by their names
pub some_order : (hosts : List HostConfig) → (ordered : List HostConfig) × AreInOrder hosts ordered
some_order hosts =
    let order : IsStrictWeakOrder is_before = ranks_by nat_list_cmp_total (λ (h : HostConfig). h.name) in (
      sorted is_before hosts,
      record {
        same = sorted_same is_before hosts;
        order = is_sorted is_before (sorted is_before hosts) (sorted_ascends is_before order hosts);
        stable = sorted_stable is_before order hosts;
      },
    )
