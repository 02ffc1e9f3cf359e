-- A list has one order that ascends and keeps the order of what ties.
use Rattle.std.proofs.Common.{◌≡◌, ℕ, suc, ◌<◌, ◌≤◌, Bool, true, false, not, ◌&&◌, cond, List, [], ◌∷◌, length, get_or, filter, refl, sym, ap, subst, ◌∙◌, arith}
use Rattle.std.specs.Cmp.{IsStrictWeakOrder}
use Rattle.std.specs.List.Sorted.{IsSortedBy, IsStableBy, ties}
use Rattle.std.proofs.lemmas.List.Sorted.{sorted_far}

module _ {X : Type 0} (lt : X → X → Bool) (order : IsStrictWeakOrder lt) where
  -- nothing behind is less
  abbrev IsBelow : X → List X → Type 0
  IsBelow x [] = Unit {0}
  IsBelow x (y ∷ ys) = (lt y x ≡ false) × IsBelow x ys

  abbrev Ascends : List X → Type 0
  Ascends [] = Unit {0}
  Ascends (x ∷ xs) = IsBelow x xs × Ascends xs

  below_of : (x : X) (xs : List X) → ((k : ℕ) → k < length xs → lt (get_or xs k x) x ≡ false) → IsBelow x xs
  below_of x [] h = tt
  below_of x (y ∷ ys) h = (h 0 (omega arith), below_of x ys (λ k p. h (suc k) (omega arith)))

  ascends_of : (xs : List X) → ((i j : ℕ) (d : X) → i ≤ j → j < length xs → lt (get_or xs j d) (get_or xs i d) ≡ false) → Ascends xs
  ascends_of [] h = tt
  ascends_of (x ∷ xs) h = (below_of x xs (λ k p. h 0 (suc k) x (omega arith) (omega arith)), ascends_of xs (λ i j d p q. h (suc i) (suc j) d (omega arith) (omega arith)))

  tie : (x y : X) → lt x y ≡ false → lt y x ≡ false → ties lt x y ≡ true
  tie x y p q = λ i. not (p i) && not (q i)

  not_less : (x : X) (b : Bool) → lt x x ≡ b → b ≡ false
  not_less x true e = sym e ∙ order.one_way x x e
  not_less x false e = refl

  self_tie : (x : X) → ties lt x x ≡ true
  self_tie x = let e = not_less x (lt x x) refl in tie x x e e

  kept_head : (x : X) (xs : List X) → filter (ties lt x) (x ∷ xs) ≡ x ∷ filter (ties lt x) xs
  kept_head x xs = ap (λ (b : Bool). cond b (x ∷ filter (ties lt x) xs) (filter (ties lt x) xs)) (self_tie x)

  -- what a filter keeps isn't less either
  below_kept : (t : X → Bool) (x : X) (xs : List X) → IsBelow x xs → IsBelow x (filter t xs)
  below_kept t x [] h = tt
  below_kept t x (y ∷ ys) h = by (t y) (below_kept t x ys h.1)
    where
      by : (b : Bool) → IsBelow x (filter t ys) → IsBelow x (cond b (y ∷ filter t ys) (filter t ys))
      by true rest = (h.0, rest)
      by false rest = rest

  -- the first of a list is less than the first of another one nowhere
  first_not_less : (y z : X) (ys zs : List X) → IsBelow y ys → filter (ties lt z) (y ∷ ys) ≡ filter (ties lt z) (z ∷ zs) → lt z y ≡ false
  first_not_less y z ys zs h same =
      let self = not_less y (lt y y) refl in
      let all : IsBelow y (filter (ties lt z) (y ∷ ys)) = below_kept (ties lt z) y (y ∷ ys) (self, h) in
      (subst (IsBelow y) (same ∙ kept_head z zs) all).0

  tail_same : (b : Bool) (x : X) (ys zs : List X) → cond b (x ∷ ys) ys ≡ cond b (x ∷ zs) zs → ys ≡ zs
  tail_same true x ys zs same = cc
  tail_same false x ys zs same = same

  none_head : (x : X) (xs : List X) → [] ≡ x ∷ xs → ⊥
  none_head x xs e = cc

  head_same : (x y : X) (xs ys : List X) → x ∷ xs ≡ y ∷ ys → x ≡ y
  head_same x y xs ys e = cc

  one_order_by : (ys zs : List X) → Ascends ys → Ascends zs → ((x : X) → filter (ties lt x) ys ≡ filter (ties lt x) zs) → ys ≡ zs
  one_order_by [] [] h k same = refl
  one_order_by [] (z ∷ zs) h k same = absurd (none_head z (filter (ties lt z) zs) (same z ∙ kept_head z zs))
  one_order_by (y ∷ ys) [] h k same = absurd (none_head y (filter (ties lt y) ys) (sym (same y) ∙ kept_head y ys))
  one_order_by (y ∷ ys) (z ∷ zs) h k same =
      let zy : lt z y ≡ false = first_not_less y z ys zs h.0 (same z) in
      let yz : lt y z ≡ false = first_not_less z y zs ys k.0 (sym (same y)) in
      let kept : filter (ties lt y) (z ∷ zs) ≡ z ∷ filter (ties lt y) zs = ap (λ (b : Bool). cond b (z ∷ filter (ties lt y) zs) (filter (ties lt y) zs)) (tie y z yz zy) in
      let first : y ≡ z = head_same y z (filter (ties lt y) ys) (filter (ties lt y) zs) (sym (kept_head y ys) ∙ same y ∙ kept) in
      let rest : (x : X) → filter (ties lt x) ys ≡ filter (ties lt x) zs = λ x.
      tail_same (ties lt x y) y (filter (ties lt x) ys) (filter (ties lt x) zs)
      (same x ∙ ap (λ (w : X). cond (ties lt x w) (w ∷ filter (ties lt x) zs) (filter (ties lt x) zs)) (sym first)) in
      let tails : ys ≡ zs = one_order_by ys zs h.1 k.1 rest in
      λ i. first i ∷ tails i

  -- two stable sorts of one list are one
  pub one_order : (xs ys zs : List X) → IsSortedBy lt ys → IsSortedBy lt zs → IsStableBy lt xs ys → IsStableBy lt xs zs → ys ≡ zs
  one_order xs ys zs p q s t = one_order_by ys zs (ascends_of ys (sorted_far lt order ys p)) (ascends_of zs (sorted_far lt order zs q)) (λ x. s x ∙ sym (t x))
