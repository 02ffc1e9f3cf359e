-- Members of lists.
use Rattle.std.proofs.Common.{◌≡◌, ℕ, zero, suc, ◌<◌, ◌⊎◌, inl, inr, ⊎_elim, Bool, true, false, cond, List, [], ◌∷◌, ◌++◌, length, get_or, filter, All, Contains, refl, sym, ap, subst, ◌∙◌, arith}
use Rattle.std.specs.List.Sorted.{IsPermutation}
use Rattle.std.proofs.lemmas.List.Elements.{All-contains, Contains-get_or}
use Rattle.std.proofs.lemmas.List.Sorted.{Contains-permutation}

module _ {X : Type 0} where
  abbrev pub IsIn : X → List X → Type 0
  IsIn x [] = ⊥
  IsIn x (y ∷ ys) = (x ≡ y) ⊎ IsIn x ys

  pub IsIn_left : (x : X) (xs ys : List X) → IsIn x xs → IsIn x (xs ++ ys)
  IsIn_left x [] ys h = absurd h
  IsIn_left x (z ∷ xs) ys (inl e) = inl e
  IsIn_left x (z ∷ xs) ys (inr h) = inr (IsIn_left x xs ys h)

  pub IsIn_right : (x : X) (xs ys : List X) → IsIn x ys → IsIn x (xs ++ ys)
  IsIn_right x [] ys h = h
  IsIn_right x (z ∷ xs) ys h = inr (IsIn_right x xs ys h)

  pub IsIn_either : (x : X) (xs ys : List X) → IsIn x (xs ++ ys) → IsIn x xs ⊎ IsIn x ys
  IsIn_either x [] ys h = inr h
  IsIn_either x (z ∷ xs) ys (inl e) = inl (inl e)
  IsIn_either x (z ∷ xs) ys (inr h) = ⊎_elim (λ (l : IsIn x xs). inl (inr l)) (λ (r : IsIn x ys). inr r) (IsIn_either x xs ys h)

  pub Contains_from_IsIn : (x : X) (xs : List X) → IsIn x xs → Contains xs x
  Contains_from_IsIn x [] h = absurd h
  Contains_from_IsIn x (y ∷ ys) (inl e) = (0, (omega arith), sym e)
  Contains_from_IsIn x (y ∷ ys) (inr h) = let c : Contains ys x = Contains_from_IsIn x ys h in (suc c.0, (let l : c.0 < length ys = c.1 in omega arith), c.2)

  at_place : (x : X) (xs : List X) (k : ℕ) → k < length xs → get_or xs k x ≡ x → IsIn x xs
  at_place x [] k below is = absurd (omega arith)
  at_place x (y ∷ ys) zero below is = inl (sym is)
  at_place x (y ∷ ys) (suc k) below is = inr (at_place x ys k (omega arith) is)

  pub IsIn_from_Contains : (x : X) (xs : List X) → Contains xs x → IsIn x xs
  IsIn_from_Contains x xs c = at_place x xs c.0 c.1 c.2

  pub IsIn_permutation : (x : X) (xs ys : List X) → IsPermutation xs ys → IsIn x xs → IsIn x ys
  IsIn_permutation x xs ys p h = IsIn_from_Contains x ys (Contains-permutation xs ys x p (Contains_from_IsIn x xs h))

  -- of each member
  abbrev pub Each : (X → Type 0) → List X → Type 0
  Each P xs = (x : X) → IsIn x xs → P x

  pub Each_from_All : (P : X → Type 0) (xs : List X) → All P xs → Each P xs
  Each_from_All P xs all x h = All-contains P xs x all (Contains_from_IsIn x xs h)

  pub All_from_Each : (P : X → Type 0) (xs : List X) → Each P xs → All P xs
  All_from_Each P xs each k d below = each (get_or xs k d) (IsIn_from_Contains (get_or xs k d) xs (Contains-get_or xs k d below))

  pub Each_cons : (P : X → Type 0) (x : X) (xs : List X) → P x → Each P xs → Each P (x ∷ xs)
  Each_cons P x xs here rest y (inl e) = subst P (sym e) here
  Each_cons P x xs here rest y (inr h) = rest y h

  pub Each-append : (P : X → Type 0) (xs ys : List X) → Each P xs → Each P ys → Each P (xs ++ ys)
  Each-append P xs ys left right x h = ⊎_elim (left x) (right x) (IsIn_either x xs ys h)

  pub Each-left : (P : X → Type 0) (xs ys : List X) → Each P (xs ++ ys) → Each P xs
  Each-left P xs ys all x h = all x (IsIn_left x xs ys h)

  pub Each-right : (P : X → Type 0) (xs ys : List X) → Each P (xs ++ ys) → Each P ys
  Each-right P xs ys all x h = all x (IsIn_right x xs ys h)

  -- what passes a test
  filter_in : (p : X → Bool) (x y : X) (ys : List X) (b : Bool) → p y ≡ b → (IsIn x ys → p x ≡ true → IsIn x (filter p ys)) → (x ≡ y) ⊎ IsIn x ys → p x ≡ true → IsIn x (cond b (y ∷ filter p ys) (filter p ys))
  filter_in p x y ys true is more (inl e) passes = inl e
  filter_in p x y ys true is more (inr h) passes = inr (more h passes)
  filter_in p x y ys false is more (inl e) passes = absurd (let f : true ≡ false = sym passes ∙ ap p e ∙ is in cc)
  filter_in p x y ys false is more (inr h) passes = more h passes

  pub IsIn_filter : (p : X → Bool) (x : X) (xs : List X) → IsIn x xs → p x ≡ true → IsIn x (filter p xs)
  IsIn_filter p x [] h passes = absurd h
  IsIn_filter p x (y ∷ ys) h passes = filter_in p x y ys (p y) refl (IsIn_filter p x ys) h passes

  filter_from : (p : X → Bool) (x y : X) (ys : List X) (b : Bool) → p y ≡ b → (IsIn x (filter p ys) → IsIn x ys × (p x ≡ true)) → IsIn x (cond b (y ∷ filter p ys) (filter p ys)) → ((x ≡ y) ⊎ IsIn x ys) × (p x ≡ true)
  filter_from p x y ys true is more (inl e) = (inl e, ap p e ∙ is)
  filter_from p x y ys true is more (inr h) = let m : IsIn x ys × (p x ≡ true) = more h in (inr m.0, m.1)
  filter_from p x y ys false is more h = let m : IsIn x ys × (p x ≡ true) = more h in (inr m.0, m.1)

  pub IsIn_filter_from : (p : X → Bool) (x : X) (xs : List X) → IsIn x (filter p xs) → IsIn x xs × (p x ≡ true)
  IsIn_filter_from p x [] h = absurd h
  IsIn_filter_from p x (y ∷ ys) h = filter_from p x y ys (p y) refl (IsIn_filter_from p x ys) h

  -- where it stands
  pub split_at : (x : X) (xs : List X) → IsIn x xs → (front : List X) × (back : List X) × (xs ≡ front ++ x ∷ back)
  split_at x [] h = absurd h
  split_at x (y ∷ ys) (inl e) = ([], ys, ap (λ (z : X). z ∷ ys) (sym e))
  split_at x (y ∷ ys) (inr h) = let s = split_at x ys h in (y ∷ s.0, s.1, ap (λ (zs : List X). y ∷ zs) s.2)
