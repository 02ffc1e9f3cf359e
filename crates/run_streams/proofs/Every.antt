-- what holds of each element of a list
use Rattle.std.proofs.Common.{◌≡◌, ◌≢◌, Bool, true, false, cond, arith, ◌⊎◌, inl, inr, ⊎_elim, ℕ, zero, suc, List, [], ◌∷◌, ◌++◌, map, filter_map, flat_map, set, Contains, Option, Some, None, slice_get, refl, sym, ap, subst}
use Rattle.std.specs.List.{AllByRecursion, filter}
use Rattle.std.proofs.lemmas.List.Elements.{Contains-append_left, Contains-append_right, Contains-append_cases}
use Rattle.tcp_streams.proofs.Members.{IsIn, IsIn_from_Contains, Contains_from_IsIn, Contains_here, Contains_there, Contains_cases}

module _ {X : Type 0} where
  abbrev pub Every : (X → Type 0) → List X → Type 0
  Every P xs = AllByRecursion P xs

  pub every_append : (P : X → Type 0) (xs ys : List X) → Every P xs → Every P ys → Every P (xs ++ ys)
  every_append P [] ys h k = k
  every_append P (x ∷ xs) ys h k = (h.0, every_append P xs ys h.1 k)

  every_in : (P : X → Type 0) (xs : List X) (x : X) → Every P xs → IsIn x xs → P x
  every_in P [] x h k = absurd k
  every_in P (y ∷ ys) x h (inl e) = subst P (sym e) h.0
  every_in P (y ∷ ys) x h (inr k) = every_in P ys x h.1 k

  pub every_member : (P : X → Type 0) (xs : List X) (x : X) → Every P xs → Contains xs x → P x
  every_member P xs x h c = every_in P xs x h (IsIn_from_Contains x xs c)

  pub every_with : (P Q : X → Type 0) (xs : List X) → ((x : X) → Contains xs x → P x → Q x) → Every P xs → Every Q xs
  every_with P Q [] f h = tt
  every_with P Q (x ∷ xs) f h =
      (f x (Contains_here x xs) h.0, every_with P Q xs (λ y c k. f y (Contains_there x y xs c) k) h.1)

-- what holds of each member
module _ {X : Type 0} where
  pub every_here : (P : X → Type 0) (xs : List X) → ((x : X) → Contains xs x → P x) → Every P xs
  every_here P [] f = tt
  every_here P (x ∷ xs) f = (f x (Contains_here x xs), every_here P xs (λ y c. f y (Contains_there x y xs c)))

-- one more element, if there is one
module _ {Y : Type 0} where
  abbrev first_more : Option Y → List Y → List Y
  first_more None ys = ys
  first_more (Some y) ys = y ∷ ys

  given_now : (o : Option Y) (y : Y) (ys : List Y) → o ≡ Some y → Contains (first_more o ys) y
  given_now None y ys e = cc
  given_now (Some z) y ys e = let same : z ≡ y = cc in subst (λ (x : Y). Contains (z ∷ ys) x) same (Contains_here z ys)

  given_later : (o : Option Y) (y : Y) (ys : List Y) → Contains ys y → Contains (first_more o ys) y
  given_later None y ys c = c
  given_later (Some z) y ys c = Contains_there z y ys c

  given_cases : (o : Option Y) (y : Y) (ys : List Y) → Contains (first_more o ys) y → (o ≡ Some y) ⊎ Contains ys y
  given_cases None y ys c = inr c
  given_cases (Some z) y ys c = ⊎_elim (λ e. inl (ap (λ (x : Y). Some x) (sym e))) (λ k. inr k) (Contains_cases z y ys c)

-- members of what lists give
module _ {X Y : Type 0} where
  mapped_in : (f : X → Y) (xs : List X) (x : X) → IsIn x xs → IsIn (f x) (map f xs)
  mapped_in f [] x h = absurd h
  mapped_in f (y ∷ ys) x (inl e) = inl (ap f e)
  mapped_in f (y ∷ ys) x (inr h) = inr (mapped_in f ys x h)

  pub mapped : (f : X → Y) (xs : List X) (x : X) → Contains xs x → Contains (map f xs) (f x)
  mapped f xs x c = Contains_from_IsIn (f x) (map f xs) (mapped_in f xs x (IsIn_from_Contains x xs c))

  every_mapped_in : (P : Y → Type 0) (f : X → Y) (xs : List X) (y : Y) → Every (λ (x : X). P (f x)) xs → IsIn y (map f xs) → P y
  every_mapped_in P f [] y h k = absurd k
  every_mapped_in P f (x ∷ xs) y h (inl e) = subst P (sym e) h.0
  every_mapped_in P f (x ∷ xs) y h (inr k) = every_mapped_in P f xs y h.1 k

  pub every_mapped : (P : Y → Type 0) (f : X → Y) (xs : List X) (y : Y) → Every (λ (x : X). P (f x)) xs → Contains (map f xs) y → P y
  every_mapped P f xs y h c = every_mapped_in P f xs y h (IsIn_from_Contains y (map f xs) c)

  given_in : (f : X → Option Y) (xs : List X) (x : X) (y : Y) → IsIn x xs → f x ≡ Some y → Contains (filter_map f xs) y
  given_in f [] x y h e = absurd h
  given_in f (z ∷ zs) x y (inl same) e =
      given_now (f z) y (filter_map f zs) (subst (λ (u : X). f u ≡ Some y) same e)
  given_in f (z ∷ zs) x y (inr h) e = given_later (f z) y (filter_map f zs) (given_in f zs x y h e)

  pub given : (f : X → Option Y) (xs : List X) (x : X) (y : Y) → Contains xs x → f x ≡ Some y → Contains (filter_map f xs) y
  given f xs x y c e = given_in f xs x y (IsIn_from_Contains x xs c) e

  pub every_given : (P : X → Type 0) (Q : Y → Type 0) (f : X → Option Y) (xs : List X) (y : Y) → ((x : X) → P x → f x ≡ Some y → Q y) → Every P xs → Contains (filter_map f xs) y → Q y
  every_given P Q f [] y from h c = absurd (IsIn_from_Contains y [] c)
  every_given P Q f (x ∷ xs) y from h c =
      ⊎_elim (λ e. from x h.0 e) (λ k. every_given P Q f xs y from h.1 k) (given_cases (f x) y (filter_map f xs) c)

  -- of several lists, of which one changes
  pub flat_member : (f : X → List Y) (xs : List X) (k : ℕ) (x : X) (y : Y) → slice_get xs k ≡ Some x → Contains (f x) y → Contains (flat_map f xs) y
  flat_member f [] k x y e c = cc
  flat_member f (z ∷ zs) zero x y e c =
      let same : z ≡ x = cc in Contains-append_left (f z) (flat_map f zs) y (subst (λ (u : X). Contains (f u) y) (sym same) c)
  flat_member f (z ∷ zs) (suc k) x y e c = Contains-append_right (f z) (flat_map f zs) y (flat_member f zs k x y e c)

  pub flat_set_cases : (f : X → List Y) (xs : List X) (k : ℕ) (x : X) (y : Y) → Contains (flat_map f (set xs k x)) y → Contains (flat_map f xs) y ⊎ Contains (f x) y
  flat_set_cases f [] k x y c = inl c
  flat_set_cases f (z ∷ zs) zero x y c =
      ⊎_elim (λ a. inr a) (λ b. inl (Contains-append_right (f z) (flat_map f zs) y b)) (Contains-append_cases (f x) (flat_map f zs) y c)
  flat_set_cases f (z ∷ zs) (suc k) x y c =
      ⊎_elim
      (λ a. inl (Contains-append_left (f z) (flat_map f zs) y a))
      (λ b. ⊎_elim (λ m. inl (Contains-append_right (f z) (flat_map f zs) y m)) (λ n. inr n) (flat_set_cases f zs k x y b))
      (Contains-append_cases (f z) (flat_map f (set zs k x)) y c)

-- members that pass a test
module _ {X : Type 0} (test : X → Bool) where
  kept_now : (b : Bool) (x : X) (xs : List X) → b ≡ true → Contains (cond b (x ∷ xs) xs) x
  kept_now true x xs e = Contains_here x xs
  kept_now false x xs e = cc

  kept_later : (b : Bool) (x y : X) (xs : List X) → Contains xs y → Contains (cond b (x ∷ xs) xs) y
  kept_later true x y xs c = Contains_there x y xs c
  kept_later false x y xs c = c

  filtered_in : (xs : List X) (x : X) → IsIn x xs → test x ≡ true → Contains (filter test xs) x
  filtered_in [] x h t = absurd h
  filtered_in (y ∷ ys) x (inl e) t =
      subst (λ (u : X). Contains (filter test (y ∷ ys)) u) (sym e) (kept_now (test y) y (filter test ys) (subst (λ (u : X). test u ≡ true) e t))
  filtered_in (y ∷ ys) x (inr h) t = kept_later (test y) y x (filter test ys) (filtered_in ys x h t)

  pub filtered : (xs : List X) (x : X) → Contains xs x → test x ≡ true → Contains (filter test xs) x
  filtered xs x c t = filtered_in xs x (IsIn_from_Contains x xs c) t

  every_cond : (P : X → Type 0) (b : Bool) (x : X) (xs : List X) → (b ≡ true → P x) → Every P xs → Every P (cond b (x ∷ xs) xs)
  every_cond P true x xs here each = (here refl, each)
  every_cond P false x xs here each = each

  pub every_filtered : (P : X → Type 0) (xs : List X) → Every P xs → Every (λ (x : X). P x × (test x ≡ true)) (filter test xs)
  every_filtered P [] each = tt
  every_filtered P (x ∷ xs) each =
      every_cond (λ (y : X). P y × (test y ≡ true)) (test x) x (filter test xs) (λ t. (each.0, t)) (every_filtered P xs each.1)

-- what holds of each element at its place
module _ {X : Type 0} where
  abbrev pub AllAt : (ℕ → X → Type 0) → List X → Type 0
  AllAt P xs = (i : ℕ) (x : X) → slice_get xs i ≡ Some x → P i x

  pub set_at : (P : ℕ → X → Type 0) (xs : List X) (k : ℕ) (y : X) → ((i : ℕ) (x : X) → i ≢ k → slice_get xs i ≡ Some x → P i x) → P k y → AllAt P (set xs k y)
  set_at P [] k y others here i x e = cc
  set_at P (z ∷ zs) zero y others here zero x e = let same : y ≡ x = cc in subst (P 0) same here
  set_at P (z ∷ zs) zero y others here (suc i) x e = others (suc i) x (λ same. omega arith) e
  set_at P (z ∷ zs) (suc k) y others here zero x e = others zero x (λ same. omega arith) e
  set_at P (z ∷ zs) (suc k) y others here (suc i) x e =
      set_at (λ j u. P (suc j) u) zs k y (λ j u apart q. others (suc j) u (λ same. apart (omega arith)) q) here i x e
