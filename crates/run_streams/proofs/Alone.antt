-- where members come from of what lists give, and how many of them pass a test
use Rattle.std.proofs.Common.{◌≡◌, inl, inr, ⊎_elim, ℕ, zero, suc, ◌+◌, ◌≤◌, Bool, true, false, cond, List, [], ◌∷◌, ◌++◌, map, flat_map, find, Contains, Option, Some, None, slice_get, refl, ap, arith}
use Rattle.std.specs.List.{count_by}
use Rattle.std.proofs.lemmas.List.Elements.{Contains-append_cases}
use Rattle.std.proofs.lemmas.List.Sums.{sum_by-cons, sum_by-append}
use Rattle.tcp_streams.proofs.Members.{IsIn, IsIn_from_Contains, Contains_here, Contains_there, found, missing, sole}

-- the element that gives a member, and its place
pub record Gives {X : Type 0} (Q : X → Type 0) (xs : List X) : Type 0 where
  pub place : ℕ
  pub element : X
  pub there : slice_get xs place ≡ Some element
  pub is : Q element

gives_behind : {X : Type 0} (Q : X → Type 0) (x : X) (xs : List X) → Gives Q xs → Gives Q (x ∷ xs)
gives_behind Q x xs g = record { place = suc g.place; element = g.element; there = g.there; is = g.is }

module _ {X Y : Type 0} where
  pub flat_gives : (f : X → List Y) (xs : List X) (y : Y) → Contains (flat_map f xs) y → Gives (λ (x : X). Contains (f x) y) xs
  flat_gives f [] y c = absurd (IsIn_from_Contains y [] c)
  flat_gives f (x ∷ xs) y c =
      ⊎_elim
      (λ a. record { place = 0; element = x; there = refl; is = a })
      (λ a. gives_behind (λ (z : X). Contains (f z) y) x xs (flat_gives f xs y a))
      (Contains-append_cases (f x) (flat_map f xs) y c)

  pub map_gives : (f : X → Y) (xs : List X) (y : Y) → IsIn y (map f xs) → Gives (λ (x : X). y ≡ f x) xs
  map_gives f [] y k = absurd k
  map_gives f (x ∷ xs) y (inl e) = record { place = 0; element = x; there = refl; is = e }
  map_gives f (x ∷ xs) y (inr k) = gives_behind (λ (z : X). y ≡ f z) x xs (map_gives f xs y k)

  pub mapped_from : (f : X → Y) (xs : List X) (y : Y) → IsIn y (map f xs) → (x : X) × (Contains xs x × (y ≡ f x))
  mapped_from f [] y k = absurd k
  mapped_from f (x ∷ xs) y (inl e) = (x, (Contains_here x xs, e))
  mapped_from f (x ∷ xs) y (inr k) = let m = mapped_from f xs y k in (m.0, (Contains_there x m.0 xs m.1.0, m.1.1))

-- none of them
not_one : (b : Bool) → (b ≡ true → ⊥) → cond {A = ℕ} b 1 0 ≡ 0
not_one true never = absurd (never refl)
not_one false never = refl

module _ {Y : Type 0} (test : Y → Bool) where
  none_counted : (ys : List Y) → ((y : Y) → Contains ys y → test y ≡ true → ⊥) → count_by test ys ≡ 0
  none_counted [] never = refl
  none_counted (y ∷ ys) never =
      let first = not_one (test y) (never y (Contains_here y ys)) in
      let rest = none_counted ys (λ z c. never z (Contains_there y z ys c)) in
      let both : count_by test (y ∷ ys) ≡ cond (test y) 1 0 + count_by test ys = sum_by-cons (λ (z : Y). cond (test z) 1 0) y ys in
      omega (arith, both, first, rest)

  counted_append : (xs ys : List Y) → count_by test (xs ++ ys) ≡ count_by test xs + count_by test ys
  counted_append xs ys = sum_by-append (λ (z : Y). cond (test z) 1 0) xs ys

  -- only what one element gives has members that pass it
  pub alone : {X : Type 0} (f : X → List Y) (xs : List X) (i : ℕ) (x : X) → slice_get xs i ≡ Some x → ((j : ℕ) (z : X) (y : Y) → slice_get xs j ≡ Some z → Contains (f z) y → test y ≡ true → i ≡ j) → count_by test (flat_map f xs) ≡ count_by test (f x)
  alone {X} f [] i x at only = cc
  alone {X} f (a ∷ xs) zero x at only =
      let same : a ≡ x = cc in
      let rest = none_counted (flat_map f xs)
      (λ y c t. let g = flat_gives f xs y c in let no : 0 ≡ suc g.place = only (suc g.place) g.element y g.there g.is t in absurd (omega arith)) in
      let here = ap (λ (z : X). count_by test (f z)) same in
      let both = counted_append (f a) (flat_map f xs) in
      omega (arith, rest, here, both)
  alone {X} f (a ∷ xs) (suc i) x at only =
      let first = none_counted (f a) (λ y c t. let no : suc i ≡ 0 = only 0 a y refl c t in absurd (omega arith)) in
      let rest = alone f xs i x at (λ j z y there c t. let next : suc i ≡ suc j = only (suc j) z y there c t in omega arith) in
      let both = counted_append (f a) (flat_map f xs) in
      omega (arith, first, rest, both)

  -- the only one is found
  pub found_only : (ys : List Y) (y : Y) (o : Option Y) → find test ys ≡ o → count_by test ys ≤ 1 → Contains ys y → test y ≡ true → o ≡ Some y
  found_only ys y None e once c t = absurd (missing test ys y e (IsIn_from_Contains y ys c) t)
  found_only ys y (Some x) e once c t =
      let f = found test ys x e in
      ap (λ (z : Y). Some z) (sole test ys x y once f.0 (IsIn_from_Contains y ys c) f.1 t)
