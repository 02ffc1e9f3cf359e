-- members of lists, and the only one that passes a test
use Rattle.std.proofs.Common.{◌≡◌, ℕ, zero, suc, ◌+◌, ◌<◌, ◌≤◌, ◌⊎◌, inl, inr, ⊎_elim, Bool, true, false, cond, List, [], ◌∷◌, length, get_or, Contains, Option, Some, None, refl, sym, ap, ◌∙◌, arith}
use Rattle.std.specs.List.{find, count_by}
use Rattle.std.proofs.lemmas.List.Sums.{sum_by-cons}
use Rattle.tcp_laws.proofs.Tests.{by_test}

one_at : (b : Bool) → b ≡ true → 1 ≤ cond {A = ℕ} b 1 0
one_at true e = omega arith
one_at false e = cc

module _ {X : Type 0} where
  abbrev pub IsIn : X → List X → Type 0
  IsIn x [] = ⊥
  IsIn x (y ∷ ys) = (x ≡ y) ⊎ IsIn x ys

  at_place : (x : X) (xs : List X) (k : ℕ) → k < length xs → get_or xs k x ≡ x → IsIn x xs
  at_place x [] k below is = absurd (omega arith)
  at_place x (y ∷ ys) zero below is = inl (sym is)
  at_place x (y ∷ ys) (suc k) below is = inr (at_place x ys k (omega arith) is)

  pub IsIn_from_Contains : (x : X) (xs : List X) → Contains xs x → IsIn x xs
  IsIn_from_Contains x xs c = at_place x xs c.0 c.1 c.2

  pub Contains_here : (x : X) (xs : List X) → Contains (x ∷ xs) x
  Contains_here x xs = (0, omega arith, refl)

  pub Contains_there : (x y : X) (xs : List X) → Contains xs y → Contains (x ∷ xs) y
  Contains_there x y xs c = (suc c.0, (let l : c.0 < length xs = c.1 in omega arith), c.2)

  pub Contains_from_IsIn : (x : X) (xs : List X) → IsIn x xs → Contains xs x
  Contains_from_IsIn x [] h = absurd h
  Contains_from_IsIn x (y ∷ ys) (inl e) = (0, (omega arith), sym e)
  Contains_from_IsIn x (y ∷ ys) (inr h) = Contains_there y x ys (Contains_from_IsIn x ys h)

  pub Contains_cases : (x y : X) (xs : List X) → Contains (x ∷ xs) y → (y ≡ x) ⊎ Contains xs y
  Contains_cases x y xs c =
      ⊎_elim (λ (e : y ≡ x). inl e) (λ (h : IsIn y xs). inr (Contains_from_IsIn y xs h)) (IsIn_from_Contains y (x ∷ xs) c)

  -- the first that passes a test
  pub found : (test : X → Bool) (xs : List X) (x : X) → find test xs ≡ Some x → IsIn x xs × (test x ≡ true)
  found test [] x e = cc
  found test (y ∷ ys) x e =
      by_test (λ (o : Option X). o ≡ Some x → IsIn x (y ∷ ys) × (test x ≡ true)) (test y) (Some y) (find test ys)
      (λ t k. let same : y ≡ x = cc in (inl (sym same), sym (ap test same) ∙ t))
      (λ t k. let rest = found test ys x k in (inr rest.0, rest.1))
      e

  pub missing : (test : X → Bool) (xs : List X) (x : X) → find test xs ≡ None → IsIn x xs → test x ≡ true → ⊥
  missing test [] x e h t = h
  missing test (y ∷ ys) x e h t =
      by_test (λ (o : Option X). o ≡ None → ⊥) (test y) (Some y) (find test ys)
      (λ k m. cc)
      (λ k m.
      ⊎_elim
      (λ (same : x ≡ y). let no : true ≡ false = sym t ∙ (ap test same ∙ k) in cc)
      (λ (rest : IsIn x ys). missing test ys x m rest t)
      h)
      e

  -- how many pass it
  count-cons : (test : X → Bool) (x : X) (xs : List X) → count_by test (x ∷ xs) ≡ cond (test x) 1 0 + count_by test xs
  count-cons test x xs = sum_by-cons (λ y. cond (test y) 1 0) x xs

  counted_in : (test : X → Bool) (xs : List X) (x : X) → IsIn x xs → test x ≡ true → 1 ≤ count_by test xs
  counted_in test [] x h t = absurd h
  counted_in test (y ∷ ys) x (inl e) t =
      let one = one_at (test y) (sym (ap test e) ∙ t) in omega (arith, count-cons test y ys, one)
  counted_in test (y ∷ ys) x (inr h) t =
      let rest = counted_in test ys x h t in omega (arith, count-cons test y ys, rest)

  pub sole : (test : X → Bool) (xs : List X) (x y : X) → count_by test xs ≤ 1 → IsIn x xs → IsIn y xs → test x ≡ true → test y ≡ true → x ≡ y
  sole test [] x y c a b p q = absurd a
  sole test (z ∷ zs) x y c (inl a) (inl b) p q = a ∙ sym b
  sole test (z ∷ zs) x y c (inl a) (inr b) p q =
      let one = one_at (test z) (sym (ap test a) ∙ p) in
      let other = counted_in test zs y b q in
      absurd (omega (arith, count-cons test z zs, one, other, c))
  sole test (z ∷ zs) x y c (inr a) (inl b) p q =
      let one = one_at (test z) (sym (ap test b) ∙ q) in
      let other = counted_in test zs x a p in
      absurd (omega (arith, count-cons test z zs, one, other, c))
  sole test (z ∷ zs) x y c (inr a) (inr b) p q =
      sole test zs x y (omega (arith, count-cons test z zs, c)) a b p q
