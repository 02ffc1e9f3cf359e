-- things by number, where one is put, acted on or made
use Rattle.std.proofs.Common.{◌≡◌, ◌≢◌, ℕ, zero, suc, ◌≤◌, Bool, true, false, List, [], ◌∷◌, ◌++◌, length, Option, Some, None, slice_set, nat_lt, if◌then◌else◌, refl, sym, ap, subst, ◌∙◌, arith, one-add}
use Rattle.std.proofs.lemmas.Bool.Decides.{nat_tests}
use Rattle.std.proofs.lemmas.List.Sums.{prefix_len-le-length}
use Rattle.host_files.specs.Slots.{at, free_place, added, without, after, acts}

module _ {A : Type 0} where
  pub acts_here : (act : A → Option A) (k : ℕ) (slots : List (Option A)) → at k (acts act k slots) ≡ after act (at k slots)
  acts_here act k [] = refl
  acts_here act zero (x ∷ slots) = refl
  acts_here act (suc k) (x ∷ slots) = acts_here act k slots

  pub without_here : (k : ℕ) (slots : List (Option A)) → at k (without k slots) ≡ None
  without_here k [] = refl
  without_here zero (x ∷ slots) = refl
  without_here (suc k) (x ∷ slots) = without_here k slots

  pub set_same : (k : ℕ) (thing : Option A) (slots : List (Option A)) (a : A) → at k (slice_set slots k thing) ≡ Some a → thing ≡ Some a
  set_same k thing [] a e = cc
  set_same zero thing (x ∷ slots) a e = e
  set_same (suc k) thing (x ∷ slots) a e = set_same k thing slots a e

  pub set_other : (j k : ℕ) (thing : Option A) (slots : List (Option A)) → j ≢ k → at k (slice_set slots j thing) ≡ at k slots
  set_other j k thing [] apart = refl
  set_other zero zero thing (x ∷ slots) apart = absurd (apart refl)
  set_other zero (suc k) thing (x ∷ slots) apart = refl
  set_other (suc j) zero thing (x ∷ slots) apart = refl
  set_other (suc j) (suc k) thing (x ∷ slots) apart =
      set_other j k thing slots (λ same. apart (ap (λ (n : ℕ). suc n) same))

  set_inside : (k : ℕ) (thing : Option A) (slots : List (Option A)) → nat_lt k (length slots) ≡ true → at k (slice_set slots k thing) ≡ thing
  set_inside k thing [] inside = absurd (grind (arith, nat_tests))
  set_inside zero thing (x ∷ slots) inside = refl
  set_inside (suc k) thing (x ∷ slots) inside = set_inside k thing slots (grind (arith, nat_tests))

  append_here : (k : ℕ) (thing : Option A) (slots : List (Option A)) → k ≡ length slots → at k (slots ++ thing ∷ []) ≡ thing
  append_here zero thing [] e = refl
  append_here (suc k) thing [] e = absurd (omega arith)
  append_here zero thing (x ∷ slots) e = absurd (omega arith)
  append_here (suc k) thing (x ∷ slots) e = append_here k thing slots (omega arith)

  append_other : (k : ℕ) (thing : Option A) (slots : List (Option A)) → k ≢ length slots → at k (slots ++ thing ∷ []) ≡ at k slots
  append_other zero thing [] apart = absurd (apart refl)
  append_other (suc k) thing [] apart = refl
  append_other zero thing (x ∷ slots) apart = refl
  append_other (suc k) thing (x ∷ slots) apart = append_other k thing slots (λ same. apart (omega arith))

  -- a new thing at the least free number
  place_within : (slots : List (Option A)) → free_place slots ≤ length slots
  place_within slots = prefix_len-le-length _ slots

  put : Bool → ℕ → Option A → List (Option A) → List (Option A)
  put inside k thing slots = if inside then slice_set slots k thing else slots ++ thing ∷ []

  put_here : (inside : Bool) (k : ℕ) (thing : Option A) (slots : List (Option A)) → nat_lt k (length slots) ≡ inside → k ≤ length slots → at k (put inside k thing slots) ≡ thing
  unfolding put
  put_here true k thing slots e within = set_inside k thing slots e
  put_here false k thing slots e within = append_here k thing slots (grind (arith, nat_tests))

  put_other : (inside : Bool) (j k : ℕ) (thing : Option A) (slots : List (Option A)) → nat_lt j (length slots) ≡ inside → j ≤ length slots → j ≢ k → at k (put inside j thing slots) ≡ at k slots
  unfolding put
  put_other true j k thing slots e within apart = set_other j k thing slots apart
  put_other false j k thing slots e within apart =
      let last : j ≡ length slots = grind (arith, nat_tests) in append_other k thing slots (λ same. apart (omega arith))

  pub made_here : (a : A) (slots : List (Option A)) → at (free_place slots) (added a slots) ≡ Some a
  unfolding put
  made_here a slots =
      put_here (nat_lt (free_place slots) (length slots)) (free_place slots) (Some a) slots refl (place_within slots)

  pub made_other : (k : ℕ) (a : A) (slots : List (Option A)) → free_place slots ≢ k → at k (added a slots) ≡ at k slots
  unfolding put
  made_other k a slots apart =
      put_other (nat_lt (free_place slots) (length slots)) (free_place slots) k (Some a) slots refl (place_within slots) apart

  -- the place that a new thing gets is free
  pub none_free : (slots : List (Option A)) → at (free_place slots) slots ≡ None
  none_free [] = refl
  none_free (None ∷ slots) = refl
  none_free (Some a ∷ slots) = rw one-add (none_free slots)

  -- what holds of a thing, and not where there is none, holds of it where another is made
  pub made_keeps : (test : Option A → Bool) → test None ≡ false → (a : A) (slots : List (Option A)) (k : ℕ) → test (at k slots) ≡ true → test (at k (added a slots)) ≡ true
  made_keeps test none a slots k h =
      subst (λ (o : Option A). test o ≡ true)
      (sym (made_other k a slots (λ same. let here : at k slots ≡ None = subst (λ (n : ℕ). at n slots ≡ None) same (none_free slots) in clash test none (at k slots) here h))) h
    where
      clash : (test : Option A → Bool) → test None ≡ false → (o : Option A) → o ≡ None → test o ≡ true → ⊥
      clash test none None e h = let no : false ≡ true = sym none ∙ h in cc
      clash test none (Some a) e h = cc
