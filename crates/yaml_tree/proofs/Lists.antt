-- Lemmas on tests, options and lists.
use Rattle.std.proofs.Common.{◌≡◌, ℕ, Bool, true, false, ◌&&◌, cond, List, [], ◌∷◌, ◌++◌, Option, Some, None, option_map, refl, ap, ◌∙◌, arith, ◌==◌, nat_lt, inl, inr, ◌⊎◌, eq-eqb}
use Rattle.std.proofs.lemmas.Option.{none-some, same_Some}
use Rattle.std.proofs.lemmas.Bool.{cond-true, cond-false, false≢true, le-ltb}
use Rattle.std.specs.Option.{option_and_then}

pub chosen : {A : Type 0} (b : Bool) (x y z : A) → cond b x y ≡ z → ((b ≡ true) × (x ≡ z)) ⊎ ((b ≡ false) × (y ≡ z))
chosen true x y z e = inl (refl, e)
chosen false x y z e = inr (refl, e)

pub both_true : (a b : Bool) → (a && b) ≡ true → (a ≡ true) × (b ≡ true)
both_true true b e = (refl, e)
both_true false b e = absurd (false≢true e)

pub mapped : {A B : Type 0} (f : A → B) (o : Option A) (y : B) → option_map f o ≡ Some y → (x : A) × (o ≡ Some x) × (f x ≡ y)
mapped f None y e = absurd (none-some y e)
mapped f (Some x) y e = (x, refl, same_Some (f x) y e)

pub chained : {A B : Type 0} (f : A → Option B) (o : Option A) (y : B) → option_and_then f o ≡ Some y → (x : A) × (o ≡ Some x) × (f x ≡ Some y)
chained f None y e = absurd (none-some y e)
chained f (Some x) y e = (x, refl, e)

pub nil_or_last : {A : Type 0} (xs : List A) → (xs ≡ []) ⊎ ((ys : List A) × (y : A) × (xs ≡ ys ++ (y ∷ [])))
nil_or_last [] = inl refl
nil_or_last (x ∷ xs) = by (nil_or_last xs)
  where
    by : (xs ≡ []) ⊎ ((ys : List _) × (y : _) × (xs ≡ ys ++ (y ∷ []))) → (x ∷ xs ≡ []) ⊎ ((ys : List _) × (y : _) × (x ∷ xs ≡ ys ++ (y ∷ [])))
    by (inl e) = inr ([], x, ap (λ l. x ∷ l) e)
    by (inr h) = inr (x ∷ h.0, h.1, ap (λ l. x ∷ l) h.2)

pub not_nil : {A : Type 0} (xs ys : List A) (y : A) → xs ++ (y ∷ ys) ≡ [] → ⊥
not_nil [] ys y e = cc
not_nil (x ∷ xs) ys y e = cc

-- the last of two equal lists, and what stands before it
pub same_last : {A : Type 0} (xs ys : List A) (x y : A) → xs ++ (x ∷ []) ≡ ys ++ (y ∷ []) → (xs ≡ ys) × (x ≡ y)
same_last [] [] x y e = (refl, cc)
same_last [] (b ∷ ys) x y e = absurd (not_nil ys [] y (cc))
same_last (a ∷ xs) [] x y e = absurd (not_nil xs [] x (cc))
same_last (a ∷ xs) (b ∷ ys) x y e = let rest : xs ++ (x ∷ []) ≡ ys ++ (y ∷ []) = cc in let first : a ≡ b = cc in let h = same_last xs ys x y rest in (let before : xs ≡ ys = h.0 in cc, h.1)

pub is_same : {A : Type 0} (a b : ℕ) (h : Bool) (x y z : A) → a ≡ b → h ≡ true → cond (nat_lt a b) x (cond (h && (a == b)) y z) ≡ y
is_same a b h x y z e t = cond-false (nat_lt a b) _ _ (le-ltb _ _ (omega arith)) ∙ cond-true (h && (a == b)) y z (ap (λ k. k && (a == b)) t ∙ eq-eqb a b e)
