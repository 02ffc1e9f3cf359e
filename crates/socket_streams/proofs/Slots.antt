-- one record of a list
use Rattle.std.proofs.Common.{◌≡◌, ℕ, zero, suc, List, [], ◌∷◌, Some, slice_get, set, subst}
use Rattle.std.specs.List.{remove}
use Rattle.std.specs.List.Sorted.{IsPermutation}
use Rattle.std.proofs.lemmas.List.Sorted.{IsPermutation-refl, IsPermutation-cons, IsPermutation-trans, IsPermutation-middle}

module _ {X : Type 0} where
  -- the others, whatever stands at its place
  pub record Others (xs : List X) (place : ℕ) (x : X) : Type 0 where
    pub rest : List X
    pub here : IsPermutation xs (x ∷ rest)
    pub put : (y : X) → IsPermutation (set xs place y) (y ∷ rest)
    pub left : IsPermutation (remove xs place) rest
    pub gone : (y : X) → IsPermutation (remove (set xs place y) place) rest

  behind : (a x : X) (xs rest : List X) → IsPermutation xs (x ∷ rest) → IsPermutation (a ∷ xs) (x ∷ a ∷ rest)
  behind a x xs rest p =
      IsPermutation-trans (a ∷ xs) (a ∷ x ∷ rest) (x ∷ a ∷ rest) (IsPermutation-cons a xs (x ∷ rest) p) (IsPermutation-middle (a ∷ []) x rest)

  pub others_of : (xs : List X) (place : ℕ) (x : X) → slice_get xs place ≡ Some x → Others xs place x
  others_of [] place x e = cc
  others_of (a ∷ xs) zero x e =
      let same : a ≡ x = cc in
      record {
        rest = xs;
        here = subst (λ (y : X). IsPermutation (a ∷ xs) (y ∷ xs)) same (IsPermutation-refl (a ∷ xs));
        put = λ y. IsPermutation-refl (y ∷ xs);
        left = IsPermutation-refl xs;
        gone = λ y. IsPermutation-refl xs;
      }
  others_of (a ∷ xs) (suc place) x e =
      let o = others_of xs place x e in
      record {
        rest = a ∷ o.rest;
        here = behind a x xs o.rest o.here;
        put = λ y. behind a y (set xs place y) o.rest (o.put y);
        left = IsPermutation-cons a (remove xs place) o.rest o.left;
        gone = λ y. IsPermutation-cons a (remove (set xs place y) place) o.rest (o.gone y);
      }
