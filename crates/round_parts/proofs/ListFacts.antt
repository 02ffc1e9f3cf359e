-- Lists, by their first element and by a place.
use Rattle.std.proofs.Common.{◌≡◌, ℕ, zero, suc, ◌<◌, inl, inr, List, [], ◌∷◌, ◌++◌, Some, All, flat_map, length, get_or, slice_get, refl, sym, ap, subst, ◌∙◌, arith, append_assoc}
use Rattle.world_order.proofs.Members.{Each_from_All, All_from_Each}

module _ {X : Type 0} where
  pub first_of : (P : X → Type 0) (l rest : List X) (x : X) → l ≡ x ∷ rest → All P l → P x
  first_of P l rest x is all = Each_from_All P (x ∷ rest) (subst (All P) is all) x (inl refl)

  pub rest_of : (P : X → Type 0) (l rest : List X) (x : X) → l ≡ x ∷ rest → All P l → All P rest
  rest_of P l rest x is all = All_from_Each P rest (λ y h. Each_from_All P (x ∷ rest) (subst (All P) is all) y (inr h))

  pub at_index : (xs : List X) (i : ℕ) (x : X) → i < length xs → x ≡ get_or xs i x → slice_get xs i ≡ Some x
  at_index [] i x below is = absurd (omega arith)
  at_index (y ∷ ys) zero x below is = ap Some (sym is)
  at_index (y ∷ ys) (suc i) x below is = at_index ys i x (omega arith) is

pub flat_append : {X Y : Type 0} (f : X → List Y) (xs ys : List X) → flat_map f (xs ++ ys) ≡ flat_map f xs ++ flat_map f ys
flat_append f [] ys = refl
flat_append f (x ∷ xs) ys = ap (λ (l : List _). f x ++ l) (flat_append f xs ys) ∙ sym (append_assoc (f x) (flat_map f xs) (flat_map f ys))
