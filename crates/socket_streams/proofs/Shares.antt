-- what one element of a list has a share in
use Rattle.std.proofs.Common.{◌≡◌, ℕ, zero, suc, ◌<◌, nat_lt, List, [], ◌∷◌, ◌++◌, length, true, Some, slice_get, set, flat_map, refl, subst, append_assoc, arith}
use Rattle.std.proofs.lemmas.Bool.Decides.{nat_tests}
use Rattle.std.specs.List.Sorted.{IsPermutation}
use Rattle.std.proofs.lemmas.List.Sorted.{IsPermutation-refl, IsPermutation-trans, IsPermutation-append_comm, IsPermutation-append_left, IsPermutation-append_right}

module _ {Y : Type 0} where
  pub swap_parts : (xs ys zs : List Y) → IsPermutation (xs ++ (ys ++ zs)) (ys ++ (xs ++ zs))
  swap_parts xs ys zs =
      subst (λ (us : List Y). IsPermutation us (ys ++ (xs ++ zs))) (append_assoc xs ys zs)
      (subst (λ (us : List Y). IsPermutation ((xs ++ ys) ++ zs) us) (append_assoc ys xs zs)
      (IsPermutation-append_left zs (xs ++ ys) (ys ++ xs) (IsPermutation-append_comm xs ys)))

  -- a part of what stands behind comes to the front
  pub to_front : (xs ys part rest : List Y) → IsPermutation ys (part ++ rest) → IsPermutation (xs ++ ys) (part ++ (xs ++ rest))
  to_front xs ys part rest p =
      IsPermutation-trans (xs ++ ys) (xs ++ (part ++ rest)) (part ++ (xs ++ rest)) (IsPermutation-append_right xs ys (part ++ rest) p) (swap_parts xs part rest)

  pub same_permutation : (xs ys : List Y) → xs ≡ ys → IsPermutation xs ys
  same_permutation xs ys e = subst (λ (us : List Y). IsPermutation xs us) e (IsPermutation-refl xs)

module _ {X Y : Type 0} (f : X → List Y) where
  -- the others' shares, whatever stands at its place
  pub record Share (xs : List X) (place : ℕ) (x : X) : Type 0 where
    pub rest : List Y
    pub here : IsPermutation (flat_map f xs) (f x ++ rest)
    pub put : (y : X) → IsPermutation (flat_map f (set xs place y)) (f y ++ rest)

  pub share_of : (xs : List X) (place : ℕ) (x : X) → slice_get xs place ≡ Some x → Share xs place x
  share_of [] place x e = cc
  share_of (a ∷ xs) zero x e =
      let same : a ≡ x = cc in
      record {
        rest = flat_map f xs;
        here = subst (λ (y : X). IsPermutation (f a ++ flat_map f xs) (f y ++ flat_map f xs)) same (IsPermutation-refl (f a ++ flat_map f xs));
        put = λ y. IsPermutation-refl (f y ++ flat_map f xs);
      }
  share_of (a ∷ xs) (suc place) x e =
      let s = share_of xs place x e in
      record {
        rest = f a ++ s.rest;
        here = to_front (f a) (flat_map f xs) (f x) s.rest s.here;
        put = λ y. to_front (f a) (flat_map f (set xs place y)) (f y) s.rest (s.put y);
      }

  -- one more element at the end
  pub pushed_flat_map : (xs : List X) (y : X) → IsPermutation (flat_map f (xs ++ y ∷ [])) (f y ++ flat_map f xs)
  pushed_flat_map [] y = IsPermutation-refl (f y ++ [])
  pushed_flat_map (a ∷ xs) y = to_front (f a) (flat_map f (xs ++ y ∷ [])) (f y) (flat_map f xs) (pushed_flat_map xs y)

module _ {X : Type 0} (P : X → Type 0) where
  -- what holds of each element
  abbrev pub AllHold : List X → Type 0
  AllHold xs = (k : ℕ) (x : X) → slice_get xs k ≡ Some x → P x

  pub set_hold : (xs : List X) (place : ℕ) (y : X) → AllHold xs → P y → AllHold (set xs place y)
  set_hold [] place y all here k x e = cc
  set_hold (z ∷ xs) zero y all here zero x e = let same : y ≡ x = cc in subst P same here
  set_hold (z ∷ xs) zero y all here (suc k) x e = all (suc k) x e
  set_hold (z ∷ xs) (suc place) y all here zero x e = all zero x e
  set_hold (z ∷ xs) (suc place) y all here (suc k) x e =
      set_hold xs place y (λ j u q. all (suc j) u q) here k x e

  pub push_hold : (xs : List X) (y : X) → AllHold xs → P y → AllHold (xs ++ y ∷ [])
  push_hold [] y all here zero x e = let same : y ≡ x = cc in subst P same here
  push_hold [] y all here (suc k) x e = cc
  push_hold (z ∷ xs) y all here zero x e = all zero x e
  push_hold (z ∷ xs) y all here (suc k) x e =
      push_hold xs y (λ j u q. all (suc j) u q) here k x e

-- there is an element below the length
below : (a b : ℕ) → nat_lt a b ≡ true → a < b
below a b e = grind (arith, nat_tests)

element : {X : Type 0} (xs : List X) (k : ℕ) → k < length xs → (x : X) × (slice_get xs k ≡ Some x)
element [] k e = absurd (omega arith)
element (x ∷ xs) zero e = (x, refl)
element (x ∷ xs) (suc k) e = element xs k (omega arith)

pub there_is : {X : Type 0} (xs : List X) (k : ℕ) → nat_lt k (length xs) ≡ true → (x : X) × (slice_get xs k ≡ Some x)
there_is xs k e = element xs k (below k (length xs) e)
