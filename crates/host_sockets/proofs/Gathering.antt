-- going over a list: what was gathered, and what was not found
use Rattle.std.proofs.Common.{◌≡◌, ℕ, zero, suc, ◌+◌, ◌≤◌, List, [], ◌∷◌, ◌++◌, length, map, drop, Bool, true, false, ◌||◌, Some, slice_get, refl, sym, ap, subst, ◌∙◌, add-one, append_assoc, append-nil, arith}
use Rattle.std.specs.List.{flat_map, list_any}
use Rattle.std.proofs.lemmas.List.{map-append}

drop_at : {A : Type 0} (xs : List A) (place : ℕ) (x : A) → slice_get xs place ≡ Some x → drop place xs ≡ x ∷ drop (suc place) xs
drop_at [] place x e = cc
drop_at {A} (y ∷ xs) zero x e = let same : y ≡ x = cc in ap (λ (z : A). z ∷ xs) same
drop_at (y ∷ xs) (suc place) x e = drop_at xs place x e

pub drop_past : {A : Type 0} (xs : List A) (place : ℕ) → length xs ≤ place → drop place xs ≡ []
drop_past [] zero b = refl
drop_past [] (suc place) b = refl
drop_past (x ∷ xs) zero b = absurd (omega arith)
drop_past (x ∷ xs) (suc place) b = drop_past xs place (omega arith)

pub gathered_next : {A B : Type 0} (f : A → List B) (xs : List A) (place : ℕ) (x : A) (ends : List B) → slice_get xs place ≡ Some x → ends ++ flat_map f (drop place xs) ≡ flat_map f xs → (ends ++ f x) ++ flat_map f (drop (place + 1) xs) ≡ flat_map f xs
gathered_next {A} {B} f xs place x ends at e =
    let step : flat_map f (drop place xs) ≡ f x ++ flat_map f (drop (suc place) xs) = ap (flat_map f) (drop_at xs place x at) in
    let all : (ends ++ f x) ++ flat_map f (drop (suc place) xs) ≡ flat_map f xs =
    append_assoc ends (f x) (flat_map f (drop (suc place) xs)) ∙ (ap (λ (ys : List B). ends ++ ys) (sym step) ∙ e) in
    subst (λ (n : ℕ). (ends ++ f x) ++ flat_map f (drop n xs) ≡ flat_map f xs) (sym (add-one place)) all

pub gathered_all : {A B : Type 0} (f : A → List B) (xs : List A) (place : ℕ) (ends : List B) → length xs ≤ place → ends ++ flat_map f (drop place xs) ≡ flat_map f xs → ends ≡ flat_map f xs
gathered_all {A} f xs place ends b e =
    sym (append-nil ends) ∙ (ap (λ (ys : List A). ends ++ flat_map f ys) (sym (drop_past xs place b)) ∙ e)

-- a map over what was gathered
pub map-flat_map : {A B C : Type 0} (g : B → C) (f : A → List B) (xs : List A) → map g (flat_map f xs) ≡ flat_map (λ x. map g (f x)) xs
map-flat_map g f [] = refl
map-flat_map g f (x ∷ xs) = map-append g (f x) (flat_map f xs) ∙ ap (λ ys. map g (f x) ++ ys) (map-flat_map g f xs)

pub any_next : {A : Type 0} (p : A → Bool) (xs : List A) (place : ℕ) (x : A) → slice_get xs place ≡ Some x → p x ≡ false → list_any p xs ≡ list_any p (drop place xs) → list_any p xs ≡ list_any p (drop (place + 1) xs)
any_next p xs place x at fails e =
    let step : list_any p (drop place xs) ≡ (p x || list_any p (drop (suc place) xs)) = ap (list_any p) (drop_at xs place x at) in
    let rest : list_any p xs ≡ list_any p (drop (suc place) xs) = e ∙ (step ∙ ap (λ (b : Bool). b || list_any p (drop (suc place) xs)) fails) in
    subst (λ (n : ℕ). list_any p xs ≡ list_any p (drop n xs)) (sym (add-one place)) rest

pub any_here : {A : Type 0} (p : A → Bool) (xs : List A) (place : ℕ) (x : A) → slice_get xs place ≡ Some x → p x ≡ true → list_any p xs ≡ list_any p (drop place xs) → true ≡ list_any p xs
any_here p xs place x at holds e =
    let step : list_any p (drop place xs) ≡ (p x || list_any p (drop (suc place) xs)) = ap (list_any p) (drop_at xs place x at) in
    sym (e ∙ (step ∙ ap (λ (b : Bool). b || list_any p (drop (suc place) xs)) holds))

pub any_none : {A : Type 0} (p : A → Bool) (xs : List A) (place : ℕ) → length xs ≤ place → list_any p xs ≡ list_any p (drop place xs) → false ≡ list_any p xs
any_none p xs place b e = sym (e ∙ ap (list_any p) (drop_past xs place b))
