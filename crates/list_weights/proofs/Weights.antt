-- Weights of lists.
use Rattle.std.proofs.Common.{◌≡◌, ◌≢◌, ℕ, zero, suc, ◌+◌, ◌<◌, ◌≤◌, ◌==◌, List, [], ◌∷◌, ◌++◌, length, set, sym, refl, ap, ◌∙◌, eq-eqb, ne_eqb, length-append, arith}
use mathlib.Core.Option.{some, some-injective, some-ne-none}
use lib.ListN.{get_elem?}
use mathlib.Core.Logic.{dite}
use native.Mathlib.Decide.{ℕ_discrete}
use Rattle.list_weights.specs.Weights.{weigh, numbers_below, only}

module _ {X : Type 0} where
  pub weigh_append : (h : X → ℕ) (xs ys : List X) → weigh h (xs ++ ys) ≡ weigh h xs + weigh h ys
  weigh_append h [] ys = omega arith
  weigh_append h (x ∷ xs) ys = omega (arith, weigh_append h xs ys)

  -- one member changes
  pub weigh_set : (f : X → ℕ) (xs : List X) (i : ℕ) (v w : X) → get_elem? xs i ≡ some v → weigh f (set xs i w) + f v ≡ weigh f xs + f w
  weigh_set f [] i v w e = absurd (some-ne-none v (sym e))
  weigh_set f (x ∷ xs) zero v w e = let same : f x ≡ f v = ap f (some-injective x v e) in omega arith
  weigh_set f (x ∷ xs) (suc i) v w e = omega (arith, weigh_set f xs i v w e)

  -- a member weighs no more than all
  pub weigh_part : (f : X → ℕ) (xs : List X) (i : ℕ) (v : X) → get_elem? xs i ≡ some v → f v ≤ weigh f xs
  weigh_part f [] i v e = absurd (some-ne-none v (sym e))
  weigh_part f (x ∷ xs) zero v e = let same : f x ≡ f v = ap f (some-injective x v e) in omega arith
  weigh_part f (x ∷ xs) (suc i) v e = omega (arith, weigh_part f xs i v e)

  -- nor do two
  pub weigh_two : (f : X → ℕ) (xs : List X) (i j : ℕ) (v u : X) → j ≢ i → get_elem? xs i ≡ some v → get_elem? xs j ≡ some u → f v + f u ≤ weigh f xs
  weigh_two f [] i j v u ne at to = absurd (some-ne-none v (sym at))
  weigh_two f (x ∷ xs) zero zero v u ne at to = absurd (ne refl)
  weigh_two f (x ∷ xs) zero (suc j) v u ne at to = let same : f x ≡ f v = ap f (some-injective x v at) in omega (arith, weigh_part f xs j u to)
  weigh_two f (x ∷ xs) (suc i) zero v u ne at to = let same : f x ≡ f u = ap f (some-injective x u to) in omega (arith, weigh_part f xs i v at)
  weigh_two f (x ∷ xs) (suc i) (suc j) v u ne at to = omega (arith, weigh_two f xs i j v u (λ e. ne (ap suc e)) at to)

  weigh_nothing : (f : X → ℕ) (xs : List X) → ((j : ℕ) (u : X) → get_elem? xs j ≡ some u → f u ≡ 0) → weigh f xs ≡ 0
  weigh_nothing f [] none = refl
  weigh_nothing f (x ∷ xs) none = let here : f x ≡ 0 = none 0 x refl in omega (arith, weigh_nothing f xs (λ j u at. none (suc j) u at))

  -- where one member has all shares, and who has none weighs nothing, that one weighs what all do
  pub weigh_alone : (f share : X → ℕ) (xs : List X) (i : ℕ) (v : X) → get_elem? xs i ≡ some v → weigh share xs ≡ share v
      → ((j : ℕ) (u : X) → get_elem? xs j ≡ some u → share u ≡ 0 → f u ≡ 0) → weigh f xs ≡ f v
  weigh_alone f share [] i v at all idle = absurd (some-ne-none v (sym at))
  weigh_alone f share (x ∷ xs) zero v at all idle =
      let same : f x ≡ f v = ap f (some-injective x v at) in
      let theirs : share x ≡ share v = ap share (some-injective x v at) in
      let rest : weigh f xs ≡ 0 = weigh_nothing f xs (λ j u to. let p = weigh_part share xs j u to in idle (suc j) u to (omega arith)) in
      omega arith
  weigh_alone f share (x ∷ xs) (suc i) v at all idle =
      let p = weigh_part share xs i v at in
      let here : f x ≡ 0 = idle 0 x refl (omega arith) in
      let rest = weigh_alone f share xs i v at (omega arith) (λ j u to. idle (suc j) u to) in
      omega arith

  pub weigh_below : (f g : X → ℕ) (xs : List X) → ((j : ℕ) (u : X) → get_elem? xs j ≡ some u → f u ≤ g u) → weigh f xs ≤ weigh g xs
  weigh_below f g [] below = omega arith
  weigh_below f g (x ∷ xs) below = let here = below 0 x refl in omega (arith, weigh_below f g xs (λ j u to. below (suc j) u to))

  pub weigh_ones : (xs : List X) → weigh (λ (_ : X). 1) xs ≡ length xs
  weigh_ones [] = refl
  weigh_ones (x ∷ xs) = omega (arith, weigh_ones xs)

pub length_numbers_below : (n : ℕ) → length (numbers_below n) ≡ n
length_numbers_below zero = refl
length_numbers_below (suc n) = omega (arith, length-append (numbers_below n) (n ∷ []), length_numbers_below n)

-- counts a number
pub is_number : ℕ → ℕ → ℕ
is_number n m = only (m == n) 1

pub is_itself : (n : ℕ) → is_number n n ≡ 1
unfolding is_number
is_itself n = ap (λ b. only b 1) (eq-eqb n n refl)

pub is_other : (n m : ℕ) → m ≢ n → is_number n m ≡ 0
unfolding is_number
is_other n m ne = ap (λ b. only b 1) (ne_eqb m n ne)

-- where every number but one weighs nothing, so do the numbers below n of which it is none
pub weigh_past : (f : ℕ → ℕ) (d n : ℕ) → n ≤ d → ((p : ℕ) → d ≢ p → f p ≡ 0) → weigh f (numbers_below n) ≡ 0
weigh_past f d zero le others = refl
weigh_past f d (suc n) le others =
    let last : f n ≡ 0 = others n (λ e. absurd (omega arith)) in
    omega (arith, weigh_append f (numbers_below n) (n ∷ []), weigh_past f d n (omega arith) others)

-- and where it is one of them, they weigh what it does
pub weigh_only : (f : ℕ → ℕ) (d n : ℕ) → d < n → ((p : ℕ) → d ≢ p → f p ≡ 0) → weigh f (numbers_below n) ≡ f d
weigh_only f d zero w others = absurd (omega arith)
weigh_only f d (suc n) w others = dite (ℕ_discrete d n)
    (λ (e : d ≡ n).
    let last : f n ≡ f d = ap f (sym e) in
    omega (arith, weigh_append f (numbers_below n) (n ∷ []), weigh_past f d n (omega arith) others))
    (λ (ne : d ≢ n).
    let last : f n ≡ 0 = others n ne in
    omega (arith, weigh_append f (numbers_below n) (n ∷ []), weigh_only f d n (omega arith) others))

-- each number below n stands there once
pub weigh_once : (d m n : ℕ) → d < n → weigh (λ p. only (d == p) m) (numbers_below n) ≡ m
weigh_once d m n within = weigh_only (λ p. only (d == p) m) d n within (λ p ne. ap (λ b. only b m) (ne_eqb d p ne)) ∙ ap (λ b. only b m) (eq-eqb d d refl)
