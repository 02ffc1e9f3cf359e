-- Weights of lists, and lists read by place.
use Rattle.std.proofs.Common.{◌≡◌, ℕ, zero, suc, ◌+◌, ◌≤◌, List, [], ◌∷◌, ◌++◌, length, sym, refl, ap, subst, arith}
use mathlib.Core.Option.{some, some-injective, some-ne-none}
use lib.ListN.{get_elem?}
use Rattle.list_weights.specs.Weights.{weigh}
use Rattle.list_weights.proofs.Weights.{weigh_below}

module _ {X : Type 0} where
  -- where no member weighs more by f than by g, and all weigh the same, each weighs the same
  pub weigh_level : (f g : X → ℕ) (xs : List X) (i : ℕ) (v : X) → get_elem? xs i ≡ some v → weigh g xs ≤ weigh f xs
      → ((j : ℕ) (u : X) → get_elem? xs j ≡ some u → f u ≤ g u) → g v ≤ f v
  weigh_level f g [] i v at all below = absurd (some-ne-none v (sym at))
  weigh_level f g (x ∷ xs) zero v at all below =
      let mine : f x ≡ f v = ap f (some-injective x v at) in
      let theirs : g x ≡ g v = ap g (some-injective x v at) in
      let rest = weigh_below f g xs (λ j u to. below (suc j) u to) in
      omega arith
  weigh_level f g (x ∷ xs) (suc i) v at all below =
      let here = below 0 x refl in
      weigh_level f g xs i v at (omega arith) (λ j u to. below (suc j) u to)

  -- what stands behind a list
  pub at_behind : (xs ys : List X) (i : ℕ) (v : X) → get_elem? ys i ≡ some v → get_elem? (xs ++ ys) (length xs + i) ≡ some v
  at_behind [] ys i v e = subst (λ (k : ℕ). get_elem? ys k ≡ some v) (let k : i ≡ 0 + i = omega arith in k) e
  at_behind (x ∷ xs) ys i v e = let k : suc (length xs + i) ≡ suc (length xs) + i = omega arith in subst (λ (n : ℕ). get_elem? (x ∷ (xs ++ ys)) n ≡ some v) k (at_behind xs ys i v e)
