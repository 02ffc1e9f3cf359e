-- What holds of the places of a list.
use Rattle.std.proofs.Common.{ℕ, zero, suc, List, [], ◌∷◌, ◌++◌, length, arith}
use Rattle.list_weights.specs.Places.{EachAt}

-- one place more
pub EachAt_push : {X : Type 0} (F : ℕ → X → Type 0) (xs : List X) (y : X) → EachAt F xs → F (length xs) y → EachAt F (xs ++ y ∷ [])
EachAt_push F [] y h p zero e within = p
EachAt_push F [] y h p (suc j) e within = absurd (omega arith)
EachAt_push F (x ∷ xs) y h p zero e within = h 0 e (omega arith)
EachAt_push F (x ∷ xs) y h p (suc j) e within = EachAt_push (λ i. F (suc i)) xs y (λ i d w. h (suc i) d (omega arith)) p j e (omega arith)
