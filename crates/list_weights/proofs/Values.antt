-- The definitions on small values.
use Rattle.std.proofs.Common.{◌≡◌, ◌*◌, [], ◌∷◌, refl}
use Rattle.list_weights.specs.Weights.{weigh, numbers_below}

below_three : numbers_below 3 ≡ 0 ∷ 1 ∷ 2 ∷ []
below_three = refl

weighs_32 : weigh (λ n. n * 2) (7 ∷ 0 ∷ 9 ∷ []) ≡ 32
weighs_32 = refl
