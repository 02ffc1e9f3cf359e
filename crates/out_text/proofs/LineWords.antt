-- Words of a line, one behind another.
use Rattle.std.proofs.Common.{◌≡◌, ◌∷◌, ◌++◌, ℕ, List, ap, ◌∙◌, append_assoc}

pub words_behind : (old p f g d t : List ℕ) → (old ++ (p ++ 32 ∷ (f ++ 32 ∷ (g ++ 32 ∷ d)))) ++ t ≡ old ++ (p ++ 32 ∷ (f ++ 32 ∷ (g ++ 32 ∷ (d ++ t))))
words_behind old p f g d t =
    append_assoc old (p ++ 32 ∷ (f ++ 32 ∷ (g ++ 32 ∷ d))) t
    ∙ ap (λ (xs : List ℕ). old ++ xs)
    (append_assoc p (32 ∷ (f ++ 32 ∷ (g ++ 32 ∷ d))) t
    ∙ ap (λ (xs : List ℕ). p ++ 32 ∷ xs) (append_assoc f (32 ∷ (g ++ 32 ∷ d)) t ∙ ap (λ (xs : List ℕ). f ++ 32 ∷ xs) (append_assoc g (32 ∷ d) t)))
