-- words of a generator, from one draw to the next
use Rattle.std.proofs.Common.{◌≡◌, ℕ, suc, ◌+◌, List, ap, ◌∙◌, arith}
use Rattle.host_draws.specs.Draws.{draw, word_of}

one_on : (at n : ℕ) → at + suc n ≡ at + 1 + n
one_on at n = omega arith

-- the words of a state are those of another one from a place on, and so are those of the state after it
pub told_on : (start words more : List ℕ) (at word : ℕ) → (word, more) ≡ draw words → ((n : ℕ) → word_of words n ≡ word_of start (at + n))
    → (n : ℕ) → word_of more n ≡ word_of start (at + 1 + n)
told_on start words more at word drawn told n = ap (λ (p : ℕ × List ℕ). word_of p.1 n) drawn ∙ told (suc n) ∙ ap (word_of start) (one_on at n)
