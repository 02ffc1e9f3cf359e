-- Weights of lists and of the numbers below a number.
use Rattle.std.proofs.Common.{◌≡◌, ℕ, suc, ◌+◌, ◌*◌, ◌<◌, ◌≤◌, List, [], ◌∷◌, ◌++◌, sym, refl, ap, ◌∙◌, lt_of_not-le, arith}
use mathlib.Core.Logic.{dite}
use native.Mathlib.Decide.{dec_le}
use Rattle.list_weights.specs.Weights.{weigh, numbers_below}
use Rattle.list_weights.proofs.Weights.{weigh_append, is_number, is_itself, is_other, weigh_past, weigh_only}

pub weigh_times : {X : Type 0} (f : X → ℕ) (xs : List X) → weigh (λ x. f x * 4294967296) xs ≡ weigh f xs * 4294967296
weigh_times f [] = refl
weigh_times f (x ∷ xs) = omega (arith, weigh_times f xs)

-- each number below k stands once among those below k
pub just_once : (n k : ℕ) → n < k → weigh (is_number n) (numbers_below k) ≡ 1
just_once n k within = weigh_only (is_number n) n k within (λ p ne. is_other n p (λ e. ne (sym e))) ∙ is_itself n

-- no number stands twice among them
pub at_most_once : (n k : ℕ) → weigh (is_number n) (numbers_below k) ≤ 1
at_most_once n k = dite (dec_le k n)
    (λ (le : k ≤ n). let none = weigh_past (is_number n) n k le (λ p ne. is_other n p (λ e. ne (sym e))) in omega arith)
    (λ (more : (k ≤ n) → ⊥). let one = just_once n k (lt_of_not-le more) in omega arith)

-- one number more
pub weigh_next : (h : ℕ → ℕ) (k : ℕ) → weigh h (numbers_below (k + 1)) ≡ weigh h (numbers_below k) + h k
weigh_next h k = let e : numbers_below (k + 1) ≡ numbers_below k ++ k ∷ [] = ap numbers_below (let s : k + 1 ≡ suc k = omega arith in s) in
    ap (weigh h) e ∙ (let w = weigh_append h (numbers_below k) (k ∷ []) in omega arith)
