-- Lines that are written one behind another.
use Rattle.std.proofs.Common.{◌≡◌, ℕ, zero, suc, ◌+◌, List, ◌++◌, sym, ap, ◌∙◌, append_assoc, append-nil, arith}
use Rattle.std.specs.List.{flat_map, range_with_len}

one_more : (f : ℕ → List ℕ) (k a : ℕ) → flat_map f (range_with_len a (suc k)) ≡ flat_map f (range_with_len a k) ++ f (a + k)
one_more f zero a = append-nil (f a) ∙ ap f (let e : a ≡ a + zero = omega arith in e)
one_more f (suc k) a =
    ap (λ (bytes : List ℕ). f a ++ bytes) (one_more f k (a + 1) ∙ ap (λ (i : ℕ). flat_map f (range_with_len (a + 1) k) ++ f i) (let e : a + 1 + k ≡ a + suc k = omega arith in e))
    ∙ sym (append_assoc (f a) (flat_map f (range_with_len (a + 1) k)) (f (a + suc k)))

-- one more line behind those so far
pub line_more : (f : ℕ → List ℕ) (k : ℕ) (before line after : List ℕ) → before ≡ flat_map f (range_with_len 0 k) → line ≡ f k → after ≡ before ++ line → after ≡ flat_map f (range_with_len 0 (k + 1))
line_more f k before line after so_far is all =
    all
    ∙ ap (λ (bytes : List ℕ). bytes ++ line) so_far
    ∙ ap (λ (bytes : List ℕ). flat_map f (range_with_len 0 k) ++ bytes) (is ∙ ap f (let e : k ≡ 0 + k = omega arith in e))
    ∙ sym (one_more f k 0)
    ∙ ap (λ (n : ℕ). flat_map f (range_with_len 0 n)) (let e : suc k ≡ k + 1 = omega arith in e)
