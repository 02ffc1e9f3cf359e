-- Bytes that stand for themselves between double quotes.
use Rattle.std.proofs.Common.{◌≡◌, ℕ, ◌+◌, ◌/◌, ◌%◌, ◌≤◌, Bool, true, false, cond, ◌&&◌, not, ◌==◌, nat_lt, List, [], ◌∷◌, ◌++◌, encode_utf8, refl, sym, ap, ◌∙◌, arith}
use Rattle.std.specs.List.{list_all}
use Rattle.std.proofs.Math.Utf8.{encode}
use Rattle.std.proofs.lemmas.Bool.{and_parts, and_from}
use Rattle.std.proofs.lemmas.Bool.Decides.{nat_tests}
use Rattle.yaml_tokens.specs.Scalars.{put_before, unescaped}
use Rattle.yaml_tokens.specs.declared.escapes.Escape.TheVariants.{Outside}
use Rattle.text_trees.proofs.Bytes.{is_inner, not_same, put_before_nil, put_before_append}

-- a byte that stands for itself between quotes
abbrev pub is_itself : ℕ → Bool
is_itself b = is_inner b && (not (b == 34) && not (b == 92))

pub itself_inner : (b : ℕ) → is_itself b ≡ true → is_inner b ≡ true
itself_inner b h = (and_parts (is_inner b) _ h).0

pub itself_open : (b : ℕ) → is_itself b ≡ true → ((b == 34) ≡ false) × ((b == 92) ≡ false)
itself_open b h = let k = and_parts (not (b == 34)) _ (and_parts (is_inner b) _ h).1 in (not_same b 34 k.0, not_same b 92 k.1)

pub unescaped_itself : (bs rest : List ℕ) → list_all is_itself bs ≡ true → unescaped Outside (bs ++ rest) ≡ put_before bs (unescaped Outside rest)
unfolding unescaped
unescaped_itself [] rest h = sym (put_before_nil (unescaped Outside rest))
unescaped_itself (b ∷ bs) rest h =
    let k = and_parts (is_itself b) (list_all is_itself bs) h in
    rw ((itself_open b k.0).1) (ap (put_before (b ∷ [])) (unescaped_itself bs rest k.1) ∙ put_before_append (b ∷ []) bs (unescaped Outside rest))

pub high_itself : (b : ℕ) → 128 ≤ b → is_itself b ≡ true
high_itself b h = grind (arith, nat_tests)

pub encode_itself : (c : ℕ) → is_itself c ≡ true → list_all is_itself (encode_utf8 c) ≡ true
unfolding encode
encode_itself c h = by (nat_lt c 128) (nat_lt c 2048) (nat_lt c 65536)
  where
    one : is_itself c && true ≡ true
    one = and_from (is_itself c) true h refl

    two : (a b : ℕ) → 128 ≤ a → 128 ≤ b → (is_itself a && (is_itself b && true)) ≡ true
    two a b p q = and_from (is_itself a) _ (high_itself a p) (and_from (is_itself b) true (high_itself b q) refl)

    by : (s t u : Bool) → list_all is_itself (cond s (c ∷ []) (cond t ((192 + c / 64) ∷ (128 + c % 64) ∷ []) (cond u ((224 + c / 4096) ∷ (128 + c / 64 % 64) ∷ (128 + c % 64) ∷ []) ((240 + c / 262144) ∷ (128 + c / 4096 % 64) ∷ (128 + c / 64 % 64) ∷ (128 + c % 64) ∷ [])))) ≡ true
    by true t u = one
    by false true u = two (192 + c / 64) (128 + c % 64) (omega arith) (omega arith)
    by false false true = and_from (is_itself (224 + c / 4096)) _ (high_itself (224 + c / 4096) (omega arith)) (two (128 + c / 64 % 64) (128 + c % 64) (omega arith) (omega arith))
    by false false false = and_from (is_itself (240 + c / 262144)) _ (high_itself (240 + c / 262144) (omega arith)) (and_from (is_itself (128 + c / 4096 % 64)) _ (high_itself (128 + c / 4096 % 64) (omega arith)) (two (128 + c / 64 % 64) (128 + c % 64) (omega arith) (omega arith)))
