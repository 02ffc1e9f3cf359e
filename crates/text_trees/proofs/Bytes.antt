-- Bytes inside of a line.
use Rattle.std.proofs.Common.{◌≡◌, ℕ, ◌+◌, Bool, true, false, ◌&&◌, not, ◌==◌, List, [], ◌∷◌, ◌++◌, Option, Some, None, option_map, IsUtf8, refl, sym, ap, true≢false, ◌∙◌, append_assoc, zero-add, add_assoc, nat_lt, ltb-true}
use Rattle.std.specs.List.{list_all}
use Rattle.std.proofs.lemmas.Bool.{and_parts, and_from}
use Rattle.std.proofs.lemmas.Str.{IsUtf8-append, IsUtf8-from_ascii}
use Rattle.std.proofs.lemmas.Str.Ascii.{IsAscii-nil, IsAscii-cons}
use Rattle.std.specs.Str.{IsAscii}
use Rattle.std.proofs.lemmas.List.Folds.{list_all-append}
use Rattle.yaml_tokens.specs.Scalars.{put_before}

-- neither a line feed nor a carriage return
abbrev pub is_inner : ℕ → Bool
is_inner b = not (b == 10) && not (b == 13)

abbrev pub are_inner : List ℕ → Bool
are_inner bytes = list_all is_inner bytes

pub all-append : (p : ℕ → Bool) (xs ys : List ℕ) → list_all p xs ≡ true → list_all p ys ≡ true → list_all p (xs ++ ys) ≡ true
all-append p xs ys h k = list_all-append p xs ys ∙ and_from (list_all p xs) (list_all p ys) h k

pub all_weaker : (p q : ℕ → Bool) → ((b : ℕ) → p b ≡ true → q b ≡ true) → (xs : List ℕ) → list_all p xs ≡ true → list_all q xs ≡ true
all_weaker p q f [] h = refl
all_weaker p q f (x ∷ xs) h = let k = and_parts (p x) (list_all p xs) h in and_from (q x) (list_all q xs) (f x k.0) (all_weaker p q f xs k.1)

-- UTF-8 inside of a line
pub record IsText (bytes : List ℕ) : Type 0 where
  pub inner : are_inner bytes ≡ true
  pub valid : IsUtf8 bytes

-- ASCII inside of a line
abbrev pub is_known : ℕ → Bool
is_known b = is_inner b && nat_lt b 128

known_inner : (b : ℕ) → is_known b ≡ true → is_inner b ≡ true
known_inner b h = (and_parts (is_inner b) (nat_lt b 128) h).0

known_ascii : (bytes : List ℕ) → list_all is_known bytes ≡ true → IsAscii bytes
known_ascii [] h = IsAscii-nil
known_ascii (b ∷ bytes) h =
    let k = and_parts (is_known b) (list_all is_known bytes) h in
    IsAscii-cons b bytes (ltb-true b 128 (and_parts (is_inner b) (nat_lt b 128) k.0).1) (known_ascii bytes k.1)

pub IsText_known : (bytes : List ℕ) → list_all is_known bytes ≡ true → IsText bytes
IsText_known bytes h = record { inner = all_weaker is_known is_inner known_inner bytes h; valid = IsUtf8-from_ascii bytes (known_ascii bytes h) }

pub IsText_append : (xs ys : List ℕ) → IsText xs → IsText ys → IsText (xs ++ ys)
IsText_append xs ys h k = record { inner = all-append is_inner xs ys h.inner k.inner; valid = IsUtf8-append xs ys h.valid k.valid }

pub not_same : (b c : ℕ) → not (b == c) ≡ true → (b == c) ≡ false
not_same b c h = by (b == c) h
  where
    by : (t : Bool) → not t ≡ true → t ≡ false
    by true h = absurd (true≢false (sym h))
    by false h = refl

-- ---- options

pub put_before_nil : (o : Option (List ℕ)) → put_before [] o ≡ o
put_before_nil None = refl
put_before_nil (Some text) = refl

pub put_before_append : (xs ys : List ℕ) (o : Option (List ℕ)) → put_before xs (put_before ys o) ≡ put_before (xs ++ ys) o
put_before_append xs ys None = refl
put_before_append xs ys (Some text) = ap Some (sym (append_assoc xs ys text))

-- so many more
abbrev pub plus : ℕ → Option ℕ → Option ℕ
plus n = option_map (λ k. n + k)

pub plus_zero : (o : Option ℕ) → plus 0 o ≡ o
plus_zero None = refl
plus_zero (Some k) = ap Some (zero-add k)

pub plus_plus : (m n : ℕ) (o : Option ℕ) → plus m (plus n o) ≡ plus (m + n) o
plus_plus m n None = refl
plus_plus m n (Some k) = ap Some (sym (add_assoc m n k))
