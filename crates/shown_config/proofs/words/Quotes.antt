-- A text between double quotes is read as that text.
use Rattle.std.proofs.Common.{◌≡◌, ℕ, suc, ◌+◌, ◌-◌, ◌*◌, ◌/◌, ◌%◌, ◌<◌, ◌≤◌, Bool, true, false, ◌&&◌, ◌||◌, ◌==◌, nat_lt, nat_le, List, [], ◌∷◌, ◌++◌, length, Some, IsUtf8, chars, encode_utf8, encode_utf8_all, codes, flat_map, refl, sym, ap, ◌∙◌, subst, append_assoc, append-nil, arith, length-append, take_at, eqb-true, ltb-true, ltb-false, if◌then◌else◌, ⊎_elim, add-zero}
use Rattle.std.specs.List.{list_all}
use Rattle.std.specs.Char.{IsScalar}
use Rattle.std.proofs.Math.Utf8.{scalar, scalars, encode}
use Rattle.std.proofs.lemmas.Bool.{and_parts, and_from, or_cases}
use Rattle.std.proofs.lemmas.Bool.Decides.{nat_tests}
use Rattle.std.proofs.lemmas.Str.{IsUtf8-append, IsUtf8-encode, IsUtf8-nil, IsUtf8-from_ascii, encodes-chars, scalars-chars}
use Rattle.std.proofs.lemmas.Str.Ascii.{IsAscii-nil, IsAscii-cons}
use Rattle.sim_base.specs.Ascii.{digit_0, digit_9, capital_a, capital_f}
use Rattle.yaml_tokens.specs.Scalars.{put_before, unescaped, double_len, hex_value, is_surrogate, double_text, double_scan}
use Rattle.yaml_tokens.specs.declared.scan.Scan.TheVariants.{Quoted}
use Rattle.yaml_tokens.specs.declared.escapes.Escape.TheVariants.{Outside}
use Rattle.config_lines.specs.Quoted.{hex_digit, hex_escape, escaped, quoted}
use Rattle.text_trees.proofs.Bytes.{is_inner, are_inner, all-append, all_weaker, is_known, IsText_known, put_before_nil, put_before_append, plus, plus_zero, plus_plus}
use Rattle.text_trees.proofs.Itself.{is_itself, itself_inner, itself_open, unescaped_itself, encode_itself}

double_len_itself : (bs rest : List ℕ) → list_all is_itself bs ≡ true → double_len false (bs ++ rest) ≡ plus (length bs) (double_len false rest)
unfolding double_len
double_len_itself [] rest h = sym (plus_zero (double_len false rest))
double_len_itself (b ∷ bs) rest h =
    let k = and_parts (is_itself b) (list_all is_itself bs) h in
    let e : 1 + length bs ≡ suc (length bs) = omega arith in
    rw ((itself_open b k.0).0, (itself_open b k.0).1) (ap (plus 1) (double_len_itself bs rest k.1) ∙ plus_plus 1 (length bs) (double_len false rest) ∙ ap (λ n. plus n (double_len false rest)) e)

-- these bytes stand for a character
record Stands (c : ℕ) (bytes : List ℕ) : Type 0 where
  reads : (rest : List ℕ) → unescaped Outside (bytes ++ rest) ≡ put_before (encode_utf8 c) (unescaped Outside rest)
  spans : (rest : List ℕ) → double_len false (bytes ++ rest) ≡ plus (length bytes) (double_len false rest)
  inner : are_inner bytes ≡ true
  valid : IsUtf8 bytes

-- ---- characters by themselves

itself_stands : (c : ℕ) → IsScalar c → is_itself c ≡ true → Stands c (encode_utf8 c)
itself_stands c s h = let k = encode_itself c h in record {
  reads = λ rest. unescaped_itself (encode_utf8 c) rest k;
  spans = λ rest. double_len_itself (encode_utf8 c) rest k;
  inner = all_weaker is_itself is_inner itself_inner (encode_utf8 c) k;
  valid = IsUtf8-encode c s;
}

-- ---- escapes

and_false : (a : Bool) → (a && false) ≡ false
and_false true = refl
and_false false = refl

-- what stands behind a backslash is passed over
double_len_behind : (b : ℕ) (rest : List ℕ) → double_len false (92 ∷ b ∷ rest) ≡ plus 2 (double_len false rest)
unfolding double_len
double_len_behind b rest = rw (and_false (b == 34), and_false (b == 92)) (plus_plus 1 1 (double_len false rest))

pair_stands : (c b : ℕ) → ((rest : List ℕ) → unescaped Outside (92 ∷ b ∷ rest) ≡ put_before (encode_utf8 c) (unescaped Outside rest)) → list_all is_known (92 ∷ b ∷ []) ≡ true → Stands c (92 ∷ b ∷ [])
pair_stands c b r h = let t = IsText_known (92 ∷ b ∷ []) h in record { reads = r; spans = double_len_behind b; inner = t.inner; valid = t.valid }

reads_byte : (b : ℕ) (rest : List ℕ) → put_before [] (put_before (b ∷ []) (unescaped Outside rest)) ≡ put_before (b ∷ []) (unescaped Outside rest)
reads_byte b rest = put_before_nil (put_before (b ∷ []) (unescaped Outside rest))

quote_stands : Stands 34 (92 ∷ 34 ∷ [])
unfolding unescaped encode
quote_stands = pair_stands 34 34 (reads_byte 34) refl

backslash_stands : Stands 92 (92 ∷ 92 ∷ [])
unfolding unescaped encode
backslash_stands = pair_stands 92 92 (reads_byte 92) refl

feed_stands : Stands 10 (92 ∷ 110 ∷ [])
unfolding unescaped encode
feed_stands = pair_stands 10 110 (reads_byte 10) refl

return_stands : Stands 13 (92 ∷ 114 ∷ [])
unfolding unescaped encode
return_stands = pair_stands 13 114 (reads_byte 13) refl

tab_stands : Stands 9 (92 ∷ 116 ∷ [])
unfolding unescaped encode
tab_stands = pair_stands 9 116 (reads_byte 9) refl

-- ---- digits of base 16

hex_value_digit : (n : ℕ) → n < 16 → hex_value (hex_digit n) ≡ Some n
hex_value_digit n h = by (nat_lt n 10) refl
  where
    low : n < 10 → hex_value (digit_0 + n) ≡ Some n
    low l = let a : nat_le digit_0 (digit_0 + n) ≡ true = grind (arith, nat_tests) in let b : nat_le (digit_0 + n) digit_9 ≡ true = grind (arith, nat_tests) in rw (a, b) (ap Some (omega arith))

    high : 10 ≤ n → hex_value (capital_a + (n - 10)) ≡ Some n
    high l =
        let a : nat_le (capital_a + (n - 10)) digit_9 ≡ false = grind (arith, nat_tests) in
        let b : nat_le capital_a (capital_a + (n - 10)) ≡ true = grind (arith, nat_tests) in
        let d : nat_le (capital_a + (n - 10)) capital_f ≡ true = grind (arith, nat_tests) in
        rw (a, and_false (nat_le digit_0 (capital_a + (n - 10))), b, d) (ap Some (omega (arith, l)))

    by : (t : Bool) → nat_lt n 10 ≡ t → hex_value (if t then digit_0 + n else capital_a + (n - 10)) ≡ Some n
    by true e = low (ltb-true n 10 e)
    by false e = high (ltb-false n 10 e)

hex_digit_itself : (n : ℕ) → n < 16 → is_itself (hex_digit n) ≡ true
hex_digit_itself n h = by (nat_lt n 10) refl
  where
    low : n < 10 → is_itself (digit_0 + n) ≡ true
    low l = grind (arith, nat_tests)

    high : 10 ≤ n → is_itself (capital_a + (n - 10)) ≡ true
    high l = grind (arith, nat_tests)

    by : (t : Bool) → nat_lt n 10 ≡ t → is_itself (if t then digit_0 + n else capital_a + (n - 10)) ≡ true
    by true e = low (ltb-true n 10 e)
    by false e = high (ltb-false n 10 e)

hex_digit_ascii : (n : ℕ) → n < 16 → hex_digit n < 128
hex_digit_ascii n h = grind (arith, nat_tests)

hex_stands : (c : ℕ) → c < 128 → Stands c (hex_escape c)
unfolding unescaped
hex_stands c h = record { reads = reads; spans = spans; inner = inner; valid = valid }
  where
    first : ℕ
    first = hex_digit (c / 16)

    second : ℕ
    second = hex_digit (c % 16)

    small : c / 16 < 16
    small = omega arith

    less : c % 16 < 16
    less = omega arith

    whole : (0 * 16 + c / 16) * 16 + c % 16 ≡ c
    whole = omega arith

    plain : is_surrogate c ≡ false
    plain = grind (arith, nat_tests)

    reads : (rest : List ℕ) → unescaped Outside (92 ∷ 120 ∷ first ∷ second ∷ rest) ≡ put_before (encode_utf8 c) (unescaped Outside rest)
    reads rest = rw (hex_value_digit (c / 16) small, hex_value_digit (c % 16) less, whole, plain) (simp put_before_nil)

    spans : (rest : List ℕ) → double_len false (92 ∷ 120 ∷ first ∷ second ∷ rest) ≡ plus 4 (double_len false rest)
    spans rest = double_len_behind 120 (first ∷ second ∷ rest)
        ∙ ap (plus 2) (double_len_itself (first ∷ second ∷ []) rest (and_from (is_itself first) _ (hex_digit_itself (c / 16) small) (and_from (is_itself second) true (hex_digit_itself (c % 16) less) refl)))
        ∙ plus_plus 2 2 (double_len false rest)

    inner : are_inner (92 ∷ 120 ∷ first ∷ second ∷ []) ≡ true
    inner = and_from (is_inner first) _ (itself_inner first (hex_digit_itself (c / 16) small)) (and_from (is_inner second) true (itself_inner second (hex_digit_itself (c % 16) less)) refl)

    valid : IsUtf8 (92 ∷ 120 ∷ first ∷ second ∷ [])
    valid = IsUtf8-from_ascii (92 ∷ 120 ∷ first ∷ second ∷ []) (IsAscii-cons 92 (120 ∷ first ∷ second ∷ []) (omega arith) (IsAscii-cons 120 (first ∷ second ∷ []) (omega arith) (IsAscii-cons first (second ∷ []) (hex_digit_ascii (c / 16) small) (IsAscii-cons second [] (hex_digit_ascii (c % 16) less) IsAscii-nil))))

escaped_stands : (c : ℕ) → IsScalar c → Stands c (escaped c)
escaped_stands c s = by (c == 34) (c == 92) (c == 10) (c == 13) (c == 9) (nat_lt c 32 || c == 127) refl refl refl refl refl refl
  where
    at : (d : ℕ) (bytes : List ℕ) → (c == d) ≡ true → Stands d bytes → Stands c bytes
    at d bytes e k = subst (λ (x : ℕ). Stands x bytes) (sym (eqb-true c d e)) k

    low : (nat_lt c 32 || c == 127) ≡ true → c < 128
    low e = ⊎_elim (λ k. let l = ltb-true c 32 k in omega arith) (λ k. let l = eqb-true c 127 k in omega arith) (or_cases (nat_lt c 32) (c == 127) e)

    itself : (c == 34) ≡ false → (c == 92) ≡ false → (c == 10) ≡ false → (c == 13) ≡ false → is_itself c ≡ true
    itself p q r t = rw (p, q, r, t) refl

    by : (p q r t u v : Bool) → (c == 34) ≡ p → (c == 92) ≡ q → (c == 10) ≡ r → (c == 13) ≡ t → (c == 9) ≡ u → (nat_lt c 32 || c == 127) ≡ v
        → Stands c (if p then codes "\\\"" else (if q then codes "\\\\" else (if r then codes "\\n" else (if t then codes "\\r" else (if u then codes "\\t" else (if v then hex_escape c else encode_utf8 c))))))
    by true q r t u v a b d e f g = at 34 _ a quote_stands
    by false true r t u v a b d e f g = at 92 _ b backslash_stands
    by false false true t u v a b d e f g = at 10 _ d feed_stands
    by false false false true u v a b d e f g = at 13 _ e return_stands
    by false false false false true v a b d e f g = at 9 _ f tab_stands
    by false false false false false true a b d e f g = hex_stands c (low g)
    by false false false false false false a b d e f g = itself_stands c s (itself a b d e)

-- ---- texts

-- what stands between the quotes of a text
abbrev pub body : List ℕ → List ℕ
body text = flat_map escaped (chars text)

module _ (rest : List ℕ) where
  unescaped_body : (cs : List ℕ) → scalars cs ≡ true → unescaped Outside (flat_map escaped cs ++ rest) ≡ put_before (encode_utf8_all cs) (unescaped Outside rest)
  unescaped_body [] h = sym (put_before_nil (unescaped Outside rest))
  unescaped_body (c ∷ cs) h =
      let k = and_parts (scalar c) (scalars cs) h in
      ap (unescaped Outside) (append_assoc (escaped c) (flat_map escaped cs) rest)
      ∙ (escaped_stands c k.0).reads (flat_map escaped cs ++ rest)
      ∙ ap (put_before (encode_utf8 c)) (unescaped_body cs k.1)
      ∙ put_before_append (encode_utf8 c) (encode_utf8_all cs) (unescaped Outside rest)

  double_len_body : (cs : List ℕ) → scalars cs ≡ true → double_len false (flat_map escaped cs ++ rest) ≡ plus (length (flat_map escaped cs)) (double_len false rest)
  double_len_body [] h = sym (plus_zero (double_len false rest))
  double_len_body (c ∷ cs) h =
      let k = and_parts (scalar c) (scalars cs) h in
      ap (double_len false) (append_assoc (escaped c) (flat_map escaped cs) rest)
      ∙ (escaped_stands c k.0).spans (flat_map escaped cs ++ rest)
      ∙ ap (plus (length (escaped c))) (double_len_body cs k.1)
      ∙ plus_plus (length (escaped c)) (length (flat_map escaped cs)) (double_len false rest)
      ∙ ap (λ n. plus n (double_len false rest)) (sym (length-append (escaped c) (flat_map escaped cs)))

body_inner : (cs : List ℕ) → scalars cs ≡ true → are_inner (flat_map escaped cs) ≡ true
body_inner [] h = refl
body_inner (c ∷ cs) h = let k = and_parts (scalar c) (scalars cs) h in all-append is_inner (escaped c) (flat_map escaped cs) (escaped_stands c k.0).inner (body_inner cs k.1)

body_utf8 : (cs : List ℕ) → scalars cs ≡ true → IsUtf8 (flat_map escaped cs)
body_utf8 [] h = IsUtf8-nil
body_utf8 (c ∷ cs) h = let k = and_parts (scalar c) (scalars cs) h in IsUtf8-append (escaped c) (flat_map escaped cs) (escaped_stands c k.0).valid (body_utf8 cs k.1)

-- a text between quotes, as it stands before what follows
pub quoted_parts : (text rest : List ℕ) → quoted text ++ rest ≡ 34 ∷ (body text ++ (34 ∷ rest))
unfolding quoted
quoted_parts text rest = ap (λ l. 34 ∷ l) (append_assoc (body text) (34 ∷ []) rest)

pub length-quoted : (text : List ℕ) → length (quoted text) ≡ 2 + length (body text)
unfolding quoted
length-quoted text = let e = length-append (body text) (34 ∷ []) in omega (arith, e)

-- what is read of a text behind its first quote
pub double_scan_body : (text rest : List ℕ) → IsUtf8 text → double_scan (body text ++ (34 ∷ rest)) (double_len false (body text ++ (34 ∷ rest))) ≡ Quoted text (length (quoted text))
unfolding double_len unescaped
double_scan_body text rest u =
    ap (double_scan (body text ++ (34 ∷ rest))) len
    ∙ ap (λ bytes. double_text (length (body text)) (unescaped Outside bytes)) (take_at (body text) (34 ∷ rest) (length (body text)) refl)
    ∙ ap (double_text (length (body text))) says
    ∙ ap (Quoted text) (sym (length-quoted text))
  where
    len : double_len false (body text ++ (34 ∷ rest)) ≡ Some (length (body text))
    len = double_len_body (34 ∷ rest) (chars text) (scalars-chars text u) ∙ ap Some (add-zero (length (body text)))

    says : unescaped Outside (body text) ≡ Some text
    says = ap (unescaped Outside) (sym (append-nil (body text))) ∙ unescaped_body [] (chars text) (scalars-chars text u) ∙ ap Some (append-nil (encode_utf8_all (chars text)) ∙ encodes-chars text u)

pub quoted_inner : (text : List ℕ) → IsUtf8 text → are_inner (quoted text) ≡ true
unfolding quoted
quoted_inner text u = all-append is_inner (body text) (34 ∷ []) (body_inner (chars text) (scalars-chars text u)) refl

pub quoted_utf8 : (text : List ℕ) → IsUtf8 text → IsUtf8 (quoted text)
unfolding quoted
quoted_utf8 text u = IsUtf8-append (34 ∷ []) (body text ++ (34 ∷ [])) quote (IsUtf8-append (body text) (34 ∷ []) (body_utf8 (chars text) (scalars-chars text u)) quote)
  where
    quote : IsUtf8 (34 ∷ [])
    quote = IsUtf8-from_ascii (34 ∷ []) (IsAscii-cons 34 [] (omega arith) IsAscii-nil)
