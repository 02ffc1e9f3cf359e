-- A text in double quotes of UTF-8 is UTF-8.
use Rattle.std.proofs.Common.{◌≡◌, ℕ, ◌+◌, ◌*◌, ◌-◌, ◌<◌, ◌≤◌, Bool, true, false, not, ◌&&◌, ◌||◌, ◌==◌, nat_lt, nat_le, if◌then◌else◌, List, [], ◌∷◌, ◌++◌, length, get_or, Option, Some, None, IfSome, option_map, IsUtf8, encode_utf8, encode_utf8_all, chars, refl, sym, ap, ◌∙◌, subst, arith, one-add, inl, inr, ◌⊎◌, ⊎_elim, eqb-true, leb-true, ltb-true}
use Rattle.std.specs.List.{list_all}
use Rattle.std.specs.Option.{option_and_then}
use Rattle.std.specs.Char.{IsScalar}
use Rattle.std.proofs.Math.Utf8.{scalar, scalars, encode}
use Rattle.std.proofs.lemmas.Bool.{and_parts, cases_lt, cases_eq, ne_eqb, lt-leb}
use Rattle.std.proofs.lemmas.Bool.Decides.{nat_tests}
use Rattle.std.proofs.lemmas.Str.{IsUtf8-append, IsUtf8-encode, IsUtf8-nil, encode_ascii, encodes-chars, scalars-chars}
use Rattle.yaml_tokens.specs.inside.Escapes.{IsInRange}
use Rattle.yaml_tokens.specs.Scalars.{single_quoted, double_len, escaped_byte, hex_value, is_surrogate, put_before, number_step, escape_step, added_bytes, unescaped}
use Rattle.yaml_tokens.specs.declared.escapes.Escape.{Escape}
use Rattle.yaml_tokens.specs.declared.escapes.Escape.TheVariants.{Outside, Behind, Digits}
use Rattle.yaml_tokens.specs.declared.escapes.Added.{Added}
use Rattle.yaml_tokens.specs.declared.escapes.Added.TheVariants.{Nothing, Byte, Character}
use Rattle.text_trees.proofs.Itself.{is_itself, encode_itself, high_itself, unescaped_itself}
use Rattle.text_trees.proofs.Characters.{some_map, one_byte, High, encode_high, length_some, high_of}
use Rattle.text_trees.proofs.SingleQuotes.{IsGoodFound, single_good}

-- a step of a reader of escapes leaves it in range, and adds UTF-8
abbrev IsGoodStep : Escape × Added → Type 0
IsGoodStep s = IsInRange s.0 × IsUtf8 (added_bytes s.1)

escaped_ascii : (c : ℕ) → c < 128 → IfSome (escaped_byte c) (λ x. x < 128)
escaped_ascii c h = by ((c == 34) || (c == 92) || (c == 47)) (c == 110) (c == 114) (c == 116) (c == 48)
  where
    by : (p q r t u : Bool) → IfSome (if p then Some c else (if q then Some 10 else (if r then Some 13 else (if t then Some 9 else (if u then Some 0 else None))))) (λ x. x < 128)
    by true q r t u = h
    by false true r t u = omega arith
    by false false true t u = omega arith
    by false false false true u = omega arith
    by false false false false true = omega arith
    by false false false false false = tt

hex_small : (c : ℕ) → IfSome (hex_value c) (λ d. d < 16)
hex_small c = by (nat_le 48 c) (nat_le c 57) (nat_le 65 c) (nat_le c 70) (nat_le 97 c) (nat_le c 102) (leb-true 48 c) (leb-true c 57) (leb-true 65 c) (leb-true c 70) (leb-true 97 c) (leb-true c 102)
  where
    by : (p q r t u v : Bool) → (p ≡ true → 48 ≤ c) → (q ≡ true → c ≤ 57) → (r ≡ true → 65 ≤ c) → (t ≡ true → c ≤ 70) → (u ≡ true → 97 ≤ c) → (v ≡ true → c ≤ 102)
        → IfSome (if p && q then Some (c - 48) else (if r && t then Some ((c - 65) + 10) else (if u && v then Some ((c - 97) + 10) else None))) (λ d. d < 16)
    by true true r t u v a b d e f g = (let k = b refl in omega (arith, k))
    by true false true true u v a b d e f g = (let k = e refl in omega (arith, k))
    by true false true false true true a b d e f g = (let k = g refl in omega (arith, k))
    by true false true false true false a b d e f g = tt
    by true false true false false v a b d e f g = tt
    by true false false t true true a b d e f g = (let k = g refl in omega (arith, k))
    by true false false t true false a b d e f g = tt
    by true false false t false v a b d e f g = tt
    by false q true true u v a b d e f g = (let k = e refl in omega (arith, k))
    by false q true false true true a b d e f g = (let k = g refl in omega (arith, k))
    by false q true false true false a b d e f g = tt
    by false q true false false v a b d e f g = tt
    by false q false t true true a b d e f g = (let k = g refl in omega (arith, k))
    by false q false t true false a b d e f g = tt
    by false q false t false v a b d e f g = tt

hex_high : (b : ℕ) → 128 ≤ b → hex_value b ≡ None
hex_high b h =
    rw (lt-leb b 57 (omega arith), and_false (nat_le 48 b), lt-leb b 70 (omega arith), and_false (nat_le 65 b), lt-leb b 102 (omega arith), and_false (nat_le 97 b)) refl
  where
    and_false : (a : Bool) → (a && false) ≡ false
    and_false true = refl
    and_false false = refl

escaped_high : (b : ℕ) → 128 ≤ b → escaped_byte b ≡ None
escaped_high b h =
    let n = λ (c : ℕ) (k : c < 128). ne_eqb b c (λ e. absurd (omega (arith, e, h, k))) in
    rw (n 34 (omega arith), n 92 (omega arith), n 47 (omega arith), n 110 (omega arith), n 114 (omega arith), n 116 (omega arith), n 48 (omega arith)) refl

-- a number of digits that isn't a surrogate is a character's
low_scalar : (n : ℕ) → n < 65536 → is_surrogate n ≡ false → IsScalar n
low_scalar n h e = grind (arith, nat_tests)

number_good : (left n d : ℕ) → IsInRange (Digits left n) → d < 16 → IfSome (number_step left (n * 16 + d)) IsGoodStep
number_good left n d r h = by (nat_lt 1 left) refl (is_surrogate (n * 16 + d)) refl
  where
    by : (t : Bool) → nat_lt 1 left ≡ t → (u : Bool) → is_surrogate (n * 16 + d) ≡ u → IfSome (if t then Some (Digits (left - 1) (n * 16 + d), Nothing) else (if u then None else Some (Outside, Character (n * 16 + d)))) IsGoodStep
    by true e u f =
        let more : 1 < left = ltb-true 1 left e in
        ((omega (arith, r.0), (λ q. (let k = r.1 in omega (arith, q, r.0))), (λ q. (let k = r.1 (omega (arith, q)) in omega (arith, k, h))), (λ q. (let k = r.2 (omega (arith, q)) in omega (arith, k, h))), small more), IsUtf8-nil)
      where
        small : 1 < left → n * 16 + d < 4096
        small more = ⊎_elim (λ two. (let k = r.3 two in omega (arith, k, h))) (λ other. ⊎_elim (λ three. (let k = r.2 three in omega (arith, k, h))) (λ four. (let k = r.1 four in omega (arith, k, h))) other) cases
          where
            cases : (left ≡ 2) ⊎ ((left ≡ 3) ⊎ (left ≡ 4))
            cases = ⊎_elim (λ a. inl a) (λ na. ⊎_elim (λ b. inr (inl b)) (λ nb. inr (inr (omega (arith, more, r.0, na, nb)))) (cases_eq left 3)) (cases_eq left 2)
    by false e true f = tt
    by false e false f = (tt, IsUtf8-encode (n * 16 + d) (low_scalar (n * 16 + d) (let k = r.4 in omega (arith, k, h)) f))

ascii_step : (place : Escape) (c : ℕ) → IsInRange place → c < 128 → IfSome (escape_step place c) IsGoodStep
ascii_step Outside c r h = by (c == 92)
  where
    by : (t : Bool) → IfSome (if t then Some (Behind, Nothing) else Some (Outside, Byte c)) IsGoodStep
    by true = (tt, IsUtf8-nil)
    by false = (tt, one_byte c h)
ascii_step Behind c r h = by (c == 120) (c == 117)
  where
    by : (t u : Bool) → IfSome (if t then Some (Digits 2 0, Nothing) else (if u then Some (Digits 4 0, Nothing) else option_map (λ x. (Outside, Byte x)) (escaped_byte c))) IsGoodStep
    by true u = ((omega arith, omega arith, omega arith, omega arith, omega arith), IsUtf8-nil)
    by false true = ((omega arith, omega arith, omega arith, omega arith, omega arith), IsUtf8-nil)
    by false false = some_map (λ x. x < 128) IsGoodStep (λ x. (Outside, Byte x)) (escaped_byte c) (λ x k. (tt, one_byte x k)) (escaped_ascii c h)
ascii_step (Digits left n) c r h = by (hex_value c) (hex_small c)
  where
    by : (o : Option ℕ) → IfSome o (λ d. d < 16) → IfSome (option_and_then (λ d. number_step left (n * 16 + d)) o) IsGoodStep
    by None k = tt
    by (Some d) k = number_good left n d r k

put_good : (part : List ℕ) (o : Option (List ℕ)) → IsUtf8 part → IfSome o IsUtf8 → IfSome (put_before part o) IsUtf8
put_good part None u h = tt
put_good part (Some text) u h = IsUtf8-append part text u h

step_then : (o : Option (Escape × Added)) (next : Escape → Option (List ℕ)) → IfSome o IsGoodStep → ((place : Escape) → IsInRange place → IfSome (next place) IsUtf8) → IfSome (option_and_then (λ s. put_before (added_bytes s.1) (next s.0)) o) IsUtf8
step_then None next h k = tt
step_then (Some s) next h k = put_good (added_bytes s.1) (next s.0) h.1 (k s.0 h.0)

high_step : (place : Escape) (bytes rest : List ℕ) → High bytes → list_all is_itself bytes ≡ true → IsUtf8 bytes → IfSome (unescaped Outside rest) IsUtf8 → IfSome (unescaped place (bytes ++ rest)) IsUtf8
unfolding unescaped
high_step Outside bytes rest o i u more = subst (λ (t : Option (List ℕ)). IfSome t IsUtf8) (sym (unescaped_itself bytes rest i)) (put_good bytes (unescaped Outside rest) u more)
high_step Behind bytes rest o i u more =
    let none : unescaped Behind (bytes ++ rest) ≡ None =
    ap (λ l. unescaped Behind (l ++ rest)) o.parts ∙ rw (ne_eqb o.first 120 (λ e. absurd (omega (arith, e, o.high))), ne_eqb o.first 117 (λ e. absurd (omega (arith, e, o.high))), escaped_high o.first o.high) refl in
    subst (λ (t : Option (List ℕ)). IfSome t IsUtf8) (sym none) tt
high_step (Digits left n) bytes rest o i u more =
    let none : unescaped (Digits left n) (bytes ++ rest) ≡ None = ap (λ l. unescaped (Digits left n) (l ++ rest)) o.parts ∙ rw (hex_high o.first o.high) refl in
    subst (λ (t : Option (List ℕ)). IfSome t IsUtf8) (sym none) tt

unescaped_good : (place : Escape) (cs : List ℕ) → scalars cs ≡ true → IsInRange place → IfSome (unescaped place (encode_utf8_all cs)) IsUtf8
unfolding unescaped
unescaped_good Outside [] s r = IsUtf8-nil
unescaped_good Behind [] s r = tt
unescaped_good (Digits left n) [] s r = tt
unescaped_good place (c ∷ cs) s r =
    let k = and_parts (scalar c) (scalars cs) s in
    ⊎_elim (λ lt. ascii lt (λ next q. unescaped_good next cs k.1 q)) (λ ge. high ge k.0 (unescaped_good Outside cs k.1 tt)) (cases_lt c 128)
  where
    rest : List ℕ
    rest = encode_utf8_all cs

    ascii : c < 128 → ((next : Escape) → IsInRange next → IfSome (unescaped next rest) IsUtf8) → IfSome (unescaped place (encode_utf8 c ++ rest)) IsUtf8
    ascii lt more = subst (λ (l : List ℕ). IfSome (unescaped place (l ++ rest)) IsUtf8) (sym (encode_ascii c lt)) (step_then (escape_step place c) (λ next. unescaped next rest) (ascii_step place c r lt) more)

    high : 128 ≤ c → IsScalar c → IfSome (unescaped Outside rest) IsUtf8 → IfSome (unescaped place (encode_utf8 c ++ rest)) IsUtf8
    high ge one more = high_step place (encode_utf8 c) rest (high_of (encode_utf8 c) (length_some c) (encode_high c ge)) (encode_itself c (high_itself c ge)) (IsUtf8-encode c one) more

-- a text is its characters
pub text_unescaped : (bytes : List ℕ) → IsUtf8 bytes → IfSome (unescaped Outside bytes) IsUtf8
text_unescaped bytes u = subst (λ (l : List ℕ). IfSome (unescaped Outside l) IsUtf8) (encodes-chars bytes u) (unescaped_good Outside (chars bytes) (scalars-chars bytes u) tt)

pub text_single : (bytes : List ℕ) → IsUtf8 bytes → IfSome (single_quoted false bytes) (IsGoodFound bytes)
text_single bytes u = subst (λ (l : List ℕ). IfSome (single_quoted false l) (IsGoodFound l)) (encodes-chars bytes u) (single_good false (chars bytes) (scalars-chars bytes u))

-- the closing quote stands there
abbrev pub IsQuoteAt : List ℕ → ℕ → Type 0
IsQuoteAt bytes n = (n < length bytes) × (get_or bytes n 0 ≡ 34)

pub double_len_at : (escaped : Bool) (bytes : List ℕ) → IfSome (double_len escaped bytes) (IsQuoteAt bytes)
unfolding double_len
double_len_at escaped [] = tt
double_len_at escaped (b ∷ bytes) = by ((b == 34) && not escaped) (λ e. eqb-true b 34 (and_parts (b == 34) (not escaped) e).0) (double_len_at ((b == 92) && not escaped) bytes)
  where
    by : (t : Bool) → (t ≡ true → b ≡ 34) → IfSome (double_len ((b == 92) && not escaped) bytes) (IsQuoteAt bytes) → IfSome (if t then Some 0 else option_map (λ n. 1 + n) (double_len ((b == 92) && not escaped) bytes)) (IsQuoteAt (b ∷ bytes))
    by true e more = (omega arith, e refl)
    by false e more = some_map (IsQuoteAt bytes) (IsQuoteAt (b ∷ bytes)) (λ n. 1 + n) (double_len ((b == 92) && not escaped) bytes) (λ n k. subst (IsQuoteAt (b ∷ bytes)) (sym (one-add n)) (omega (arith, k.0), k.1)) more
