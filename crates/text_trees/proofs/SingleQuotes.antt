-- A text in single quotes of UTF-8 is UTF-8, and so is what stands behind it.
use Rattle.std.proofs.Common.{◌≡◌, ℕ, suc, ◌+◌, ◌<◌, ◌≤◌, Bool, true, false, nat_le, if◌then◌else◌, List, [], ◌∷◌, ◌++◌, length, drop, Option, Some, None, IfSome, option_map, IsUtf8, encode_utf8, encode_utf8_all, refl, sym, ap, ◌∙◌, subst, arith, one-add, ⊎_elim, leb-true}
use Rattle.std.specs.List.{list_all}
use Rattle.std.specs.Char.{IsScalar}
use Rattle.std.proofs.Math.Utf8.{scalar, scalars, encode}
use Rattle.std.proofs.lemmas.Bool.{and_parts, and_from, cases_lt, ne_eqb}
use Rattle.std.proofs.lemmas.Str.{IsUtf8-append, IsUtf8-encode, IsUtf8-nil, encode_ascii}
use Rattle.yaml_tokens.specs.Scalars.{holds_back, closes, single_part, with_part, single_quoted}
use Rattle.text_trees.proofs.Characters.{some_map, one_byte, is_high, encode_high, length_some, high_of}

abbrev pub IsGoodFound : List ℕ → List ℕ × ℕ → Type 0
IsGoodFound bytes f = IsUtf8 f.0 × IsUtf8 (drop f.1 bytes)

single_high : (xs rest : List ℕ) → list_all is_high xs ≡ true → single_quoted false (xs ++ rest) ≡ option_map (λ (f : List ℕ × ℕ). (xs ++ f.0, length xs + f.1)) (single_quoted false rest)
unfolding single_quoted
single_high [] rest h = by (single_quoted false rest)
  where
    by : (o : Option (List ℕ × ℕ)) → o ≡ option_map (λ (f : List ℕ × ℕ). ([] ++ f.0, 0 + f.1)) o
    by None = refl
    by (Some f) = ap Some (λ i. (f.0, (let e : f.1 ≡ 0 + f.1 = omega arith in e) i))
single_high (b ∷ xs) rest h =
    let k = and_parts (nat_le 128 b) _ h in
    let big = leb-true 128 b k.0 in
    rw (ne_eqb b 39 (λ e. absurd (omega (arith, e, big)))) (ap (option_map (with_part (b ∷ []))) (single_high xs rest k.1) ∙ by (single_quoted false rest))
  where
    by : (o : Option (List ℕ × ℕ)) → option_map (with_part (b ∷ [])) (option_map (λ (f : List ℕ × ℕ). (xs ++ f.0, length xs + f.1)) o) ≡ option_map (λ (f : List ℕ × ℕ). (b ∷ (xs ++ f.0), suc (length xs) + f.1)) o
    by None = refl
    by (Some f) = ap Some (λ i. (b ∷ (xs ++ f.0), (let e : 1 + (length xs + f.1) ≡ suc (length xs) + f.1 = omega arith in e) i))

part_utf8 : (held : Bool) (c : ℕ) → c < 128 → IsUtf8 (single_part held c)
part_utf8 held c h = by (holds_back held c)
  where
    by : (t : Bool) → IsUtf8 (if t then [] else c ∷ [])
    by true = IsUtf8-nil
    by false = one_byte c h

single_ascii : (held : Bool) (c : ℕ) (rest : List ℕ) → c < 128 → IsUtf8 (c ∷ rest) → IfSome (single_quoted (holds_back held c) rest) (IsGoodFound rest) → IfSome (single_quoted held (c ∷ rest)) (IsGoodFound (c ∷ rest))
unfolding single_quoted
single_ascii held c rest h u more = by (closes held c)
  where
    by : (t : Bool) → IfSome (if t then Some ([], 0) else option_map (with_part (single_part held c)) (single_quoted (holds_back held c) rest)) (IsGoodFound (c ∷ rest))
    by true = (IsUtf8-nil, u)
    by false = some_map (IsGoodFound rest) (IsGoodFound (c ∷ rest)) (with_part (single_part held c)) (single_quoted (holds_back held c) rest)
        (λ f g. (IsUtf8-append (single_part held c) f.0 (part_utf8 held c h) g.0, subst (λ (n : ℕ). IsUtf8 (drop n (c ∷ rest))) (sym (one-add f.1)) g.1)) more

-- behind a front
drop_more : (xs rest : List ℕ) (n : ℕ) → drop (length xs + n) (xs ++ rest) ≡ drop n rest
drop_more [] rest n = ap (λ k. drop k rest) (let e : 0 + n ≡ n = omega arith in e)
drop_more (x ∷ xs) rest n = ap (λ k. drop k (x ∷ (xs ++ rest))) (let e : suc (length xs) + n ≡ suc (length xs + n) = omega arith in e) ∙ drop_more xs rest n

pub single_good : (held : Bool) (cs : List ℕ) → scalars cs ≡ true → IfSome (single_quoted held (encode_utf8_all cs)) (IsGoodFound (encode_utf8_all cs))
unfolding single_quoted
single_good true [] s = (IsUtf8-nil, IsUtf8-nil)
single_good false [] s = tt
single_good held (c ∷ cs) s =
    let k = and_parts (scalar c) (scalars cs) s in
    ⊎_elim (λ lt. ascii lt k.0 k.1 (single_good (holds_back held c) cs k.1)) (λ ge. high held ge k.0 k.1 (single_good false cs k.1)) (cases_lt c 128)
  where
    rest : List ℕ
    rest = encode_utf8_all cs

    ascii : c < 128 → IsScalar c → scalars cs ≡ true → IfSome (single_quoted (holds_back held c) rest) (IsGoodFound rest) → IfSome (single_quoted held (encode_utf8 c ++ rest)) (IsGoodFound (encode_utf8 c ++ rest))
    ascii lt one all more =
        subst (λ (l : List ℕ). IfSome (single_quoted held (l ++ rest)) (IsGoodFound (l ++ rest))) (sym (encode_ascii c lt))
        (single_ascii held c rest lt (c ∷ cs, (and_from (scalar c) (scalars cs) one all, ap (λ l. l ++ rest) (encode_ascii c lt))) more)

    high : (h : Bool) → 128 ≤ c → IsScalar c → scalars cs ≡ true → IfSome (single_quoted false rest) (IsGoodFound rest) → IfSome (single_quoted h (encode_utf8 c ++ rest)) (IsGoodFound (encode_utf8 c ++ rest))
    high true ge one all more =
        let o = high_of (encode_utf8 c) (length_some c) (encode_high c ge) in
        let closed : single_quoted true (encode_utf8 c ++ rest) ≡ Some ([], 0) = ap (λ l. single_quoted true (l ++ rest)) o.parts ∙ rw (ne_eqb o.first 39 (λ e. absurd (omega (arith, e, o.high)))) refl in
        subst (λ (f : Option (List ℕ × ℕ)). IfSome f (IsGoodFound (encode_utf8 c ++ rest))) (sym closed) (IsUtf8-nil, (c ∷ cs, (and_from (scalar c) (scalars cs) one all, refl)))
    high false ge one all more =
        subst (λ (f : Option (List ℕ × ℕ)). IfSome f (IsGoodFound (encode_utf8 c ++ rest))) (sym (single_high (encode_utf8 c) rest (encode_high c ge)))
        (some_map (IsGoodFound rest) (IsGoodFound (encode_utf8 c ++ rest)) (λ (f : List ℕ × ℕ). (encode_utf8 c ++ f.0, length (encode_utf8 c) + f.1)) (single_quoted false rest)
        (λ f g. (IsUtf8-append (encode_utf8 c) f.0 (IsUtf8-encode c one) g.0, subst IsUtf8 (sym (drop_more (encode_utf8 c) rest f.1)) g.1)) more)
