-- The pieces of a flow form of UTF-8 are UTF-8.
use Rattle.std.proofs.Common.{◌≡◌, ℕ, zero, suc, ◌+◌, ◌-◌, ◌<◌, ◌≤◌, Bool, true, false, ◌&&◌, ◌==◌, if◌then◌else◌, List, [], ◌∷◌, length, drop, Option, Some, None, IfSome, IsUtf8, refl, sym, ap, ◌∙◌, subst, arith, drop_of_length-le, drop-drop, inl, inr, ◌⊎◌, eqb-true}
use Rattle.std.specs.List.{AllByRecursion, prefix_len}
use Rattle.std.proofs.lemmas.Bool.{and_parts}
use Rattle.std.proofs.lemmas.Bool.Decides.{nat_tests}
use Rattle.std.proofs.lemmas.Str.{IsUtf8-nil, IsUtf8-drop, IsCharBoundary-after_ascii}
use Rattle.yaml_tokens.specs.Lines.{begins_with}
use Rattle.yaml_tokens.specs.Anchors.{is_name_byte, name_len, name_at, has_name}
use Rattle.yaml_tokens.specs.Scalars.{is_space, after_spaces, at_colon, plain_value, is_null, double_len}
use Rattle.yaml_tokens.specs.Pieces.{cell_scan, closed_len, refused_len, CellStep, word_step, scan_step, at_cell_gap, one_byte, step_at, open_after, put_piece, is_last, found_at, flow_at}
use Rattle.yaml_tokens.specs.declared.piece.Bracket.TheVariants.{Square, Curly}
use Rattle.yaml_tokens.specs.declared.piece.Piece.{Piece}
use Rattle.yaml_tokens.specs.declared.piece.Piece.TheVariants.{Opening, Closing, Comma, CellKey, CellScalar, CellAnchor, CellAlias}
use Rattle.yaml_tokens.specs.declared.scan.Scan.{Scan}
use Rattle.yaml_tokens.specs.declared.scan.Scan.TheVariants.{Plain, Quoted, Refused}
use Rattle.text_trees.proofs.Cuts.{utf8_tail, utf8_behind, spaces_utf8}
use Rattle.text_trees.proofs.Scans.{IsGoodCell, cell_scan_good}
use Rattle.text_trees.proofs.Escapes.{double_len_at, IsQuoteAt}

abbrev pub IsGoodPiece : Piece → Type 0
IsGoodPiece (CellKey text) = IsUtf8 text
IsGoodPiece (CellScalar text) = IfSome text IsUtf8
IsGoodPiece _ = Unit {0}

pub plain_value_good : (text : List ℕ) → IsUtf8 text → IfSome (plain_value text) IsUtf8
plain_value_good text u = by (is_null text)
  where
    by : (t : Bool) → IfSome (if t then None else Some text) IsUtf8
    by true = tt
    by false = u

pub name_ascii : (b : ℕ) → is_name_byte b ≡ true → b < 128
name_ascii b h = grind (arith, nat_tests)

-- a step over UTF-8
abbrev IsGoodStep : List ℕ → CellStep → Type 0
IsGoodStep bytes step = IfSome step.piece IsGoodPiece × IsUtf8 (drop step.skip bytes)

-- bytes that begin with one of ASCII
pub begun_utf8 : (b : ℕ) (bytes : List ℕ) → b < 128 → begins_with b bytes ≡ true → IsUtf8 bytes → IsUtf8 (drop 1 bytes)
begun_utf8 b [] lt h u = u
begun_utf8 b (c ∷ bytes) lt h u = let e = eqb-true c b h in utf8_tail c bytes (omega (arith, e, lt)) u

-- behind a colon, spaces before it aside
pub colon_utf8 : (rest : List ℕ) → at_colon rest ≡ true → IsUtf8 rest → IsUtf8 (drop 1 (after_spaces rest))
colon_utf8 rest h u = begun_utf8 58 (after_spaces rest) (omega arith) (and_parts (begins_with 58 (after_spaces rest)) _ h).0 (spaces_utf8 rest u)

-- a byte less of a list without its first byte
drop_less : (b n : ℕ) (bytes : List ℕ) → 1 ≤ n → drop (n - 1) bytes ≡ drop n (b ∷ bytes)
drop_less b zero bytes h = absurd (omega (arith, h))
drop_less b (suc n) bytes h = ap (λ k. drop k bytes) (let e : suc n - 1 ≡ n = omega arith in e)

word_good : (b : ℕ) (bytes text : List ℕ) (value : Option (List ℕ)) (len : ℕ) → IsUtf8 (b ∷ bytes) → IsUtf8 text → IfSome value IsUtf8 → IsUtf8 (drop len (b ∷ bytes)) → (1 ≤ len) ⊎ (b < 128)
    → IsGoodStep bytes (word_step text value (b ∷ bytes) len)
word_good b bytes text value len u t v r s = by (at_colon rest) refl
  where
    rest : List ℕ
    rest = drop len (b ∷ bytes)

    colon : at_colon rest ≡ true → IsUtf8 (drop (len + (prefix_len is_space rest + 1) - 1) bytes)
    colon e =
        subst IsUtf8 (sym (drop_less b (len + (prefix_len is_space rest + 1)) bytes (omega arith) ∙ sym (drop-drop (prefix_len is_space rest + 1) len (b ∷ bytes)) ∙ sym (drop-drop 1 (prefix_len is_space rest) rest)))
        (colon_utf8 rest e r)

    plain : (1 ≤ len) ⊎ (b < 128) → IsUtf8 (drop (len - 1) bytes)
    plain (inl some) = subst IsUtf8 (sym (drop_less b len bytes some)) r
    plain (inr low) = zero_or len r
      where
        zero_or : (n : ℕ) → IsUtf8 (drop n (b ∷ bytes)) → IsUtf8 (drop (n - 1) bytes)
        zero_or zero k = utf8_tail b bytes low u
        zero_or (suc n) k = subst IsUtf8 (sym (drop_less b (suc n) bytes (omega arith))) k

    by : (c : Bool) → at_colon rest ≡ c → IsGoodStep bytes (record { piece = Some (if c then CellKey text else CellScalar value); skip = (if c then len + (prefix_len is_space rest + 1) else len) - 1 })
    by true e = (t, colon e)
    by false e = (v, plain s)

refused_good : (b : ℕ) (bytes : List ℕ) → IsUtf8 bytes → IsUtf8 (drop (refused_len b bytes) bytes)
refused_good b bytes u = by (b == 34) (b == 39)
  where
    none : IsUtf8 (drop (length bytes) bytes)
    none = subst IsUtf8 (sym (drop_of_length-le bytes {i = length bytes} (omega arith))) IsUtf8-nil

    closed : (o : Option ℕ) → IfSome o (IsQuoteAt bytes) → IsUtf8 (drop (closed_len bytes o) bytes)
    closed None h = none
    closed (Some n) h = subst (λ (k : ℕ). IsUtf8 (drop k bytes)) (let e : n + 1 ≡ 1 + n = omega arith in e) (IsUtf8-drop bytes (n + 1) u (IsCharBoundary-after_ascii bytes n u h.0 (omega (arith, h.1))))

    by : (t q : Bool) → IsUtf8 (drop (if t then closed_len bytes (double_len false bytes) else (if q then length bytes else 0)) bytes)
    by true q = closed (double_len false bytes) (double_len_at false bytes)
    by false true = none
    by false false = u

scan-good : (b : ℕ) (bytes : List ℕ) (scan : Scan) → IsUtf8 (b ∷ bytes) → IsGoodCell b bytes scan → IsGoodStep bytes (scan_step b bytes scan)
scan-good b bytes (Plain text len) u h = word_good b bytes text (plain_value text) len u h.0 (plain_value_good text h.0) h.1 h.2
scan-good b bytes (Quoted text len) u h = word_good b bytes text (Some text) len u h.0 h.0 h.1 h.2
scan-good b bytes (Refused why) u h = (tt, refused_good b bytes (utf8_tail b bytes h u))

step_good : (b : ℕ) (bytes : List ℕ) → IsUtf8 (b ∷ bytes) → IsGoodStep bytes (step_at b bytes)
step_good b bytes u =
    by (b == 32) (b == 91) (b == 93) (b == 123) (b == 125) (b == 44) ((b == 38) && has_name at_cell_gap bytes) ((b == 42) && has_name at_cell_gap bytes)
    (λ e. low 32 (omega arith) e) (λ e. low 91 (omega arith) e) (λ e. low 93 (omega arith) e) (λ e. low 123 (omega arith) e) (λ e. low 125 (omega arith) e) (λ e. low 44 (omega arith) e)
    (λ e. low 38 (omega arith) (and_parts (b == 38) _ e).0) (λ e. low 42 (omega arith) (and_parts (b == 42) _ e).0)
  where
    low : (c : ℕ) → c < 128 → (b == c) ≡ true → IsUtf8 bytes
    low c lt e = let q = eqb-true b c e in utf8_tail b bytes (omega (arith, q, lt)) u

    spaced : (t : Bool) → IsUtf8 bytes → IsUtf8 (drop (if t then length bytes else 0) bytes)
    spaced true v = subst IsUtf8 (sym (drop_of_length-le bytes {i = length bytes} (omega arith))) IsUtf8-nil
    spaced false v = v

    by : (p q r s t v w x : Bool) → (p ≡ true → IsUtf8 bytes) → (q ≡ true → IsUtf8 bytes) → (r ≡ true → IsUtf8 bytes) → (s ≡ true → IsUtf8 bytes) → (t ≡ true → IsUtf8 bytes) → (v ≡ true → IsUtf8 bytes) → (w ≡ true → IsUtf8 bytes) → (x ≡ true → IsUtf8 bytes)
        → IsGoodStep bytes (if p then record { piece = None; skip = if begins_with 35 bytes then length bytes else 0 }
        else (if q then one_byte (Opening Square) else (if r then one_byte (Closing Square) else (if s then one_byte (Opening Curly) else (if t then one_byte (Closing Curly) else (if v then one_byte Comma
        else (if w then record { piece = Some (CellAnchor (name_at bytes)); skip = name_len bytes } else (if x then record { piece = Some (CellAlias (name_at bytes)); skip = name_len bytes } else scan_step b bytes (cell_scan b bytes)))))))))
    by true q r s t v w x a c d e f g h i = (tt, spaced (begins_with 35 bytes) (a refl))
    by false true r s t v w x a c d e f g h i = (tt, c refl)
    by false false true s t v w x a c d e f g h i = (tt, d refl)
    by false false false true t v w x a c d e f g h i = (tt, e refl)
    by false false false false true v w x a c d e f g h i = (tt, f refl)
    by false false false false false true w x a c d e f g h i = (tt, g refl)
    by false false false false false false true x a c d e f g h i = (tt, utf8_behind is_name_byte name_ascii bytes (h refl))
    by false false false false false false false true a c d e f g h i = (tt, utf8_behind is_name_byte name_ascii bytes (i refl))
    by false false false false false false false false a c d e f g h i = scan-good b bytes (cell_scan b bytes) u (cell_scan_good b bytes u)

put_good : (piece : Option Piece) (last : Bool) (pieces : List Piece) → IfSome piece IsGoodPiece → AllByRecursion IsGoodPiece pieces → AllByRecursion IsGoodPiece (put_piece piece (if last then [] else pieces))
put_good None true pieces h k = tt
put_good None false pieces h k = k
put_good (Some piece) true pieces h k = (h, tt)
put_good (Some piece) false pieces h k = (h, k)

found_good : (bytes : List ℕ) (skip n : ℕ) → IsUtf8 (drop skip bytes) → AllByRecursion IsGoodPiece (found_at skip n bytes).pieces
unfolding found_at
found_good [] skip n u = tt
found_good (b ∷ bytes) zero n u =
    let step = step_at b bytes in
    let good = step_good b bytes u in
    put_good step.piece (is_last step.piece n) (found_at step.skip (open_after step.piece n) bytes).pieces good.0 (found_good bytes step.skip (open_after step.piece n) good.1)
found_good (b ∷ bytes) (suc skip) n u = found_good bytes skip n u

pub flow_good : (bytes : List ℕ) → IsUtf8 bytes → AllByRecursion IsGoodPiece (flow_at bytes).pieces
flow_good bytes u = found_good bytes 0 0 u
