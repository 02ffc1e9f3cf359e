-- Scalars of UTF-8 are UTF-8, and so is what stands behind them.
use Rattle.std.proofs.Common.{◌≡◌, ℕ, suc, ◌+◌, ◌<◌, ◌≤◌, Bool, true, false, ◌&&◌, ◌||◌, ◌==◌, if◌then◌else◌, List, [], ◌∷◌, length, get_or, take, drop, Option, Some, None, IfSome, IsUtf8, refl, sym, ap, subst, arith, one-add, inl, inr, ◌⊎◌, ⊎_elim, eqb-true}
use Rattle.std.proofs.lemmas.Bool.{and_parts, or_cases, cases_lt, ne_eqb}
use Rattle.std.proofs.lemmas.Str.{IsUtf8-drop, IsCharBoundary-after_ascii}
use Rattle.yaml_tokens.specs.Scalars.{at_gap, plain_ends, plain_len, plain_text, without_spaces, single_quoted, double_len, unescaped, single_scan, double_text, double_scan, bare_scan, scan_of, scalar_at, is_indicator, asks, is_unplain}
use Rattle.yaml_tokens.specs.Lines.{begins_with}
use Rattle.yaml_tokens.specs.Pieces.{cell_ends, cell_len, cell_text, is_separator, bare_cell, cell_scan, is_foreign_indicator, is_lone_indicator}
use Rattle.yaml_tokens.specs.declared.escapes.Escape.TheVariants.{Outside}
use Rattle.yaml_tokens.specs.declared.odd.Odd.TheVariants as odd
use Rattle.yaml_tokens.specs.declared.scan.Scan.{Scan}
use Rattle.yaml_tokens.specs.declared.scan.Scan.TheVariants.{Plain, Quoted, Refused}
use Rattle.text_trees.proofs.Cuts.{utf8_tail, utf8_cut, without_spaces_utf8}
use Rattle.text_trees.proofs.SingleQuotes.{IsGoodFound}
use Rattle.text_trees.proofs.Escapes.{IsQuoteAt, double_len_at, text_single, text_unescaped}

-- a scalar of these bytes
abbrev pub IsGoodScan : List ℕ → Scan → Type 0
IsGoodScan bytes (Plain text len) = IsUtf8 text × IsUtf8 (drop len bytes)
IsGoodScan bytes (Quoted text len) = IsUtf8 text × IsUtf8 (drop len bytes)
IsGoodScan bytes (Refused why) = Unit {0}

-- ---- plain

plain_ends_ascii : (b : ℕ) (bytes : List ℕ) → plain_ends b bytes ≡ true → b < 128
plain_ends_ascii b bytes h = ⊎_elim
    (λ k. (let e = eqb-true b 58 (and_parts (b == 58) (at_gap bytes) k).0 in omega (arith, e)))
    (λ k. (let e = eqb-true b 32 (and_parts (b == 32) (begins_with 35 bytes) k).0 in omega (arith, e)))
    (or_cases ((b == 58) && at_gap bytes) ((b == 32) && begins_with 35 bytes) h)

cell_ends_ascii : (b : ℕ) (bytes : List ℕ) → cell_ends b bytes ≡ true → b < 128
cell_ends_ascii b bytes h = ⊎_elim (plain_ends_ascii b bytes) separator (or_cases (plain_ends b bytes) (is_separator b) h)
  where
    separator : is_separator b ≡ true → b < 128
    separator k = ⊎_elim (λ e. (let q = eqb-true b 44 e in omega (arith, q)))
        (λ k2. ⊎_elim (λ e. (let q = eqb-true b 93 e in omega (arith, q))) (λ e. (let q = eqb-true b 125 e in omega (arith, q))) (or_cases (b == 93) (b == 125) k2))
        (or_cases (b == 44) ((b == 93) || (b == 125)) k)

-- where a length ends, the byte is ASCII
abbrev EndsAt : List ℕ → ℕ → Type 0
EndsAt bytes n = n < length bytes → get_or bytes n 0 < 128

ends_more : (b : ℕ) (bytes : List ℕ) (n : ℕ) (t : Bool) → (t ≡ true → b < 128) → EndsAt bytes n → EndsAt (b ∷ bytes) (if t then 0 else 1 + n)
ends_more b bytes n true f h = λ lt. f refl
ends_more b bytes n false f h = subst (EndsAt (b ∷ bytes)) (sym (one-add n)) (λ (lt : suc n < suc (length bytes)). h (omega (arith, lt)))

plain_len_ends : (bytes : List ℕ) → EndsAt bytes (plain_len bytes)
unfolding plain_len
plain_len_ends [] = λ (lt : 0 < 0). absurd (omega (arith, lt))
plain_len_ends (b ∷ bytes) = ends_more b bytes (plain_len bytes) (plain_ends b bytes) (plain_ends_ascii b bytes) (plain_len_ends bytes)

cell_len_ends : (bytes : List ℕ) → EndsAt bytes (cell_len bytes)
unfolding cell_len
cell_len_ends [] = λ (lt : 0 < 0). absurd (omega (arith, lt))
cell_len_ends (b ∷ bytes) = ends_more b bytes (cell_len bytes) (cell_ends b bytes) (cell_ends_ascii b bytes) (cell_len_ends bytes)

front_good : (bytes : List ℕ) (n : ℕ) → IsUtf8 bytes → EndsAt bytes n → IsUtf8 (without_spaces (take n bytes)) × IsUtf8 (drop n bytes)
front_good bytes n u h = let k = utf8_cut bytes n u h in (without_spaces_utf8 (take n bytes) k.0, k.1)

-- ---- scalars

drop_two : (b n : ℕ) (bytes : List ℕ) → drop (2 + n) (b ∷ bytes) ≡ drop (n + 1) bytes
drop_two b n bytes = ap (λ k. drop k (b ∷ bytes)) (let e : 2 + n ≡ suc (n + 1) = omega arith in e)

double_good : (bytes : List ℕ) → IsUtf8 bytes → IsGoodScan (34 ∷ bytes) (double_scan bytes (double_len false bytes))
double_good bytes u = by (double_len false bytes) (double_len_at false bytes)
  where
    behind : (n : ℕ) → IsQuoteAt bytes n → IsUtf8 (drop (2 + n) (34 ∷ bytes))
    behind n q = subst IsUtf8 (sym (drop_two 34 n bytes)) (IsUtf8-drop bytes (n + 1) u (IsCharBoundary-after_ascii bytes n u q.0 (omega (arith, q.1))))

    said : (n : ℕ) (o : Option (List ℕ)) → IsQuoteAt bytes n → IfSome o IsUtf8 → IsGoodScan (34 ∷ bytes) (double_text n o)
    said n None q h = tt
    said n (Some text) q h = (h, behind n q)

    by : (o : Option ℕ) → IfSome o (IsQuoteAt bytes) → IsGoodScan (34 ∷ bytes) (double_scan bytes o)
    by None h = tt
    by (Some n) h = said n (unescaped Outside (take n bytes)) h (text_unescaped (take n bytes) (utf8_cut bytes n u (λ lt. omega (arith, h.1))).0)

single_scanned : (bytes : List ℕ) → IsUtf8 bytes → IsGoodScan (39 ∷ bytes) (single_scan (single_quoted false bytes))
single_scanned bytes u = by (single_quoted false bytes) (text_single bytes u)
  where
    by : (o : Option (List ℕ × ℕ)) → IfSome o (IsGoodFound bytes) → IsGoodScan (39 ∷ bytes) (single_scan o)
    by None h = tt
    by (Some f) h = (h.0, subst (λ (n : ℕ). IsUtf8 (drop n (39 ∷ bytes))) (sym (one-add f.1)) h.1)

bare_good : (b : ℕ) (bytes : List ℕ) → IsUtf8 (b ∷ bytes) → IsGoodScan (b ∷ bytes) (bare_scan b bytes)
unfolding bare_scan
bare_good b bytes u = by (is_indicator b) (asks b bytes) (is_unplain b bytes)
  where
    by : (p q r : Bool) → IsGoodScan (b ∷ bytes) (if p then Refused odd.Indicator else (if q then Refused odd.Unsupported else (if r then Refused odd.Syntax else Plain (plain_text (b ∷ bytes)) (plain_len (b ∷ bytes)))))
    by true q r = tt
    by false true r = tt
    by false false true = tt
    by false false false = front_good (b ∷ bytes) (plain_len (b ∷ bytes)) u (plain_len_ends (b ∷ bytes))

quoted_by : (b : ℕ) (bytes : List ℕ) (scan : Scan) (t u : Bool) → (b == 39) ≡ t → (b == 34) ≡ u → IsUtf8 (b ∷ bytes) → IsGoodScan (b ∷ bytes) scan
    → IsGoodScan (b ∷ bytes) (if t then single_scan (single_quoted false bytes) else (if u then double_scan bytes (double_len false bytes) else scan))
quoted_by b bytes scan true u e f valid good =
    let is = eqb-true b 39 e in
    subst (λ (c : ℕ). IsGoodScan (c ∷ bytes) (single_scan (single_quoted false bytes))) (sym is) (single_scanned bytes (utf8_tail b bytes (omega (arith, is)) valid))
quoted_by b bytes scan false true e f valid good =
    let is = eqb-true b 34 f in
    subst (λ (c : ℕ). IsGoodScan (c ∷ bytes) (double_scan bytes (double_len false bytes))) (sym is) (double_good bytes (utf8_tail b bytes (omega (arith, is)) valid))
quoted_by b bytes scan false false e f valid good = good

pub scalar_at_good : (b : ℕ) (bytes : List ℕ) → IsUtf8 (b ∷ bytes) → IsGoodScan (b ∷ bytes) (scalar_at (b ∷ bytes))
unfolding scalar_at scan_of
scalar_at_good b bytes u = quoted_by b bytes (bare_scan b bytes) (b == 39) (b == 34) refl refl u (bare_good b bytes u)

-- ---- inside of brackets

-- the same, and a refused one begins with an ASCII byte; a plain one isn't empty but there
abbrev pub IsGoodCell : ℕ → List ℕ → Scan → Type 0
IsGoodCell b bytes (Plain text len) = IsUtf8 text × IsUtf8 (drop len (b ∷ bytes)) × ((1 ≤ len) ⊎ (b < 128))
IsGoodCell b bytes (Quoted text len) = IsUtf8 text × IsUtf8 (drop len (b ∷ bytes)) × ((1 ≤ len) ⊎ (b < 128))
IsGoodCell b bytes (Refused why) = b < 128

cell_by : (b : ℕ) (bytes : List ℕ) (scan : Scan) → IsGoodScan (b ∷ bytes) scan → b < 128 → IsGoodCell b bytes scan
cell_by b bytes (Plain text len) h lt = (h.0, h.1, inr lt)
cell_by b bytes (Quoted text len) h lt = (h.0, h.1, inr lt)
cell_by b bytes (Refused why) h lt = lt

some_len : (b : ℕ) (bytes : List ℕ) → 128 ≤ b → 1 ≤ cell_len (b ∷ bytes)
unfolding cell_len
some_len b bytes h = by (cell_ends b bytes) (cell_ends_ascii b bytes)
  where
    by : (t : Bool) → (t ≡ true → b < 128) → 1 ≤ (if t then 0 else 1 + cell_len bytes)
    by true f = absurd (let k = f refl in omega (arith, k, h))
    by false f = omega arith

bare_cell_good : (b : ℕ) (bytes : List ℕ) → IsUtf8 (b ∷ bytes) → IsGoodCell b bytes (bare_cell b bytes)
unfolding bare_cell
bare_cell_good b bytes u = ⊎_elim low high (cases_lt b 128)
  where
    good : IsUtf8 (cell_text (b ∷ bytes)) × IsUtf8 (drop (cell_len (b ∷ bytes)) (b ∷ bytes))
    good = front_good (b ∷ bytes) (cell_len (b ∷ bytes)) u (cell_len_ends (b ∷ bytes))

    low : b < 128 → IsGoodCell b bytes (if is_foreign_indicator b then Refused odd.Indicator else (if asks b bytes then Refused odd.Unsupported else (if is_lone_indicator b || is_unplain b bytes then Refused odd.Syntax else Plain (cell_text (b ∷ bytes)) (cell_len (b ∷ bytes)))))
    low lt = by (is_foreign_indicator b) (asks b bytes) (is_lone_indicator b || is_unplain b bytes)
      where
        by : (p q r : Bool) → IsGoodCell b bytes (if p then Refused odd.Indicator else (if q then Refused odd.Unsupported else (if r then Refused odd.Syntax else Plain (cell_text (b ∷ bytes)) (cell_len (b ∷ bytes)))))
        by true q r = lt
        by false true r = lt
        by false false true = lt
        by false false false = (good.0, good.1, inr lt)

    high : 128 ≤ b → IsGoodCell b bytes (if is_foreign_indicator b then Refused odd.Indicator else (if asks b bytes then Refused odd.Unsupported else (if is_lone_indicator b || is_unplain b bytes then Refused odd.Syntax else Plain (cell_text (b ∷ bytes)) (cell_len (b ∷ bytes)))))
    high ge =
        let n = λ (c : ℕ) (k : c < 128). ne_eqb b c (λ e. absurd (omega (arith, e, ge, k))) in
        rw (n 33 (omega arith), n 62 (omega arith), n 63 (omega arith), n 38 (omega arith), n 42 (omega arith), n 124 (omega arith), n 44 (omega arith), n 93 (omega arith), n 125 (omega arith), n 35 (omega arith), n 37 (omega arith), n 64 (omega arith), n 96 (omega arith), n 45 (omega arith), n 58 (omega arith))
        (good.0, good.1, inl (some_len b bytes ge))

cell_quoted : (b : ℕ) (bytes : List ℕ) (scan : Scan) (t u : Bool) → (b == 39) ≡ t → (b == 34) ≡ u → IsUtf8 (b ∷ bytes) → IsGoodCell b bytes scan
    → IsGoodCell b bytes (if t then single_scan (single_quoted false bytes) else (if u then double_scan bytes (double_len false bytes) else scan))
cell_quoted b bytes scan true u e f valid good =
    let is = eqb-true b 39 e in
    cell_by b bytes (single_scan (single_quoted false bytes)) (subst (λ (c : ℕ). IsGoodScan (c ∷ bytes) (single_scan (single_quoted false bytes))) (sym is) (single_scanned bytes (utf8_tail b bytes (omega (arith, is)) valid))) (omega (arith, is))
cell_quoted b bytes scan false true e f valid good =
    let is = eqb-true b 34 f in
    cell_by b bytes (double_scan bytes (double_len false bytes)) (subst (λ (c : ℕ). IsGoodScan (c ∷ bytes) (double_scan bytes (double_len false bytes))) (sym is) (double_good bytes (utf8_tail b bytes (omega (arith, is)) valid))) (omega (arith, is))
cell_quoted b bytes scan false false e f valid good = good

pub cell_scan_good : (b : ℕ) (bytes : List ℕ) → IsUtf8 (b ∷ bytes) → IsGoodCell b bytes (cell_scan b bytes)
unfolding cell_scan
cell_scan_good b bytes u = cell_quoted b bytes (bare_cell b bytes) (b == 39) (b == 34) refl refl u (bare_cell_good b bytes u)
