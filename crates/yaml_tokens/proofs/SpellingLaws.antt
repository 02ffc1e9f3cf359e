-- A scalar in quotes is read exactly where one is spelled.
use Rattle.std.proofs.Common.{◌≡◌, ◌↔◌, inl, inr, ⊎_elim, ℕ, ◌+◌, Bool, true, false, cond, List, [], ◌∷◌, ◌++◌, Option, Some, None, length, take, flat_map, refl, sym, ap, ◌∙◌, subst, arith, ◌==◌}
use Rattle.std.proofs.lemmas.Bool.{eqb-true}
use Rattle.std.proofs.lemmas.Option.{same_Some}
use Rattle.std.proofs.Math.Seq.{take-append_seam}
use Rattle.sim_base.specs.Ascii.{apostrophe, quotation_mark}
use Rattle.yaml_tokens.specs.Scalars.{single_quoted, double_len, unescaped, single_scan, double_scan, double_text, scalar_at, scan_of, bare_scan, is_indicator, asks, is_unplain}
use Rattle.yaml_tokens.specs.Spelling.{single_spelling, IsSingleQuoted, spelling, IsDoubleQuoted, IsQuoted}
use Rattle.yaml_tokens.specs.declared.escapes.Escape.TheVariants.{Outside}
use Rattle.yaml_tokens.specs.declared.scan.Scan.{Scan}
use Rattle.yaml_tokens.specs.declared.scan.Scan.TheVariants.{Quoted}
use Rattle.yaml_tokens.proofs.SingleSpelling.{read_single, found_single}
use Rattle.yaml_tokens.proofs.DoubleSpelling.{double_parts, unescaped_parts, found_double}

single_found : (o : Option (List ℕ × ℕ)) (text : List ℕ) (len : ℕ) → single_scan o ≡ Quoted text len → (found : List ℕ × ℕ) × (o ≡ Some found) × (found.0 ≡ text) × (1 + found.1 ≡ len)
single_found None text len e = absurd (cc)
single_found (Some f) text len e = (f, refl, cc, cc)

text_found : (n : ℕ) (o : Option (List ℕ)) (text : List ℕ) (len : ℕ) → double_text n o ≡ Quoted text len → (o ≡ Some text) × (2 + n ≡ len)
text_found n None text len e = absurd (cc)
text_found n (Some t) text len e = (cc, cc)

double_found : (bytes : List ℕ) (o : Option ℕ) (text : List ℕ) (len : ℕ) → double_scan bytes o ≡ Quoted text len → (n : ℕ) × (o ≡ Some n) × (unescaped Outside (take n bytes) ≡ Some text) × (2 + n ≡ len)
double_found bytes None text len e = absurd (cc)
double_found bytes (Some n) text len e = let t = text_found n (unescaped Outside (take n bytes)) text len e in (n, refl, t.0, t.1)

neither : (q : Bool) (s t : Scan) (text : List ℕ) (len : ℕ) → (s ≡ Quoted text len → ⊥) → (t ≡ Quoted text len → ⊥) → cond q s t ≡ Quoted text len → ⊥
neither true s t text len f g e = f e
neither false s t text len f g e = g e

bare_unquoted : (b : ℕ) (bytes text : List ℕ) (len : ℕ) → bare_scan b bytes ≡ Quoted text len → ⊥
unfolding bare_scan
bare_unquoted b bytes text len =
    neither (is_indicator b) _ _ text len (λ e. cc) (neither (asks b bytes) _ _ text len (λ e. cc) (neither (is_unplain b bytes) _ _ text len (λ e. cc) (λ e. cc)))

is_single : (bytes text : List ℕ) (len : ℕ) → single_scan (single_quoted false bytes) ≡ Quoted text len → IsSingleQuoted (apostrophe ∷ bytes) text len
is_single bytes text len e =
    let f = single_found (single_quoted false bytes) text len e in
    let s = found_single false bytes f.0 f.1 in
    let tail : bytes ≡ single_spelling s.text ++ apostrophe ∷ s.rest = cc (s.spelled) in
    let read = same_Some _ _ (sym (read_single s.text s.rest s.closed) ∙ sym (ap (single_quoted false) tail) ∙ f.1) in
    let same : s.text ≡ text = ap (λ r. r.0) read ∙ f.2 in
    let places : length (single_spelling s.text) + 1 ≡ f.0.1 = ap (λ r. r.1) read in
    let spelled : length (single_spelling s.text) ≡ length (single_spelling text) = ap (λ t. length (single_spelling t)) same in
    record {
      rest = s.rest;
      spelled = s.spelled ∙ ap (λ t. apostrophe ∷ (single_spelling t ++ apostrophe ∷ s.rest)) same;
      closed = s.closed;
      counted = omega (arith, f.3);
    }

is_double : (bytes text : List ℕ) (len : ℕ) → double_scan bytes (double_len false bytes) ≡ Quoted text len → IsDoubleQuoted (quotation_mark ∷ bytes) text len
is_double bytes text len e =
    let f = double_found bytes (double_len false bytes) text len e in
    let s = found_double bytes Outside [] f.0 text refl f.1 f.2 in
    let places : length (flat_map spelling s.parts) ≡ f.0 = same_Some _ _ (sym (double_parts s.parts s.rest s.each) ∙ sym (ap (double_len false) s.spelled) ∙ f.1) in
    let front : take f.0 bytes ≡ flat_map spelling s.parts = (λ j. take (sym places j) (s.spelled j)) ∙ take-append_seam (flat_map spelling s.parts) (quotation_mark ∷ s.rest) in
    record {
      parts = s.parts;
      rest = s.rest;
      each = s.each;
      spelled = ap (λ l. quotation_mark ∷ l) s.spelled;
      meant = same_Some _ _ (sym f.2 ∙ ap (unescaped Outside) front ∙ unescaped_parts s.parts s.each);
      counted = omega (arith, f.3);
    }

from_single : (bytes text : List ℕ) (len : ℕ) → IsSingleQuoted bytes text len → scalar_at bytes ≡ Quoted text len
unfolding scalar_at scan_of
from_single bytes text len s =
    let places : 1 + (length (single_spelling text) + 1) ≡ len = omega (arith, s.counted) in
    ap scalar_at s.spelled ∙ ap single_scan (read_single text s.rest s.closed) ∙ ap (Quoted text) places

from_double : (bytes text : List ℕ) (len : ℕ) → IsDoubleQuoted bytes text len → scalar_at bytes ≡ Quoted text len
unfolding scalar_at scan_of
from_double bytes text len d =
    let front : List ℕ = flat_map spelling d.parts in
    let places : 2 + length front ≡ len = omega (arith, d.counted) in
    ap scalar_at d.spelled ∙ ap (double_scan (front ++ quotation_mark ∷ d.rest)) (double_parts d.parts d.rest d.each)
    ∙ ap (double_text (length front)) (ap (unescaped Outside) (take-append_seam front (quotation_mark ∷ d.rest)) ∙ unescaped_parts d.parts d.each)
    ∙ (λ j. Quoted (sym d.meant j) (places j))

is_quoted : (bytes text : List ℕ) (len : ℕ) → scalar_at bytes ≡ Quoted text len → IsQuoted bytes text len
unfolding scalar_at scan_of
is_quoted [] text len e = absurd (cc)
is_quoted (b ∷ bytes) text len e =
    (elim (b == apostrophe) as (λ q. (b == apostrophe) ≡ q → cond q (single_scan (single_quoted false bytes)) (cond (b == quotation_mark) (double_scan bytes (double_len false bytes)) (bare_scan b bytes)) ≡ Quoted text len → IsQuoted (b ∷ bytes) text len) [
      | true ↦ λ q f. inl (subst (λ c. IsSingleQuoted (c ∷ bytes) text len) (sym (eqb-true b apostrophe q)) (is_single bytes text len f))
      | false ↦ λ _.
          elim (b == quotation_mark) as (λ q. (b == quotation_mark) ≡ q → cond q (double_scan bytes (double_len false bytes)) (bare_scan b bytes) ≡ Quoted text len → IsQuoted (b ∷ bytes) text len) [
            | true ↦ λ q f. inr (subst (λ c. IsDoubleQuoted (c ∷ bytes) text len) (sym (eqb-true b quotation_mark q)) (is_double bytes text len f))
            | false ↦ λ _ f. absurd (bare_unquoted b bytes text len f)
          ] refl
    ]) refl e

pub quoted_scalars : (bytes text : List ℕ) (len : ℕ) → (scalar_at bytes ≡ Quoted text len) ↔ IsQuoted bytes text len
quoted_scalars bytes text len = (is_quoted bytes text len, λ q. ⊎_elim (from_single bytes text len) (from_double bytes text len) q)
