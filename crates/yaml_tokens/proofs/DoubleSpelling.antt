-- A text in double quotes: what is read is spelled, and what is spelled is read.
use Rattle.std.proofs.Common.{◌≡◌, ◌≢◌, ℕ, ◌+◌, ◌-◌, ◌*◌, ◌<◌, Bool, true, false, ◌&&◌, cond, List, [], ◌∷◌, ◌++◌, Option, Some, None, option_map, option_and_then, length, take, flat_map, nat_lt, encode_utf8, refl, sym, ap, ◌∙◌, subst, append_assoc, arith, one-add, ◌==◌, lt-ltb, ltb-true, ltb-false}
use Rattle.std.proofs.lemmas.Bool.{cond-true, cond-false, ne_eqb, eqb-true, eqb-false}
use Rattle.std.proofs.lemmas.Option.{none-some, same_Some}
use Rattle.std.proofs.lemmas.List.{length-append}
use Rattle.std.specs.List.{AllByRecursion}
use Rattle.sim_base.specs.Ascii.{backslash, quotation_mark, small_u, small_x}
use Rattle.yaml_tokens.specs.Scalars.{double_len, unescaped, put_before, escape_step, number_step, escaped_byte, hex_value, is_surrogate, added_bytes}
use Rattle.yaml_tokens.specs.Spelling.{Part, Itself, Escaped, Numbered, digits_behind, number_behind, IsPart, spelling, meaning}
use Rattle.yaml_tokens.specs.declared.escapes.Escape.{Escape}
use Rattle.yaml_tokens.specs.declared.escapes.Escape.TheVariants.{Outside, Behind, Digits}
use Rattle.yaml_tokens.specs.declared.escapes.Added.{Added}
use Rattle.yaml_tokens.specs.declared.escapes.Added.TheVariants.{Nothing, Byte, Character}
use Rattle.yaml_tokens.proofs.ScanSteps.{places_on}
use Rattle.yaml_tokens.proofs.SingleSpelling.{mapped}

chained : {A B : Type 0} (f : A → Option B) (o : Option A) (y : B) → option_and_then f o ≡ Some y → (x : A) × (o ≡ Some x) × (f x ≡ Some y)
chained f None y e = absurd (none-some y e)
chained f (Some x) y e = (x, refl, e)

and_false : (a : Bool) → (a && false) ≡ false
and_false true = refl
and_false false = refl

-- ---- what is spelled is read

plain_digit : (b d : ℕ) → hex_value b ≡ Some d → (b ≢ quotation_mark) × (b ≢ backslash)
plain_digit b d e = (λ is. none-some d (sym (ap hex_value is) ∙ e), λ is. none-some d (sym (ap hex_value is) ∙ e))

places_none : (o : Option ℕ) → places_on 0 o ≡ o
places_none None = refl
places_none (Some n) = ap Some (omega arith)

places_both : (a b : ℕ) (o : Option ℕ) → places_on a (places_on b o) ≡ places_on (a + b) o
places_both a b None = refl
places_both a b (Some n) = ap Some (omega arith)

double_itself : (b : ℕ) (xs : List ℕ) → b ≢ quotation_mark → b ≢ backslash → double_len false (b ∷ xs) ≡ places_on 1 (double_len false xs)
unfolding double_len
double_itself b xs q s = cond-false ((b == quotation_mark) && true) _ _ (ap (λ c. c && true) (ne_eqb b quotation_mark q)) ∙ ap (λ c. places_on 1 (double_len (c && true) xs)) (ne_eqb b backslash s)

double_behind : (b : ℕ) (xs : List ℕ) → double_len true (b ∷ xs) ≡ places_on 1 (double_len false xs)
unfolding double_len
double_behind b xs = cond-false ((b == quotation_mark) && false) _ _ (and_false (b == quotation_mark)) ∙ ap (λ c. places_on 1 (double_len c xs)) (and_false (b == backslash))

double_digits : (digits : List ℕ) (n m : ℕ) (xs : List ℕ) → number_behind n digits ≡ Some m → double_len false (digits ++ xs) ≡ places_on (length digits) (double_len false xs)
unfolding number_behind
double_digits [] n m xs e = sym (places_none (double_len false xs))
double_digits (d ∷ digits) n m xs e =
    let h = chained _ _ _ e in
    let plain = plain_digit d h.0 h.1 in
    let count : 1 + length digits ≡ length (d ∷ digits) = omega arith in
    double_itself d (digits ++ xs) plain.0 plain.1 ∙ ap (places_on 1) (double_digits digits _ m xs h.2)
    ∙ places_both 1 (length digits) (double_len false xs) ∙ ap (λ k. places_on k (double_len false xs)) count

double_part : (p : Part) (xs : List ℕ) → IsPart p → double_len false (spelling p ++ xs) ≡ places_on (length (spelling p)) (double_len false xs)
unfolding double_len
double_part (Itself b) xs h = double_itself b xs h.0 h.1
double_part (Escaped letter b) xs h = ap (places_on 1) (double_behind letter xs) ∙ places_both 1 1 (double_len false xs)
double_part (Numbered letter digits n) xs h =
    let count : 1 + (1 + length digits) ≡ length (backslash ∷ letter ∷ digits) = omega arith in
    ap (places_on 1) (double_behind letter (digits ++ xs) ∙ ap (places_on 1) (double_digits digits 0 n xs h.1) ∙ places_both 1 (length digits) (double_len false xs))
    ∙ places_both 1 (1 + length digits) (double_len false xs) ∙ ap (λ k. places_on k (double_len false xs)) count

pub double_parts : (parts : List Part) (rest : List ℕ) → AllByRecursion IsPart parts → double_len false (flat_map spelling parts ++ quotation_mark ∷ rest) ≡ Some (length (flat_map spelling parts))
unfolding double_len
double_parts [] rest h = refl
double_parts (p ∷ parts) rest h =
    ap (double_len false) (append_assoc (spelling p) (flat_map spelling parts) (quotation_mark ∷ rest)) ∙ double_part p (flat_map spelling parts ++ quotation_mark ∷ rest) h.0
    ∙ ap (places_on (length (spelling p))) (double_parts parts rest h.1) ∙ ap Some (sym (length-append (spelling p) (flat_map spelling parts)))

abbrev goes_on : List ℕ → Escape × Added → Option (List ℕ)
goes_on bytes s = put_before (added_bytes s.1) (unescaped s.0 bytes)

nothing_before : (o : Option (List ℕ)) → put_before [] o ≡ o
nothing_before None = refl
nothing_before (Some text) = refl

unescaped_digits : (d : ℕ) (digits : List ℕ) (n m : ℕ) (xs : List ℕ) → number_behind n (d ∷ digits) ≡ Some m → is_surrogate m ≡ false → unescaped (Digits (length (d ∷ digits)) n) (d ∷ (digits ++ xs)) ≡ put_before (encode_utf8 m) (unescaped Outside xs)
unfolding unescaped number_behind
unescaped_digits d [] n m xs e s =
    let h = chained _ _ _ e in
    ap (λ o. option_and_then (goes_on xs) (option_and_then (λ v. number_step 1 (n * 16 + v)) o)) h.1
    ∙ ap (λ k. option_and_then (goes_on xs) (number_step 1 k)) (same_Some _ _ h.2)
    ∙ ap (λ q. option_and_then (goes_on xs) (cond q None (Some (Outside, Character m)))) s
unescaped_digits d (c ∷ digits) n m xs e s =
    let h : (v : ℕ) × (hex_value d ≡ Some v) × (number_behind (n * 16 + v) (c ∷ digits) ≡ Some m) = chained _ _ _ e in
    let left : ℕ = length (d ∷ c ∷ digits) in
    let fewer : left - 1 ≡ length (c ∷ digits) = omega arith in
    let several : nat_lt 1 left ≡ true = lt-ltb 1 left (omega arith) in
    ap (λ o. option_and_then (goes_on (c ∷ (digits ++ xs))) (option_and_then (λ v. number_step left (n * 16 + v)) o)) h.1
    ∙ ap (option_and_then (goes_on (c ∷ (digits ++ xs)))) (cond-true (nat_lt 1 left) _ _ several)
    ∙ nothing_before (unescaped (Digits (left - 1) (n * 16 + h.0)) (c ∷ (digits ++ xs)))
    ∙ ap (λ k. unescaped (Digits k (n * 16 + h.0)) (c ∷ (digits ++ xs))) fewer
    ∙ unescaped_digits c digits (n * 16 + h.0) m xs h.2 s

-- the first digits of so many
abbrev begins_digits : ℕ → Option (Escape × Added)
begins_digits k = Some (Digits k 0, Nothing)

abbrev begins_byte : ℕ → Option (Escape × Added)
begins_byte letter = option_map (λ c. (Outside, Byte c)) (escaped_byte letter)

letter_step : (letter k : ℕ) → digits_behind letter ≡ Some k → (escape_step Behind letter ≡ begins_digits k) × (0 < k)
letter_step letter k e =
    (elim (letter == small_x) as (λ q. cond q (Some 2) (cond (letter == small_u) (Some 4) None) ≡ Some k → (cond q (begins_digits 2) (cond (letter == small_u) (begins_digits 4) (begins_byte letter)) ≡ begins_digits k) × (0 < k)) [
      | true ↦ λ f. let is : 2 ≡ k = same_Some 2 k f in (ap begins_digits is, omega arith)
      | false ↦
          elim (letter == small_u) as (λ q. cond q (Some 4) None ≡ Some k → (cond q (begins_digits 4) (begins_byte letter) ≡ begins_digits k) × (0 < k)) [
            | true ↦ λ f. let is : 4 ≡ k = same_Some 4 k f in (ap begins_digits is, omega arith)
            | false ↦ λ f. absurd (none-some k f)
          ]
    ]) e

unescaped_part : (p : Part) (xs : List ℕ) → IsPart p → unescaped Outside (spelling p ++ xs) ≡ put_before (meaning p) (unescaped Outside xs)
unfolding unescaped
unescaped_part (Itself b) xs h = ap (λ q. option_and_then (goes_on xs) (cond q (Some (Behind, Nothing)) (Some (Outside, Byte b)))) (ne_eqb b backslash h.1)
unescaped_part (Escaped letter b) xs h =
    nothing_before (unescaped Behind (letter ∷ xs))
    ∙ ap (option_and_then (goes_on xs)) (
    cond-false (letter == small_x) _ _ (ne_eqb letter small_x (λ is. none-some b (sym (ap escaped_byte is) ∙ h)))
    ∙ cond-false (letter == small_u) _ _ (ne_eqb letter small_u (λ is. none-some b (sym (ap escaped_byte is) ∙ h)))
    ∙ ap (option_map (λ c. (Outside, Byte c))) h)
unescaped_part (Numbered letter [] n) xs h = absurd (let some = letter_step letter 0 h.0 in omega (arith, some.1))
unescaped_part (Numbered letter (d ∷ digits) n) xs h =
    nothing_before (unescaped Behind (letter ∷ d ∷ (digits ++ xs)))
    ∙ ap (option_and_then (goes_on (d ∷ (digits ++ xs)))) (letter_step letter (length (d ∷ digits)) h.0).0
    ∙ nothing_before (unescaped (Digits (length (d ∷ digits)) 0) (d ∷ (digits ++ xs)))
    ∙ unescaped_digits d digits 0 n xs h.1 h.2

pub unescaped_parts : (parts : List Part) → AllByRecursion IsPart parts → unescaped Outside (flat_map spelling parts) ≡ Some (flat_map meaning parts)
unfolding unescaped
unescaped_parts [] h = refl
unescaped_parts (p ∷ parts) h = unescaped_part p (flat_map spelling parts) h.0 ∙ ap (put_before (meaning p)) (unescaped_parts parts h.1)

-- ---- what is read is spelled

-- the bytes begin with parts and a closing quote
pub record Spelled (bytes : List ℕ) : Type 0 where
  pub parts : List Part
  pub rest : List ℕ
  pub each : AllByRecursion IsPart parts
  pub spelled : bytes ≡ flat_map spelling parts ++ quotation_mark ∷ rest

more_spelled : (p : Part) (bytes : List ℕ) → IsPart p → Spelled bytes → Spelled (spelling p ++ bytes)
more_spelled p bytes h s = record {
  parts = p ∷ s.parts;
  rest = s.rest;
  each = (h, s.each);
  spelled = ap (λ l. spelling p ++ l) s.spelled ∙ sym (append_assoc (spelling p) (flat_map spelling s.parts) (quotation_mark ∷ s.rest));
}

-- the bytes in front, since the last whole part, lead a reader there
abbrev pub Leads : Escape → List ℕ → Type 0
Leads Outside front = front ≡ []
Leads Behind front = front ≡ backslash ∷ []
Leads (Digits left n) front = (letter : ℕ) × (digits : List ℕ) × (front ≡ backslash ∷ letter ∷ digits) × (digits_behind letter ≡ Some (length digits + left)) × (number_behind 0 digits ≡ Some n) × (0 < left)

abbrev pub is_behind : Escape → Bool
is_behind Outside = false
is_behind Behind = true
is_behind (Digits left n) = false

-- what is read is spelled, together with what stands in front
abbrev pub Finds : List ℕ → Type 0
Finds bytes = (place : Escape) (front : List ℕ) (len : ℕ) (text : List ℕ) → Leads place front → double_len (is_behind place) bytes ≡ Some len → unescaped place (take len bytes) ≡ Some text → Spelled (front ++ bytes)

take_one : (n len b : ℕ) (bytes : List ℕ) → 1 + n ≡ len → take len (b ∷ bytes) ≡ b ∷ take n bytes
take_one n len b bytes e = ap (λ k. take k (b ∷ bytes)) (sym e ∙ one-add n)

number_more : (n : ℕ) (digits : List ℕ) (b d m : ℕ) → number_behind n digits ≡ Some m → hex_value b ≡ Some d → number_behind n (digits ++ b ∷ []) ≡ Some (m * 16 + d)
unfolding number_behind
number_more n [] b d m e h = ap (option_and_then (λ v. Some (n * 16 + v))) h ∙ ap (λ k. Some (k * 16 + d)) (same_Some n m e)
number_more n (c ∷ digits) b d m e h = let f = chained _ _ _ e in ap (option_and_then (λ v. number_behind (n * 16 + v) (digits ++ b ∷ []))) f.1 ∙ number_more (n * 16 + f.0) digits b d m f.2 h

finds_outside : (b : ℕ) (bytes : List ℕ) → Finds bytes → (len : ℕ) (text : List ℕ) → double_len false (b ∷ bytes) ≡ Some len → unescaped Outside (take len (b ∷ bytes)) ≡ Some text → Spelled (b ∷ bytes)
unfolding double_len unescaped
finds_outside b bytes finds len text e u =
    (elim (b == quotation_mark) as (λ q. (b == quotation_mark) ≡ q → cond (q && true) (Some 0) (places_on 1 (double_len ((b == backslash) && true) bytes)) ≡ Some len → Spelled (b ∷ bytes)) [
      | true ↦ λ q f. record { parts = []; rest = bytes; each = tt; spelled = ap (λ c. c ∷ bytes) (eqb-true b quotation_mark q) }
      | false ↦ λ q f.
          let m = mapped _ _ _ f in
          let v : unescaped Outside (b ∷ take m.0 bytes) ≡ Some text = sym (ap (unescaped Outside) (take_one m.0 len b bytes m.2)) ∙ u in
          (elim (b == backslash) as (λ s. (b == backslash) ≡ s → double_len (s && true) bytes ≡ Some m.0 → option_and_then (goes_on (take m.0 bytes)) (cond s (Some (Behind, Nothing)) (Some (Outside, Byte b))) ≡ Some text → Spelled (b ∷ bytes)) [
            | true ↦ λ s d w. subst (λ c. Spelled (c ∷ bytes)) (sym (eqb-true b backslash s)) (finds Behind (backslash ∷ []) m.0 text refl d (sym (nothing_before _) ∙ w))
            | false ↦ λ s d w. let t = mapped _ _ _ w in more_spelled (Itself b) bytes (eqb-false b quotation_mark q, eqb-false b backslash s) (finds Outside [] m.0 t.0 refl d t.1)
          ]) refl m.1 v
    ]) refl e

finds_behind : (b : ℕ) (bytes : List ℕ) → Finds bytes → (len : ℕ) (text : List ℕ) → double_len true (b ∷ bytes) ≡ Some len → unescaped Behind (take len (b ∷ bytes)) ≡ Some text → Spelled (backslash ∷ b ∷ bytes)
unfolding unescaped number_behind
finds_behind b bytes finds len text e u =
    let m = mapped _ _ _ (sym (double_behind b bytes) ∙ e) in
    let v : unescaped Behind (b ∷ take m.0 bytes) ≡ Some text = sym (ap (unescaped Behind) (take_one m.0 len b bytes m.2)) ∙ u in
    (elim (b == small_x) as (λ q. (b == small_x) ≡ q → option_and_then (goes_on (take m.0 bytes)) (cond q (Some (Digits 2 0, Nothing)) (cond (b == small_u) (Some (Digits 4 0, Nothing)) (option_map (λ c. (Outside, Byte c)) (escaped_byte b)))) ≡ Some text → Spelled (backslash ∷ b ∷ bytes)) [
      | true ↦ λ q w. subst (λ c. Spelled (backslash ∷ c ∷ bytes)) (sym (eqb-true b small_x q)) (finds (Digits 2 0) (backslash ∷ small_x ∷ []) m.0 text (small_x, [], refl, refl, refl, omega arith) m.1 (sym (nothing_before _) ∙ w))
      | false ↦ λ q.
          elim (b == small_u) as (λ q. (b == small_u) ≡ q → option_and_then (goes_on (take m.0 bytes)) (cond q (Some (Digits 4 0, Nothing)) (option_map (λ c. (Outside, Byte c)) (escaped_byte b))) ≡ Some text → Spelled (backslash ∷ b ∷ bytes)) [
            | true ↦ λ q w. subst (λ c. Spelled (backslash ∷ c ∷ bytes)) (sym (eqb-true b small_u q)) (finds (Digits 4 0) (backslash ∷ small_u ∷ []) m.0 text (small_u, [], refl, refl, refl, omega arith) m.1 (sym (nothing_before _) ∙ w))
            | false ↦ λ q w.
                let s = chained _ _ _ w in
                let c = mapped _ _ _ s.1 in
                let t = mapped _ _ _ s.2 in
                more_spelled (Escaped b c.0) bytes c.1 (finds Outside [] m.0 t.0 refl m.1 (ap (λ p. unescaped p (take m.0 bytes)) (ap (λ r. r.0) c.2) ∙ t.1))
          ] refl
    ]) refl v

surrogate_free : (q : Bool) (k : ℕ) (s : Escape × Added) → cond q None (Some (Outside, Character k)) ≡ Some s → (q ≡ false) × (◌≡◌ {A = Escape × Added} (Outside, Character k) s)
surrogate_free true k s e = absurd (none-some s e)
surrogate_free false k s e = (refl, same_Some _ _ e)

-- behind one digit more: before the next, or at the number's end
after_digit : (left n b d : ℕ) (front bytes : List ℕ) (len : ℕ) (text : List ℕ) (s : Escape × Added) → Finds bytes → Leads (Digits left n) front → hex_value b ≡ Some d → number_step left (n * 16 + d) ≡ Some s → double_len false bytes ≡ Some len → goes_on (take len bytes) s ≡ Some text → Spelled (front ++ b ∷ bytes)
after_digit left n b d front bytes len text s finds h digit step over u =
    let more : length (h.1 ++ b ∷ []) ≡ length h.1 + 1 = length-append h.1 (b ∷ []) in
    let number = number_more 0 h.1 b d n h.4 digit in
    let some : 0 < left = h.5 in
    (elim (nat_lt 1 left) as (λ q. nat_lt 1 left ≡ q → cond q (Some (Digits (left - 1) (n * 16 + d), Nothing)) (cond (is_surrogate (n * 16 + d)) None (Some (Outside, Character (n * 16 + d)))) ≡ Some s → Spelled (front ++ b ∷ bytes)) [
      | true ↦ λ q f.
          let count : length h.1 + left ≡ length (h.1 ++ b ∷ []) + (left - 1) = omega arith in
          let fewer : 0 < left - 1 = omega (arith, ltb-true 1 left q) in
          let w : put_before [] (unescaped (Digits (left - 1) (n * 16 + d)) (take len bytes)) ≡ Some text = ap (goes_on (take len bytes)) (same_Some _ _ f) ∙ u in
          subst Spelled (append_assoc front (b ∷ []) bytes) (finds (Digits (left - 1) (n * 16 + d)) (front ++ b ∷ []) len text (h.0, h.1 ++ b ∷ [], ap (λ l. l ++ b ∷ []) h.2, h.3 ∙ ap Some count, number, fewer) over (sym (nothing_before _) ∙ w))
      | false ↦ λ q f.
          let free = surrogate_free (is_surrogate (n * 16 + d)) (n * 16 + d) s f in
          let count : length h.1 + left ≡ length (h.1 ++ b ∷ []) = omega (arith, ltb-false 1 left q) in
          let w : put_before (encode_utf8 (n * 16 + d)) (unescaped Outside (take len bytes)) ≡ Some text = ap (goes_on (take len bytes)) free.1 ∙ u in
          let t = mapped _ _ _ w in
          subst Spelled (ap (λ l. backslash ∷ h.0 ∷ l) (append_assoc h.1 (b ∷ []) bytes) ∙ ap (λ f. f ++ b ∷ bytes) (sym h.2))
          (more_spelled (Numbered h.0 (h.1 ++ b ∷ []) (n * 16 + d)) bytes (h.3 ∙ ap Some count, number, free.0) (finds Outside [] len t.0 refl over t.1))
    ]) refl step

finds_digits : (left n b : ℕ) (front bytes : List ℕ) → Finds bytes → (len : ℕ) (text : List ℕ) → Leads (Digits left n) front → double_len false (b ∷ bytes) ≡ Some len → unescaped (Digits left n) (take len (b ∷ bytes)) ≡ Some text → Spelled (front ++ b ∷ bytes)
unfolding double_len unescaped
finds_digits left n b front bytes finds len text h e u =
    (elim (b == quotation_mark) as (λ q. cond (q && true) (Some 0) (places_on 1 (double_len ((b == backslash) && true) bytes)) ≡ Some len → Spelled (front ++ b ∷ bytes)) [
      | true ↦ λ f. let z : 0 ≡ len = same_Some 0 len f in absurd (none-some text (ap (λ k. unescaped (Digits left n) (take k (b ∷ bytes))) z ∙ u))
      | false ↦ λ f.
          let m = mapped _ _ _ f in
          let v : unescaped (Digits left n) (b ∷ take m.0 bytes) ≡ Some text = sym (ap (unescaped (Digits left n)) (take_one m.0 len b bytes m.2)) ∙ u in
          let s = chained _ _ _ v in
          let d = chained _ _ _ s.1 in
          let over : double_len false bytes ≡ Some m.0 = sym (ap (λ c. double_len (c && true) bytes) (ne_eqb b backslash (plain_digit b d.0 d.1).1)) ∙ m.1 in
          after_digit left n b d.0 front bytes m.0 text s.0 finds h d.1 d.2 over s.2
    ]) e

pub found_double : (bytes : List ℕ) → Finds bytes
unfolding double_len
found_double [] place front len text h e u = absurd (none-some _ e)
found_double (b ∷ bytes) Outside front len text h e u = subst (λ f. Spelled (f ++ b ∷ bytes)) (sym h) (finds_outside b bytes (found_double bytes) len text e u)
found_double (b ∷ bytes) Behind front len text h e u = subst (λ f. Spelled (f ++ b ∷ bytes)) (sym h) (finds_behind b bytes (found_double bytes) len text e u)
found_double (b ∷ bytes) (Digits left n) front len text h e u = finds_digits left n b front bytes (found_double bytes) len text h e u
