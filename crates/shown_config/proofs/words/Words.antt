-- Words as they stand on a line: bare ones, of letters, digits and few other bytes, and texts between quotes.
use Rattle.std.proofs.Common.{◌≡◌, ℕ, ◌-◌, ◌<◌, Bool, true, false, ◌&&◌, ◌||◌, ◌==◌, List, [], ◌∷◌, ◌++◌, length, get_or, take, IsUtf8, refl, sym, ap, ◌∙◌, subst, append_assoc, arith, take_at, take_all, true≢false}
use Rattle.std.specs.List.{list_all, suffix_len}
use Rattle.std.specs.Char.{is_ascii_alphanumeric}
use Rattle.std.proofs.lemmas.Bool.{and_parts, ne_eqb}
use Rattle.std.proofs.lemmas.Bool.Decides.{nat_tests}
use Rattle.std.proofs.lemmas.List.Sums.{suffix_len_is}
use Rattle.std.proofs.lemmas.Str.{IsUtf8-from_ascii}
use Rattle.std.proofs.lemmas.Str.Ascii.{IsAscii-nil, IsAscii-cons}
use Rattle.std.specs.Str.{IsAscii}
use Rattle.yaml_tokens.specs.Lines.{begins_with}
use Rattle.yaml_tokens.specs.Scalars.{is_space, plain_len, plain_ends, plain_text, is_null, without_spaces, bare_scan, scan_of, scalar_at}
use Rattle.yaml_tokens.specs.Pieces.{cell_len, cell_text, bare_cell, cell_scan}
use Rattle.yaml_tokens.specs.declared.scan.Scan.{Scan}
use Rattle.yaml_tokens.specs.declared.scan.Scan.TheVariants.{Plain, Quoted}
use Rattle.config_lines.specs.Quoted.{quoted}
use Rattle.text_trees.proofs.Bytes.{is_inner, all_weaker, IsText}
use Rattle.shown_config.proofs.words.Quotes.{body, quoted_parts, double_scan_body, quoted_inner, quoted_utf8}

-- ---- bytes of a bare word

-- a letter, a digit, `_`, `.` or a space
abbrev pub is_bare : ℕ → Bool
is_bare b = is_ascii_alphanumeric b || (b == 95 || (b == 46 || b == 32))

-- what is in a class is not what isn't
pub is_other : (p : ℕ → Bool) (b c : ℕ) → p b ≡ true → p c ≡ false → (b == c) ≡ false
is_other p b c h k = ne_eqb b c (λ e. true≢false (sym h ∙ (ap p e ∙ k)))

bare_inner : (b : ℕ) → is_bare b ≡ true → is_inner b ≡ true
bare_inner b h = rw (is_other is_bare b 10 h refl, is_other is_bare b 13 h refl) refl

bare_ascii : (b : ℕ) → is_bare b ≡ true → b < 128
bare_ascii b h = grind (arith, nat_tests)

-- ---- bare words

abbrev pub begins_with_letter : List ℕ → Bool
begins_with_letter [] = false
begins_with_letter (b ∷ bytes) = is_ascii_alphanumeric b

abbrev pub last_byte : List ℕ → ℕ
last_byte bytes = get_or bytes (length bytes - 1) 0

pub record IsBare (text : List ℕ) : Type 0 where
  pub bytes : list_all is_bare text ≡ true
  pub first : begins_with_letter text ≡ true
  pub last : is_space (last_byte text) ≡ false
  pub other : is_null text ≡ false

IsAscii_bare : (text : List ℕ) → list_all is_bare text ≡ true → IsAscii text
IsAscii_bare [] h = IsAscii-nil
IsAscii_bare (b ∷ bytes) h = let k = and_parts (is_bare b) (list_all is_bare bytes) h in IsAscii-cons b bytes (bare_ascii b k.0) (IsAscii_bare bytes k.1)

without_spaces_bare : (text : List ℕ) → is_space (last_byte text) ≡ false → without_spaces text ≡ text
without_spaces_bare text h =
    let none = suffix_len_is is_space text (length text) 0 (omega arith) (λ k a b. absurd (omega arith)) (λ _. h) in
    take_all (length text - suffix_len is_space text) text (omega (arith, none))

-- ---- where a bare word ends

abbrev pub StopsWord : List ℕ → Type 0
StopsWord rest = (plain_len rest ≡ 0) × (begins_with 35 rest ≡ false)

abbrev pub StopsCell : List ℕ → Type 0
StopsCell rest = (cell_len rest ≡ 0) × (begins_with 35 rest ≡ false)

no_comment : (bytes rest : List ℕ) → list_all is_bare bytes ≡ true → begins_with 35 rest ≡ false → begins_with 35 (bytes ++ rest) ≡ false
no_comment [] rest h k = k
no_comment (b ∷ bytes) rest h k = is_other is_bare b 35 (and_parts (is_bare b) (list_all is_bare bytes) h).0 refl

and_false : (a : Bool) → (a && false) ≡ false
and_false true = refl
and_false false = refl

goes_on : (b : ℕ) (bytes rest : List ℕ) → list_all is_bare (b ∷ bytes) ≡ true → begins_with 35 rest ≡ false → plain_ends b (bytes ++ rest) ≡ false
goes_on b bytes rest h k =
    let p = and_parts (is_bare b) (list_all is_bare bytes) h in
    rw (is_other is_bare b 58 p.0 refl, no_comment bytes rest p.1 k) (and_false (b == 32))

plain_len_bare : (text rest : List ℕ) → list_all is_bare text ≡ true → StopsWord rest → plain_len (text ++ rest) ≡ length text
unfolding plain_len
plain_len_bare [] rest h s = s.0
plain_len_bare (b ∷ bytes) rest h s =
    let more = plain_len_bare bytes rest (and_parts (is_bare b) (list_all is_bare bytes) h).1 s in
    rw (goes_on b bytes rest h s.1) (omega (arith, more))

cell_len_bare : (text rest : List ℕ) → list_all is_bare text ≡ true → StopsCell rest → cell_len (text ++ rest) ≡ length text
unfolding cell_len
cell_len_bare [] rest h s = s.0
cell_len_bare (b ∷ bytes) rest h s =
    let p = and_parts (is_bare b) (list_all is_bare bytes) h in
    let more = cell_len_bare bytes rest p.1 s in
    rw (goes_on b bytes rest h s.1, is_other is_bare b 44 p.0 refl, is_other is_bare b 93 p.0 refl, is_other is_bare b 125 p.0 refl) (omega (arith, more))

-- ---- words

pub data Word : Type 0 where
  bare : List ℕ → Word
  quote : List ℕ → Word

-- as it is written
abbrev pub text_of : Word → List ℕ
text_of (bare text) = text
text_of (quote text) = quoted text

-- what it says
abbrev pub says : Word → List ℕ
says (bare text) = text
says (quote text) = text

abbrev pub IsWord : Word → Type 0
IsWord (bare text) = IsBare text
IsWord (quote text) = IsUtf8 text

abbrev pub scan_of_word : Word → Scan
scan_of_word (bare text) = Plain text (length text)
scan_of_word (quote text) = Quoted text (length (quoted text))

pub word_text : (w : Word) → IsWord w → IsText (text_of w)
word_text (bare text) h = record { inner = all_weaker is_bare is_inner bare_inner text h.bytes; valid = IsUtf8-from_ascii text (IsAscii_bare text h.bytes) }
word_text (quote text) h = record { inner = quoted_inner text h; valid = quoted_utf8 text h }

-- ---- the first byte of a word

-- what a bare word begins with, or a quote
abbrev is_opening : ℕ → Bool
is_opening b = is_ascii_alphanumeric b || b == 34

pub record Opened (bytes : List ℕ) : Type 0 where
  pub first : ℕ
  pub rest : List ℕ
  pub parts : bytes ≡ first ∷ rest
  pub other : (c : ℕ) → is_opening c ≡ false → (first == c) ≡ false

pub opened : (w : Word) → IsWord w → Opened (text_of w)
unfolding quoted
opened (bare []) h = absurd (true≢false (sym h.first))
opened (bare (b ∷ bytes)) h = record { first = b; rest = bytes; parts = refl; other = λ c k. is_other is_opening b c (rw h.first refl) k }
opened (quote text) h = record { first = 34; rest = body text ++ (34 ∷ []); parts = refl; other = λ c k. is_other is_opening 34 c refl k }

-- ---- scans

bare_scan_bare : (b : ℕ) (bytes : List ℕ) → is_ascii_alphanumeric b ≡ true → scan_of b bytes ≡ Plain (plain_text (b ∷ bytes)) (plain_len (b ∷ bytes))
unfolding scan_of bare_scan
bare_scan_bare b bytes h =
    let n = λ (c : ℕ) (k : is_ascii_alphanumeric c ≡ false). is_other is_ascii_alphanumeric b c h k in
    rw (n 39 refl, n 34 refl, n 33 refl, n 62 refl, n 91 refl, n 123 refl, n 38 refl, n 42 refl, n 124 refl, n 63 refl, n 44 refl, n 93 refl, n 125 refl, n 35 refl, n 37 refl, n 64 refl, n 96 refl, n 45 refl, n 58 refl) refl

bare_cell_bare : (b : ℕ) (bytes : List ℕ) → is_ascii_alphanumeric b ≡ true → cell_scan b bytes ≡ Plain (cell_text (b ∷ bytes)) (cell_len (b ∷ bytes))
unfolding cell_scan bare_cell
bare_cell_bare b bytes h =
    let n = λ (c : ℕ) (k : is_ascii_alphanumeric c ≡ false). is_other is_ascii_alphanumeric b c h k in
    rw (n 39 refl, n 34 refl, n 33 refl, n 62 refl, n 63 refl, n 38 refl, n 42 refl, n 124 refl, n 44 refl, n 93 refl, n 125 refl, n 35 refl, n 37 refl, n 64 refl, n 96 refl, n 45 refl, n 58 refl) refl

plain_is : (text rest : List ℕ) (len : ℕ) → len ≡ length text → without_spaces text ≡ text → Plain (without_spaces (take len (text ++ rest))) len ≡ Plain text (length text)
plain_is text rest len e w = rw e (ap (λ t. Plain (without_spaces t) (length text)) (take_at text rest (length text) refl) ∙ ap (λ t. Plain t (length text)) w)

pub scalar_at_word : (w : Word) (rest : List ℕ) → IsWord w → StopsWord rest → scalar_at (text_of w ++ rest) ≡ scan_of_word w
unfolding scalar_at scan_of
scalar_at_word (bare []) rest h s = absurd (true≢false (sym h.first))
scalar_at_word (bare (b ∷ bytes)) rest h s =
    bare_scan_bare b (bytes ++ rest) h.first
    ∙ plain_is (b ∷ bytes) rest (plain_len (b ∷ (bytes ++ rest))) (plain_len_bare (b ∷ bytes) rest h.bytes s) (without_spaces_bare (b ∷ bytes) h.last)
scalar_at_word (quote text) rest h s = ap scalar_at (quoted_parts text rest) ∙ double_scan_body text rest h

-- the same inside of brackets
pub cell_scan_word : (w : Word) (rest : List ℕ) (b : ℕ) (bytes : List ℕ) → IsWord w → StopsCell rest → text_of w ≡ b ∷ bytes → cell_scan b (bytes ++ rest) ≡ scan_of_word w
unfolding cell_scan quoted
cell_scan_word (bare text) rest b bytes h s e =
    let k = subst (λ (t : List ℕ). IsBare t) e h in
    bare_cell_bare b (bytes ++ rest) k.first
    ∙ plain_is (b ∷ bytes) rest (cell_len (b ∷ (bytes ++ rest))) (cell_len_bare (b ∷ bytes) rest k.bytes s) (without_spaces_bare (b ∷ bytes) k.last)
    ∙ ap (λ t. Plain t (length t)) (sym e)
cell_scan_word (quote text) rest b bytes h s e =
    let first : 34 ≡ b = cc in
    let more : body text ++ (34 ∷ []) ≡ bytes = cc in
    subst (λ (l : List ℕ). cell_scan b (l ++ rest) ≡ Quoted text (length (quoted text))) more
    (subst (λ (c : ℕ). cell_scan c ((body text ++ (34 ∷ [])) ++ rest) ≡ Quoted text (length (quoted text))) first
    (ap (cell_scan 34) (append_assoc (body text) (34 ∷ []) rest) ∙ double_scan_body text rest h))
