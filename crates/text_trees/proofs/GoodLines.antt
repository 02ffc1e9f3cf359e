-- The lines of a UTF-8 text are UTF-8, and so are those of its literal blocks from their column on.
use Rattle.std.proofs.Common.{◌≡◌, ℕ, zero, suc, ◌+◌, ◌<◌, ◌≤◌, Bool, true, false, ◌&&◌, ◌==◌, if◌then◌else◌, List, [], ◌∷◌, ◌++◌, length, drop, Option, Some, None, IsUtf8, encode_utf8, encode_utf8_all, chars, nat_eq, refl, sym, ap, ◌∙◌, subst, arith, drop_of_length-le, inl, inr, ◌⊎◌, ⊎_elim, eqb-true, true≢false, one-add, nat_le, leb-true}
use Rattle.std.specs.List.{AllByRecursion, list_all, starts_with, prefix_len}
use Rattle.std.proofs.Math.Utf8.{scalar, scalars, encode}
use Rattle.std.proofs.lemmas.Bool.{and_parts, cases_lt, ne_eqb}
use Rattle.std.proofs.lemmas.Option.{same_Some}
use Rattle.std.proofs.lemmas.Str.{IsUtf8-append, IsUtf8-encode, IsUtf8-nil, IsUtf8-past_char, encode_ascii, encodes-chars, scalars-chars}
use Rattle.yaml_tokens.specs.Lines.{begins_with, byte_before, split_lines, byte_order_mark, without_mark, lines_of}
use Rattle.yaml_tokens.specs.Literals.{is_blank, indent, block_column, line_from, joined, with_feed, without_feeds, chomped, block_text}
use Rattle.yaml_tokens.specs.Tokens.{column_behind}
use Rattle.yaml_tokens.specs.Scalars.{is_space, is_nothing}
use Rattle.yaml_tokens.specs.declared.chomp.Chomp.{Chomp}
use Rattle.yaml_tokens.specs.declared.chomp.Chomp.TheVariants.{Clip, Strip, Keep}
use Rattle.text_trees.proofs.Cuts.{utf8_tail, without_feeds_utf8}
use Rattle.text_trees.proofs.Characters.{one_byte, is_high, High, high_of, length_some, encode_high}
use Rattle.text_trees.proofs.GoodBlocks.{StandsIn}

-- ---- lines

byte_lines : (b : ℕ) (lines : List (List ℕ)) → b < 128 → AllByRecursion IsUtf8 lines → AllByRecursion IsUtf8 (byte_before b lines)
byte_lines b [] lt h = (one_byte b lt, tt)
byte_lines b (line ∷ lines) lt h = (IsUtf8-append (b ∷ []) line (one_byte b lt) h.0, h.1)

-- more bytes before the first line
bytes_before : List ℕ → List (List ℕ) → List (List ℕ)
bytes_before [] lines = lines
bytes_before (b ∷ bytes) lines = byte_before b (bytes_before bytes lines)

bytes_before_line : (bytes line : List ℕ) (lines : List (List ℕ)) → bytes_before bytes (line ∷ lines) ≡ (bytes ++ line) ∷ lines
unfolding bytes_before
bytes_before_line [] line lines = refl
bytes_before_line (b ∷ bytes) line lines = ap (byte_before b) (bytes_before_line bytes line lines)

bytes_before_none : (b : ℕ) (bytes : List ℕ) → bytes_before (b ∷ bytes) [] ≡ (b ∷ bytes) ∷ []
unfolding bytes_before
bytes_before_none b [] = refl
bytes_before_none b (c ∷ bytes) = ap (byte_before b) (bytes_before_none c bytes)

high_lines : (bytes rest : List ℕ) → list_all is_high bytes ≡ true → split_lines (bytes ++ rest) ≡ bytes_before bytes (split_lines rest)
unfolding split_lines bytes_before
high_lines [] rest h = refl
high_lines (b ∷ bytes) rest h =
    let k = and_parts (nat_le 128 b) _ h in
    let big = leb-true 128 b k.0 in
    rw (ne_eqb b 10 (λ e. absurd (omega (arith, e, big))), ne_eqb b 13 (λ e. absurd (omega (arith, e, big)))) (ap (byte_before b) (high_lines bytes rest k.1))

front_lines : (bytes : List ℕ) (lines : List (List ℕ)) → High bytes → IsUtf8 bytes → AllByRecursion IsUtf8 lines → AllByRecursion IsUtf8 (bytes_before bytes lines)
front_lines bytes [] o u h = subst (AllByRecursion IsUtf8) (sym (ap (λ l. bytes_before l []) o.parts ∙ bytes_before_none o.first o.rest ∙ ap (λ l. l ∷ []) (sym o.parts))) (u, tt)
front_lines bytes (line ∷ lines) o u h = subst (AllByRecursion IsUtf8) (sym (bytes_before_line bytes line lines)) (IsUtf8-append bytes line u h.0, h.1)

ascii_lines : (c : ℕ) (rest : List ℕ) → c < 128 → AllByRecursion IsUtf8 (split_lines rest) → AllByRecursion IsUtf8 (split_lines (c ∷ rest))
unfolding split_lines
ascii_lines c rest lt h = by (c == 10) ((c == 13) && begins_with 10 rest)
  where
    by : (t u : Bool) → AllByRecursion IsUtf8 (if t then [] ∷ split_lines rest else (if u then split_lines rest else byte_before c (split_lines rest)))
    by true u = (IsUtf8-nil, h)
    by false true = h
    by false false = byte_lines c (split_lines rest) lt h

split_good : (cs : List ℕ) → scalars cs ≡ true → AllByRecursion IsUtf8 (split_lines (encode_utf8_all cs))
unfolding split_lines
split_good [] s = tt
split_good (c ∷ cs) s =
    let k = and_parts (scalar c) (scalars cs) s in
    let more = split_good cs k.1 in
    ⊎_elim (λ lt. subst (λ (l : List ℕ). AllByRecursion IsUtf8 (split_lines (l ++ encode_utf8_all cs))) (sym (encode_ascii c lt)) (ascii_lines c (encode_utf8_all cs) lt more))
    (λ ge. subst (AllByRecursion IsUtf8) (sym (high_lines (encode_utf8 c) (encode_utf8_all cs) (encode_high c ge)))
    (front_lines (encode_utf8 c) (split_lines (encode_utf8_all cs)) (high_of (encode_utf8 c) (length_some c) (encode_high c ge)) (IsUtf8-encode c k.0) more))
    (cases_lt c 128)

-- the text behind a byte order mark
mark_parts : (text : List ℕ) → starts_with nat_eq text byte_order_mark ≡ true → text ≡ byte_order_mark ++ drop 3 text
mark_parts [] h = absurd (true≢false (sym h))
mark_parts (a ∷ []) h = absurd (true≢false (sym (and_parts (nat_eq 0xEF a) false h).1))
mark_parts (a ∷ b ∷ []) h = absurd (true≢false (sym (and_parts (nat_eq 0xBB b) false (and_parts (nat_eq 0xEF a) _ h).1).1))
mark_parts (a ∷ b ∷ c ∷ text) h =
    let p = and_parts (nat_eq 0xEF a) _ h in
    let q = and_parts (nat_eq 0xBB b) _ p.1 in
    λ i. sym (eqb-true 0xEF a p.0) i ∷ sym (eqb-true 0xBB b q.0) i ∷ sym (eqb-true 0xBF c (and_parts (nat_eq 0xBF c) _ q.1).0) i ∷ text

mark_utf8 : (text : List ℕ) → IsUtf8 text → IsUtf8 (without_mark text)
unfolding encode
mark_utf8 text u = by (starts_with nat_eq text byte_order_mark) refl
  where
    by : (t : Bool) → starts_with nat_eq text byte_order_mark ≡ t → IsUtf8 (if t then drop 3 text else text)
    by true e = IsUtf8-past_char text (drop 3 text) 0xFEFF u (mark_parts text e)
    by false e = u

pub lines_utf8 : (text : List ℕ) → IsUtf8 text → AllByRecursion IsUtf8 (lines_of text)
lines_utf8 text u =
    let v = mark_utf8 text u in
    subst (λ (l : List ℕ). AllByRecursion IsUtf8 (split_lines l)) (encodes-chars (without_mark text) v) (split_good (chars (without_mark text)) (scalars-chars (without_mark text) v))

-- ---- literal blocks

abbrev pub StandFrom : Option ℕ → List (List ℕ) → Type 0
StandFrom column [] = Unit {0}
StandFrom column (line ∷ lines) = IsUtf8 line × StandsIn column line × StandFrom (column_behind column line) lines

-- a line that is blank, or isn't left of a column
abbrev IsFrom : ℕ → List ℕ → Type 0
IsFrom n line = IsUtf8 line × ((is_blank line ≡ true) ⊎ (n ≤ indent line))

known_stand : (n : ℕ) (lines : List (List ℕ)) → StandFrom (Some n) lines → AllByRecursion (IsFrom n) lines
known_stand n [] h = tt
known_stand n (line ∷ lines) h = ((h.0, h.1), known_stand n lines h.2)

all_stand : (n : ℕ) (lines : List (List ℕ)) → block_column lines ≡ Some n → StandFrom None lines → AllByRecursion (IsFrom n) lines
all_stand n [] e h = tt
all_stand n (line ∷ lines) e h = by (is_blank line) refl e h.2 (all_stand n lines)
  where
    by : (t : Bool) → is_blank line ≡ t → (if t then block_column lines else Some (indent line)) ≡ Some n → StandFrom (if t then None else Some (indent line)) lines → (block_column lines ≡ Some n → StandFrom None lines → AllByRecursion (IsFrom n) lines)
        → IsFrom n line × AllByRecursion (IsFrom n) lines
    by true b q s more = ((h.0, inl b), more q s)
    by false b q s more =
        let same : indent line ≡ n = same_Some (indent line) n q in
        ((h.0, inr (omega (arith, same))), known_stand n lines (subst (λ (k : ℕ). StandFrom (Some k) lines) same s))

-- behind some of the spaces that a line begins with
indent_utf8 : (n : ℕ) (line : List ℕ) → IsUtf8 line → n ≤ indent line → IsUtf8 (drop n line)
indent_utf8 zero line u h = u
indent_utf8 (suc n) [] u h = u
indent_utf8 (suc n) (b ∷ bytes) u h = by (b == 32) refl h (indent_utf8 n bytes)
  where
    by : (t : Bool) → (b == 32) ≡ t → suc n ≤ (if t then 1 + prefix_len is_space bytes else 0) → (IsUtf8 bytes → n ≤ indent bytes → IsUtf8 (drop n bytes)) → IsUtf8 (drop n bytes)
    by true e k more = let q = eqb-true b 32 e in more (utf8_tail b bytes (omega (arith, q)) u) (omega (arith, k))
    by false e k more = absurd (omega (arith, k))

-- a blank line is spaces
blank_indent : (line : List ℕ) → is_blank line ≡ true → length line ≤ indent line
blank_indent [] h = omega arith
blank_indent (b ∷ bytes) h = by (b == 32) h (blank_indent bytes)
  where
    by : (t : Bool) → is_nothing (drop (if t then 1 + prefix_len is_space bytes else 0) (b ∷ bytes)) ≡ true → (is_blank bytes ≡ true → length bytes ≤ indent bytes) → suc (length bytes) ≤ (if t then 1 + prefix_len is_space bytes else 0)
    by true k more = let rest = more (subst (λ (n : ℕ). is_nothing (drop n (b ∷ bytes)) ≡ true) (one-add (prefix_len is_space bytes)) k) in omega (arith, rest)
    by false k more = absurd (true≢false (sym k))

from_utf8 : (n : ℕ) (line : List ℕ) → IsFrom n line → IsUtf8 (drop n line)
from_utf8 n line h = ⊎_elim blank (λ le. indent_utf8 n line h.0 le) h.1
  where
    blank : is_blank line ≡ true → IsUtf8 (drop n line)
    blank b = ⊎_elim (λ lt. (let most = blank_indent line b in indent_utf8 n line h.0 (omega (arith, lt, most)))) (λ le. subst IsUtf8 (sym (drop_of_length-le line {i = n} le)) IsUtf8-nil) (cases_lt n (length line))

feed : IsUtf8 (10 ∷ [])
feed = one_byte 10 (omega arith)

joined_utf8 : (column : Option ℕ) (lines : List (List ℕ)) → AllByRecursion (λ line. IsUtf8 (line_from column line)) lines → IsUtf8 (joined column lines)
joined_utf8 column [] h = IsUtf8-nil
joined_utf8 column (line ∷ lines) h = IsUtf8-append (line_from column line) (10 ∷ joined column lines) h.0 (IsUtf8-append (10 ∷ []) (joined column lines) feed (joined_utf8 column lines h.1))

none_utf8 : (lines : List (List ℕ)) → AllByRecursion (λ line. IsUtf8 (line_from None line)) lines
none_utf8 [] = tt
none_utf8 (line ∷ lines) = (IsUtf8-nil, none_utf8 lines)

some_utf8 : (n : ℕ) (lines : List (List ℕ)) → AllByRecursion (IsFrom n) lines → AllByRecursion (λ line. IsUtf8 (line_from (Some n) line)) lines
some_utf8 n [] h = tt
some_utf8 n (line ∷ lines) h = (from_utf8 n line h.0, some_utf8 n lines h.1)

fed_utf8 : (bytes : List ℕ) → IsUtf8 bytes → IsUtf8 (with_feed bytes)
fed_utf8 bytes u = by (is_nothing bytes)
  where
    by : (t : Bool) → IsUtf8 (if t then [] else bytes ++ (10 ∷ []))
    by true = IsUtf8-nil
    by false = IsUtf8-append bytes (10 ∷ []) u feed

chomped_utf8 : (chomp : Chomp) (bytes : List ℕ) → IsUtf8 bytes → IsUtf8 (chomped chomp bytes)
chomped_utf8 Clip bytes u = fed_utf8 (without_feeds bytes) (without_feeds_utf8 bytes u)
chomped_utf8 Strip bytes u = without_feeds_utf8 bytes u
chomped_utf8 Keep bytes u = u

pub block_utf8 : (chomp : Chomp) (lines : List (List ℕ)) → StandFrom None lines → IsUtf8 (block_text chomp lines)
block_utf8 chomp lines h = chomped_utf8 chomp (joined (block_column lines) lines) (joined_utf8 (block_column lines) lines (by (block_column lines) refl))
  where
    by : (o : Option ℕ) → block_column lines ≡ o → AllByRecursion (λ line. IsUtf8 (line_from o line)) lines
    by None e = none_utf8 lines
    by (Some n) e = some_utf8 n lines (all_stand n lines e h)
