-- The tokens of lines of UTF-8 are UTF-8, and the lines of a literal block stand in it.
use Rattle.std.proofs.Common.{◌≡◌, ℕ, ◌+◌, ◌≤◌, Bool, true, false, ◌||◌, ◌&&◌, ◌==◌, if◌then◌else◌, List, [], ◌∷◌, ◌++◌, drop, Option, Some, None, IfSome, IsUtf8, refl, sym, ap, ◌∙◌, subst, inl, inr, ◌⊎◌, eqb-true, leb-true, true≢false, not, one-add}
use Rattle.std.specs.List.{AllByRecursion, prefix_len}
use Rattle.std.proofs.lemmas.Bool.{or_cases}
use Rattle.yaml_tokens.specs.Lines.{begins_with}
use Rattle.yaml_tokens.specs.Literals.{is_blank, indent}
use Rattle.yaml_tokens.specs.Scalars.{is_space, is_nothing, after_spaces}
use Rattle.yaml_tokens.specs.Tokens.{refused, named_node, is_dash, node_tokens, has_content, is_marker, is_late_marker, begins_document, head_of, stands_in, is_body, bar_column, column_behind, place_inside, place_behind, line_tokens, place_after, next_place, tokens_from, tokens_of}
use Rattle.yaml_tokens.specs.declared.odd.Odd.TheVariants as odd
use Rattle.yaml_tokens.specs.declared.token.Token.{Token}
use Rattle.yaml_tokens.specs.declared.token.Token.TheVariants.{Dash, Key, Scalar, Anchor, Alias, Bar, Body, Form, OddToken}
use Rattle.yaml_tokens.specs.declared.place.LinePlace.{LinePlace}
use Rattle.yaml_tokens.specs.declared.place.LinePlace.TheVariants.{Outside, Inside}
use Rattle.text_trees.proofs.GoodPieces.{IsGoodPiece}
use Rattle.text_trees.proofs.GoodTokens.{AreGood, node_good}

-- ---- literal blocks

-- a line of a block stands in it: it is blank, or not left of the block's column, if that is known
abbrev pub StandsIn : Option ℕ → List ℕ → Type 0
StandsIn column bytes = (is_blank bytes ≡ true) ⊎ IfSome column (λ n. n ≤ indent bytes)

-- The tokens are good, and each line of a literal block stands in it. In the first argument stands the block's column so far.
-- Behind an odd token, which no tree has, nothing is said.
abbrev pub AreGoodFrom : Option ℕ → List Token → Type 0
AreGoodFrom column [] = Unit {0}
AreGoodFrom column (Body line at bytes ∷ ms) = IsUtf8 bytes × StandsIn column bytes × AreGoodFrom (column_behind column bytes) ms
AreGoodFrom column (Bar line at chomp ∷ ms) = AreGoodFrom None ms
AreGoodFrom column (Dash line at ∷ ms) = AreGoodFrom column ms
AreGoodFrom column (Key line at text ∷ ms) = IsUtf8 text × AreGoodFrom column ms
AreGoodFrom column (Scalar line at text ∷ ms) = IfSome text IsUtf8 × AreGoodFrom column ms
AreGoodFrom column (Anchor line at text ∷ ms) = AreGoodFrom column ms
AreGoodFrom column (Alias line at text ∷ ms) = AreGoodFrom column ms
AreGoodFrom column (Form line at pieces ∷ ms) = AllByRecursion IsGoodPiece pieces × AreGoodFrom column ms
AreGoodFrom column (OddToken line at why ∷ ms) = Unit {0}

-- the column so far is that of the place
abbrev Fits : LinePlace → Option ℕ → Type 0
Fits (Outside head) column = Unit {0}
Fits (Inside bar head own) column = own ≡ column

good_then : (ms rest : List Token) (place : LinePlace) (column : Option ℕ) → AreGood ms → Fits place column → ((after : Option ℕ) → Fits (place_behind place ms) after → AreGoodFrom after rest) → AreGoodFrom column (ms ++ rest)
good_then [] rest place column h f k = k column f
good_then (Body line at bytes ∷ ms) rest place column h f k = absurd h.0
good_then (Bar line at chomp ∷ ms) rest place column h f k = good_then ms rest (Inside at (head_of place) None) None h.1 refl k
good_then (Dash line at ∷ ms) rest place column h f k = good_then ms rest (Outside (Some at)) column h.1 tt k
good_then (Key line at text ∷ ms) rest place column h f k = (h.0, good_then ms rest (Outside (Some at)) column h.1 tt k)
good_then (Scalar line at text ∷ ms) rest place column h f k = (h.0, good_then ms rest place column h.1 f k)
good_then (Anchor line at text ∷ ms) rest place column h f k = good_then ms rest place column h.1 f k
good_then (Alias line at text ∷ ms) rest place column h f k = good_then ms rest place column h.1 f k
good_then (Form line at pieces ∷ ms) rest place column h f k = (h.0, good_then ms rest place column h.1 f k)
good_then (OddToken line at why ∷ ms) rest place column h f k = tt

-- ---- lines

stands : (head column : Option ℕ) (bytes : List ℕ) → (is_blank bytes || stands_in head column (indent bytes)) ≡ true → StandsIn column bytes
stands head column bytes h = by column (or_cases (is_blank bytes) (stands_in head column (indent bytes)) h)
  where
    by : (c : Option ℕ) → (is_blank bytes ≡ true) ⊎ (stands_in head c (indent bytes) ≡ true) → StandsIn c bytes
    by c (inl blank) = inl blank
    by None (inr deep) = inr tt
    by (Some n) (inr deep) = inr (leb-true n (indent bytes) deep)

-- a line without content has no token
abbrev is_quiet : List ℕ → Bool
is_quiet bytes = is_nothing (after_spaces bytes) || begins_with 35 (after_spaces bytes)

quiet_tokens : (line column : ℕ) (bytes : List ℕ) → is_quiet bytes ≡ true → node_tokens line column bytes ≡ []
unfolding node_tokens
quiet_tokens line column [] h = refl
quiet_tokens line column (b ∷ bytes) h = by (b == 32) refl h (quiet_tokens line (1 + column) bytes)
  where
    comment : b ≡ 35 → (if false then node_tokens line (1 + column) bytes else (if is_dash b bytes then Dash line column ∷ node_tokens line (1 + column) bytes else named_node line column b bytes)) ≡ []
    comment e = subst (λ (c : ℕ). (if is_dash c bytes then Dash line column ∷ node_tokens line (1 + column) bytes else named_node line column c bytes) ≡ []) (sym e) refl

    by : (t : Bool) → (b == 32) ≡ t → (is_nothing (drop (if t then 1 + prefix_len is_space bytes else 0) (b ∷ bytes)) || begins_with 35 (drop (if t then 1 + prefix_len is_space bytes else 0) (b ∷ bytes))) ≡ true
        → (is_quiet bytes ≡ true → node_tokens line (1 + column) bytes ≡ [])
        → (if t then node_tokens line (1 + column) bytes else (if is_dash b bytes then Dash line column ∷ node_tokens line (1 + column) bytes else named_node line column b bytes)) ≡ []
    by true e q more = more (subst (λ (n : ℕ). (is_nothing (drop n (b ∷ bytes)) || begins_with 35 (drop n (b ∷ bytes))) ≡ true) (one-add (prefix_len is_space bytes)) q)
    by false e q more = comment (eqb-true b 35 q)

abbrev IsOutside : LinePlace → Type 0
IsOutside (Outside head) = Unit {0}
IsOutside (Inside bar head own) = ⊥

-- before the first line with content no block is open
abbrev Started : Bool → LinePlace → Type 0
Started begun place = begun ≡ false → IsOutside place

quiet_place : (place : LinePlace) (number : ℕ) (bytes : List ℕ) → IsOutside place → is_quiet bytes ≡ true → IsOutside (next_place false place number bytes)
unfolding line_tokens place_after
quiet_place (Inside bar head own) number bytes o q = absurd o
quiet_place (Outside head) number bytes o q = by (is_late_marker false bytes) (begins_document false bytes) (begins_with 37 bytes)
  where
    by : (a b c : Bool) → IsOutside (place_behind (Outside head) (if a then refused number 0 odd.Unsupported else (if b then [] else (if false then Body number 0 bytes ∷ [] else (if c then refused number 0 odd.Unsupported else node_tokens number 0 bytes)))))
    by true b c = tt
    by false true c = tt
    by false false true = tt
    by false false false = subst (λ (ms : List Token). IsOutside (place_behind (Outside head) ms)) (sym (quiet_tokens number 0 bytes q)) tt

next_started : (begun : Bool) (place : LinePlace) (number : ℕ) (bytes : List ℕ) → Started begun place → Started (begun || has_content bytes) (next_place begun place number bytes)
next_started true place number bytes s e = absurd (true≢false e)
next_started false place number bytes s e = quiet_place place number bytes (s refl) (not_false (is_quiet bytes) e)
  where
    not_false : (a : Bool) → not a ≡ false → a ≡ true
    not_false true h = refl
    not_false false h = absurd (true≢false h)

and_false : (a : Bool) → (a && false) ≡ false
and_false true = refl
and_false false = refl

-- the tokens of a line before others
line_by_is : (begun : Bool) (place : LinePlace) (column : Option ℕ) (number : ℕ) (bytes : List ℕ) (rest : List Token) (a b c d : Bool) → begins_document begun bytes ≡ b → is_body place bytes ≡ c → IsUtf8 bytes → Fits place column → Started begun place
    → ((after : Option ℕ) → Fits (if c then place_inside place bytes else place_behind (Outside (head_of place)) (if a then refused number 0 odd.Unsupported else (if b then [] else (if c then Body number (bar_column place) bytes ∷ [] else (if d then refused number 0 odd.Unsupported else node_tokens number 0 bytes))))) after → AreGoodFrom after rest)
    → AreGoodFrom column ((if a then refused number 0 odd.Unsupported else (if b then [] else (if c then Body number (bar_column place) bytes ∷ [] else (if d then refused number 0 odd.Unsupported else node_tokens number 0 bytes)))) ++ rest)
line_by_is begun place column number bytes rest true b c d m e u f s k = tt
line_by_is true place column number bytes rest false true c d m e u f s k = absurd (true≢false (sym m ∙ and_false (is_marker 45 bytes)))
line_by_is false (Outside head) column number bytes rest false true true d m e u f s k = absurd (true≢false (sym e))
line_by_is false (Outside head) column number bytes rest false true false d m e u f s k = k column tt
line_by_is false (Inside bar head own) column number bytes rest false true c d m e u f s k = absurd (s refl)
line_by_is begun (Outside head) column number bytes rest false false true d m e u f s k = absurd (true≢false (sym e))
line_by_is begun (Inside bar head own) column number bytes rest false false true d m e u f s k = (u, subst (λ (o : Option ℕ). StandsIn o bytes) f (stands head own bytes e), k (column_behind column bytes) (ap (λ o. column_behind o bytes) f))
line_by_is begun place column number bytes rest false false false true m e u f s k = tt
line_by_is begun place column number bytes rest false false false false m e u f s k = good_then (node_tokens number 0 bytes) rest (Outside (head_of place)) column (node_good number 0 bytes u) tt k

line_good : (begun : Bool) (place : LinePlace) (column : Option ℕ) (number : ℕ) (bytes : List ℕ) (rest : List Token) → IsUtf8 bytes → Fits place column → Started begun place
    → ((after : Option ℕ) → Fits (next_place begun place number bytes) after → AreGoodFrom after rest) → AreGoodFrom column (line_tokens begun place number bytes ++ rest)
unfolding line_tokens place_after
line_good begun place column number bytes rest u f s k = line_by_is begun place column number bytes rest (is_late_marker begun bytes) (begins_document begun bytes) (is_body place bytes) (begins_with 37 bytes) refl refl u f s k

lines_good : (begun : Bool) (place : LinePlace) (column : Option ℕ) (number : ℕ) (lines : List (List ℕ)) → AllByRecursion IsUtf8 lines → Fits place column → Started begun place → AreGoodFrom column (tokens_from begun place number lines)
unfolding tokens_from
lines_good begun place column number [] u f s = tt
lines_good begun place column number (line ∷ lines) u f s =
    line_good begun place column number line (tokens_from (begun || has_content line) (next_place begun place number line) (1 + number) lines) u.0 f s
    (λ after g. lines_good (begun || has_content line) (next_place begun place number line) after (1 + number) lines u.1 g (next_started begun place number line s))

-- the tokens of lines of UTF-8
pub tokens_good : (lines : List (List ℕ)) → AllByRecursion IsUtf8 lines → AreGoodFrom None (tokens_of lines)
tokens_good lines u = lines_good false (Outside None) None 1 lines u tt (λ e. tt)
