-- The tokens of a line of UTF-8 are UTF-8.
use Rattle.std.proofs.Common.{◌≡◌, ℕ, ◌+◌, ◌<◌, Bool, true, false, ◌==◌, if◌then◌else◌, List, [], ◌∷◌, drop, Option, Some, IfSome, IsUtf8, refl, arith, eqb-true}
use Rattle.std.specs.List.{AllByRecursion, prefix_len}
use Rattle.std.proofs.lemmas.Bool.{and_parts}
use Rattle.yaml_tokens.specs.Anchors.{is_name_byte, name_len, name_at, after_name, has_name}
use Rattle.yaml_tokens.specs.Literals.{chomp_at, chomp_len, is_digit_first}
use Rattle.yaml_tokens.specs.Scalars.{is_space, at_gap, after_spaces, at_end, at_colon, scalar_at, plain_value}
use Rattle.yaml_tokens.specs.Pieces.{flow_at, is_bracket}
use Rattle.yaml_tokens.specs.Tokens.{refused, why_behind, behind_value, alias_tokens, bar_tokens, flow_tokens, is_node_indicator, indicated, unkeyed, lone_tokens, value_tokens_of, bare_value, behind_spaces, named_value, value_tokens, pair_tokens, row_tokens, row_tokens_of, last_tokens, is_name_indicator, last_node, named_node, is_dash, node_tokens}
use Rattle.yaml_tokens.specs.declared.odd.Odd.TheVariants as odd
use Rattle.yaml_tokens.specs.declared.token.Token.{Token}
use Rattle.yaml_tokens.specs.declared.token.Token.TheVariants.{Dash, Key, Scalar, Anchor, Alias, Body, Form}
use Rattle.yaml_tokens.specs.declared.scan.Scan.{Scan}
use Rattle.yaml_tokens.specs.declared.scan.Scan.TheVariants.{Plain, Quoted, Refused}
use Rattle.text_trees.proofs.Cuts.{utf8_tail, utf8_behind, spaces_utf8}
use Rattle.text_trees.proofs.Scans.{IsGoodScan, scalar_at_good}
use Rattle.text_trees.proofs.GoodPieces.{IsGoodPiece, plain_value_good, name_ascii, colon_utf8, flow_good}

-- a token, but a line of a literal block, whose texts are UTF-8
abbrev pub IsGoodToken : Token → Type 0
IsGoodToken (Key line column text) = IsUtf8 text
IsGoodToken (Scalar line column text) = IfSome text IsUtf8
IsGoodToken (Form line column pieces) = AllByRecursion IsGoodPiece pieces
IsGoodToken (Body line column bytes) = ⊥
IsGoodToken _ = Unit {0}

abbrev pub AreGood : List Token → Type 0
AreGood ms = AllByRecursion IsGoodToken ms

-- ---- values

behind_value_good : (line : ℕ) (rest : List ℕ) → AreGood (behind_value line rest)
behind_value_good line rest = by (at_end rest)
  where
    by : (t : Bool) → AreGood (if t then [] else refused line 0 (why_behind (after_spaces rest)))
    by true = tt
    by false = (tt, tt)

alias_good : (line column : ℕ) (bytes : List ℕ) → AreGood (alias_tokens line column bytes)
alias_good line column bytes = by (has_name at_gap bytes)
  where
    by : (t : Bool) → AreGood (if t then Alias line column (name_at bytes) ∷ behind_value line (after_name bytes) else refused line column odd.Syntax)
    by true = (tt, behind_value_good line (after_name bytes))
    by false = (tt, tt)

bar_good : (line column : ℕ) (bytes : List ℕ) → AreGood (bar_tokens line column bytes)
bar_good line column bytes = (tt, by (is_digit_first rest))
  where
    rest : List ℕ
    rest = drop (chomp_len (chomp_at bytes)) bytes

    by : (t : Bool) → AreGood (if t then refused line 0 odd.Unsupported else behind_value line rest)
    by true = (tt, tt)
    by false = behind_value_good line rest

indicated_good : (line column b : ℕ) (bytes : List ℕ) → IsUtf8 (b ∷ bytes) → AreGood (indicated line column b bytes)
indicated_good line column b bytes u = by (is_bracket b) (b == 42) (b == 124)
  where
    by : (p q r : Bool) → AreGood (if p then flow_tokens line column (b ∷ bytes) else (if q then alias_tokens line column bytes else (if r then bar_tokens line column bytes else refused line column odd.Syntax)))
    by true q r = (flow_good (b ∷ bytes) u, behind_value_good line (drop (flow_at (b ∷ bytes)).len (b ∷ bytes)))
    by false true r = alias_good line column bytes
    by false false true = bar_good line column bytes
    by false false false = (tt, tt)

value_of_good : (line column : ℕ) (bytes : List ℕ) (scan : Scan) → IsGoodScan bytes scan → AreGood (value_tokens_of line column bytes scan)
value_of_good line column bytes (Plain text len) h = (plain_value_good text h.0, behind_value_good line (drop len bytes))
value_of_good line column bytes (Quoted text len) h = (h.0, behind_value_good line (drop len bytes))
value_of_good line column bytes (Refused why) h = (tt, tt)

bare_good : (line column : ℕ) (bytes : List ℕ) → IsUtf8 bytes → AreGood (bare_value line column bytes)
bare_good line column [] u = tt
bare_good line column (b ∷ bytes) u = by (b == 35) (is_node_indicator b)
  where
    by : (p q : Bool) → AreGood (if p then [] else (if q then indicated line column b bytes else value_tokens_of line column (b ∷ bytes) (scalar_at (b ∷ bytes))))
    by true q = tt
    by false true = indicated_good line column b bytes u
    by false false = value_of_good line column (b ∷ bytes) (scalar_at (b ∷ bytes)) (scalar_at_good b bytes u)

name_tail : (b : ℕ) (bytes : List ℕ) → is_name_indicator b bytes ≡ true → IsUtf8 (b ∷ bytes) → IsUtf8 (after_spaces (after_name bytes))
name_tail b bytes h u =
    let e = eqb-true b 38 (and_parts (b == 38) (has_name at_gap bytes) h).0 in
    spaces_utf8 (after_name bytes) (utf8_behind is_name_byte name_ascii bytes (utf8_tail b bytes (omega (arith, e)) u))

named_good : (line column : ℕ) (bytes : List ℕ) → IsUtf8 bytes → AreGood (named_value line column bytes)
named_good line column [] u = tt
named_good line column (b ∷ bytes) u = by (is_name_indicator b bytes) refl
  where
    by : (t : Bool) → is_name_indicator b bytes ≡ t → AreGood (if t then Anchor line column (name_at bytes) ∷ behind_spaces (bare_value line) (column + (1 + name_len bytes)) (after_name bytes) else bare_value line column (b ∷ bytes))
    by true e = (tt, bare_good line _ (after_spaces (after_name bytes)) (name_tail b bytes e u))
    by false e = bare_good line column (b ∷ bytes) u

value_good : (line column : ℕ) (bytes : List ℕ) → IsUtf8 bytes → AreGood (value_tokens line column bytes)
value_good line column bytes u = named_good line (column + prefix_len is_space bytes) (after_spaces bytes) (spaces_utf8 bytes u)

-- ---- nodes

lone_good : (line column : ℕ) (value : Option (List ℕ)) (rest : List ℕ) → IfSome value IsUtf8 → AreGood (lone_tokens line column value rest)
lone_good line column value rest v = by (at_end rest)
  where
    by : (t : Bool) → AreGood (if t then Scalar line column value ∷ [] else refused line column (unkeyed (why_behind (after_spaces rest))))
    by true = (v, tt)
    by false = (tt, tt)

row_good : (line column : ℕ) (text : List ℕ) (value : Option (List ℕ)) (bytes : List ℕ) (len : ℕ) → IsUtf8 text → IfSome value IsUtf8 → IsUtf8 (drop len bytes) → AreGood (row_tokens line column text value bytes len)
row_good line column text value bytes len t v r = by (at_colon (drop len bytes)) refl
  where
    by : (c : Bool) → at_colon (drop len bytes) ≡ c → AreGood (if c then pair_tokens line column text bytes len else lone_tokens line column value (drop len bytes))
    by true e = (t, value_good line _ (drop 1 (after_spaces (drop len bytes))) (colon_utf8 (drop len bytes) e r))
    by false e = lone_good line column value (drop len bytes) v

row_of_good : (line column : ℕ) (bytes : List ℕ) (scan : Scan) → IsGoodScan bytes scan → AreGood (row_tokens_of line column bytes scan)
row_of_good line column bytes (Plain text len) h = row_good line column text (plain_value text) bytes len h.0 (plain_value_good text h.0) h.1
row_of_good line column bytes (Quoted text len) h = row_good line column text (Some text) bytes len h.0 h.0 h.1
row_of_good line column bytes (Refused why) h = (tt, tt)

last_good : (line column b : ℕ) (bytes : List ℕ) → IsUtf8 (b ∷ bytes) → AreGood (last_tokens line column b bytes)
last_good line column b bytes u = by (b == 35) (is_node_indicator b)
  where
    by : (p q : Bool) → AreGood (if p then [] else (if q then indicated line column b bytes else row_tokens_of line column (b ∷ bytes) (scalar_at (b ∷ bytes))))
    by true q = tt
    by false true = indicated_good line column b bytes u
    by false false = row_of_good line column (b ∷ bytes) (scalar_at (b ∷ bytes)) (scalar_at_good b bytes u)

last_node_good : (line column : ℕ) (bytes : List ℕ) → IsUtf8 bytes → AreGood (last_node line column bytes)
last_node_good line column [] u = tt
last_node_good line column (b ∷ bytes) u = last_good line column b bytes u

named_node_good : (line column b : ℕ) (bytes : List ℕ) → IsUtf8 (b ∷ bytes) → AreGood (named_node line column b bytes)
named_node_good line column b bytes u = by (is_name_indicator b bytes) refl
  where
    by : (t : Bool) → is_name_indicator b bytes ≡ t → AreGood (if t then Anchor line column (name_at bytes) ∷ behind_spaces (last_node line) (column + (1 + name_len bytes)) (after_name bytes) else last_tokens line column b bytes)
    by true e = (tt, last_node_good line _ (after_spaces (after_name bytes)) (name_tail b bytes e u))
    by false e = last_good line column b bytes u

pub node_good : (line column : ℕ) (bytes : List ℕ) → IsUtf8 bytes → AreGood (node_tokens line column bytes)
unfolding node_tokens
node_good line column [] u = tt
node_good line column (b ∷ bytes) u = by (is_space b) (is_dash b bytes) (λ e. (let q = eqb-true b 32 e in omega (arith, q))) (λ e. (let q = eqb-true b 45 (and_parts (b == 45) (at_gap bytes) e).0 in omega (arith, q))) (λ v. node_good line (1 + column) bytes v)
  where
    by : (p q : Bool) → (p ≡ true → b < 128) → (q ≡ true → b < 128) → (IsUtf8 bytes → AreGood (node_tokens line (1 + column) bytes))
        → AreGood (if p then node_tokens line (1 + column) bytes else (if q then Dash line column ∷ node_tokens line (1 + column) bytes else named_node line column b bytes))
    by true q f g more = more (utf8_tail b bytes (f refl) u)
    by false true f g more = (tt, more (utf8_tail b bytes (g refl) u))
    by false false f g more = named_node_good line column b bytes u
