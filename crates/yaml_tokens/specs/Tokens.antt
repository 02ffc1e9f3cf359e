-- The tokens of the lines, each with its line and column, for all six rules of this project's own profile of
-- YAML 1.2.
use Rattle.std.specs.Prelude.{ℕ, ◌+◌, Bool, true, false, ◌&&◌, ◌||◌, not, List, [], ◌∷◌, ◌++◌, Option, Some, None, if◌then◌else◌, ◌==◌, nat_lt, nat_le, drop}
use Rattle.std.specs.List.{prefix_len}
use Rattle.sim_base.specs.Ascii.{ampersand, asterisk, full_stop, hyphen, number_sign, percent_sign, vertical_bar}
use Rattle.yaml_tokens.specs.Lines.{begins_with}
use Rattle.yaml_tokens.specs.Scalars.{is_space, is_nothing, at_gap, after_spaces, at_end, at_colon, scalar_at, plain_value, why_not}
use Rattle.yaml_tokens.specs.Literals.{chomp_at, chomp_len, is_digit_first, is_blank, indent}
use Rattle.yaml_tokens.specs.Anchors.{name_len, name_at, after_name, has_name}
use Rattle.yaml_tokens.specs.Pieces.{flow_at, is_bracket, why_bracket}
use Rattle.yaml_tokens.specs.declared.token.Token.{Token}
use Rattle.yaml_tokens.specs.declared.token.Token.TheVariants.{Dash, Key, Scalar, Anchor, Alias, Bar, Body, Form, OddToken}
use Rattle.yaml_tokens.specs.declared.place.LinePlace.{LinePlace}
use Rattle.yaml_tokens.specs.declared.place.LinePlace.TheVariants.{Outside, Inside}
use Rattle.yaml_tokens.specs.declared.scan.Scan.{Scan}
use Rattle.yaml_tokens.specs.declared.scan.Scan.TheVariants.{Plain, Quoted, Refused}
use Rattle.yaml_tokens.specs.declared.odd.Odd.{Odd}
use Rattle.yaml_tokens.specs.declared.odd.Odd.TheVariants as odd

abbrev pub refused : ℕ → ℕ → Odd → List Token
refused line column why = OddToken line column why ∷ []

-- ---- behind a value

-- why nothing of this may stand behind a value on its line
abbrev pub why_behind : List ℕ → Odd
why_behind [] = odd.Syntax
why_behind (b ∷ bytes) = if is_bracket b then why_bracket (flow_at (b ∷ bytes)).pieces else why_not (scalar_at (b ∷ bytes))

-- what stands behind a value on its line: nothing, or what no layout has
abbrev pub behind_value : ℕ → List ℕ → List Token
behind_value line rest = if at_end rest then [] else refused line 0 (why_behind (after_spaces rest))

-- what stands behind a bar: nothing, or what no layout has
abbrev pub behind_bar : ℕ → List ℕ → List Token
behind_bar line rest = if is_digit_first rest then refused line 0 odd.Unsupported else behind_value line rest

-- ---- values that are no keys

abbrev pub alias_tokens : ℕ → ℕ → List ℕ → List Token
alias_tokens line column bytes = if has_name at_gap bytes then Alias line column (name_at bytes) ∷ behind_value line (after_name bytes) else refused line column odd.Syntax

abbrev pub bar_tokens : ℕ → ℕ → List ℕ → List Token
bar_tokens line column bytes = Bar line column (chomp_at bytes) ∷ behind_bar line (drop (chomp_len (chomp_at bytes)) bytes)

abbrev pub flow_tokens : ℕ → ℕ → List ℕ → List Token
flow_tokens line column bytes = Form line column (flow_at bytes).pieces ∷ behind_value line (drop (flow_at bytes).len bytes)

-- `*`, `|`, `[`, `{`; and `&` where no name may stand
abbrev pub is_node_indicator : ℕ → Bool
is_node_indicator b = is_bracket b || ((b == asterisk) || ((b == vertical_bar) || (b == ampersand)))

-- what begins with one of those
abbrev pub indicated : ℕ → ℕ → ℕ → List ℕ → List Token
indicated line column b bytes = if is_bracket b then flow_tokens line column (b ∷ bytes)
    else (if b == asterisk then alias_tokens line column bytes
    else (if b == vertical_bar then bar_tokens line column bytes else refused line column odd.Syntax))

abbrev pub scalar_tokens : ℕ → ℕ → Option (List ℕ) → List ℕ → List Token
scalar_tokens line column text rest = Scalar line column text ∷ behind_value line rest

-- ---- a key's value on the key's line

abbrev pub value_tokens_of : ℕ → ℕ → List ℕ → Scan → List Token
value_tokens_of line column bytes (Plain text len) = scalar_tokens line column (plain_value text) (drop len bytes)
value_tokens_of line column bytes (Quoted text len) = scalar_tokens line column (Some text) (drop len bytes)
value_tokens_of line column bytes (Refused why) = refused line column why

-- a value without a name; nothing, and a comment, have no tokens
abbrev pub bare_value : ℕ → ℕ → List ℕ → List Token
bare_value line column [] = []
bare_value line column (b ∷ bytes) = if b == number_sign then []
    else (if is_node_indicator b then indicated line column b bytes
    else value_tokens_of line column (b ∷ bytes) (scalar_at (b ∷ bytes)))

abbrev pub behind_spaces : (ℕ → List ℕ → List Token) → ℕ → List ℕ → List Token
behind_spaces f column bytes = f (column + prefix_len is_space bytes) (after_spaces bytes)

-- a value, or a name with a value or nothing behind it
abbrev pub named_value : ℕ → ℕ → List ℕ → List Token
named_value line column [] = []
named_value line column (b ∷ bytes) = if (b == ampersand) && has_name at_gap bytes then Anchor line column (name_at bytes) ∷ behind_spaces (bare_value line) (column + (1 + name_len bytes)) (after_name bytes)
    else bare_value line column (b ∷ bytes)

-- what stands behind a key's colon
abbrev pub value_tokens : ℕ → ℕ → List ℕ → List Token
value_tokens line column bytes = behind_spaces (named_value line) column bytes

-- ---- a node

-- a key with its value
abbrev pub pair_tokens : ℕ → ℕ → List ℕ → List ℕ → ℕ → List Token
pair_tokens line column text bytes len = Key line column text ∷ value_tokens line (column + (len + (1 + prefix_len is_space (drop len bytes)))) (drop 1 (after_spaces (drop len bytes)))

-- Why a scalar without its colon can't stand before this: where a key may stand, what stands behind it decides.
abbrev pub unkeyed : Odd → Odd
unkeyed odd.Unsupported = odd.Unkeyed
unkeyed odd.Unkeyed = odd.Syntax
unkeyed odd.Indicator = odd.Syntax
unkeyed odd.Syntax = odd.Syntax

-- a scalar without a colon: with nothing behind it, or one that no layout has
abbrev pub lone_tokens : ℕ → ℕ → Option (List ℕ) → List ℕ → List Token
lone_tokens line column text rest = if at_end rest then Scalar line column text ∷ [] else refused line column (unkeyed (why_behind (after_spaces rest)))

-- a key with its value, or a lone scalar
abbrev pub row_tokens : ℕ → ℕ → List ℕ → Option (List ℕ) → List ℕ → ℕ → List Token
row_tokens line column text value bytes len = if at_colon (drop len bytes) then pair_tokens line column text bytes len
    else lone_tokens line column value (drop len bytes)

abbrev pub row_tokens_of : ℕ → ℕ → List ℕ → Scan → List Token
row_tokens_of line column bytes (Plain text len) = row_tokens line column text (plain_value text) bytes len
row_tokens_of line column bytes (Quoted text len) = row_tokens line column text (Some text) bytes len
row_tokens_of line column bytes (Refused why) = refused line column why

-- a row, or a value without a name
abbrev pub last_tokens : ℕ → ℕ → ℕ → List ℕ → List Token
last_tokens line column b bytes = if b == number_sign then []
    else (if is_node_indicator b then indicated line column b bytes
    else row_tokens_of line column (b ∷ bytes) (scalar_at (b ∷ bytes)))

abbrev pub is_name_indicator : ℕ → List ℕ → Bool
is_name_indicator b bytes = (b == ampersand) && has_name at_gap bytes

abbrev pub last_node : ℕ → ℕ → List ℕ → List Token
last_node line column [] = []
last_node line column (b ∷ bytes) = last_tokens line column b bytes

-- a row or a value, or a name with a row, a value or nothing behind it
abbrev pub named_node : ℕ → ℕ → ℕ → List ℕ → List Token
named_node line column b bytes = if is_name_indicator b bytes then Anchor line column (name_at bytes) ∷ behind_spaces (last_node line) (column + (1 + name_len bytes)) (after_name bytes)
    else last_tokens line column b bytes

-- `-` before a space or the line's end
abbrev pub is_dash : ℕ → List ℕ → Bool
is_dash b bytes = (b == hyphen) && at_gap bytes

-- The tokens of a line from a column on, where a node may begin: dashes, and behind them a row, a value or a name.
-- Nothing, and a comment, have none.
unfoldable pub node_tokens : ℕ → ℕ → List ℕ → List Token
node_tokens line column [] = []
node_tokens line column (b ∷ bytes) = if is_space b then node_tokens line (1 + column) bytes
    else (if is_dash b bytes then Dash line column ∷ node_tokens line (1 + column) bytes
    else named_node line column b bytes)

-- ---- lines

-- whether a line is neither blank nor a comment
abbrev pub has_content : List ℕ → Bool
has_content bytes = not (is_nothing (after_spaces bytes) || begins_with number_sign (after_spaces bytes))

-- a marker: three such bytes at the line's start, before a space or the line's end
abbrev pub is_marker : ℕ → List ℕ → Bool
is_marker b bytes = (begins_with b bytes && begins_with b (drop 1 bytes)) && (begins_with b (drop 2 bytes) && at_gap (drop 3 bytes))

-- `...`, and a `---` that isn't the first content line
abbrev pub is_late_marker : Bool → List ℕ → Bool
is_late_marker begun bytes = is_marker full_stop bytes || (is_marker hyphen bytes && begun)

-- `---` as the first content line, with spaces or a comment behind it at most
abbrev pub begins_document : Bool → List ℕ → Bool
begins_document begun bytes = is_marker hyphen bytes && (not begun && at_end (drop 3 bytes))

-- A line stands outside of literal blocks, behind a last key or dash at some column, if any; or inside of the block
-- of a bar, at the block's own column once a line of it isn't blank.
abbrev pub head_of : LinePlace → Option ℕ
head_of (Outside head) = head
head_of (Inside bar head column) = head

-- A block stands deeper than the key or dash whose value it is; at the root it may stand at any column.
abbrev pub is_deeper : Option ℕ → ℕ → Bool
is_deeper None n = true
is_deeper (Some head) n = nat_lt head n

-- no line of a block stands left of it
abbrev pub stands_in : Option ℕ → Option ℕ → ℕ → Bool
stands_in head None n = is_deeper head n
stands_in head (Some column) n = nat_le column n

-- a line of a literal block: a blank one, or one that doesn't stand left of the block
abbrev pub is_body : LinePlace → List ℕ → Bool
is_body (Outside head) bytes = false
is_body (Inside bar head column) bytes = is_blank bytes || stands_in head column (indent bytes)

abbrev pub bar_column : LinePlace → ℕ
bar_column (Outside head) = 0
bar_column (Inside bar head column) = bar

-- the block's column is that of its first line that isn't blank
abbrev pub column_behind : Option ℕ → List ℕ → Option ℕ
column_behind None bytes = if is_blank bytes then None else Some (indent bytes)
column_behind (Some column) bytes = Some column

-- behind a line of the block
abbrev pub place_inside : LinePlace → List ℕ → LinePlace
place_inside (Outside head) bytes = Outside head
place_inside (Inside bar head column) bytes = Inside bar head (column_behind column bytes)

-- behind tokens
abbrev pub place_behind : LinePlace → List Token → LinePlace
place_behind place [] = place
place_behind place (Dash line column ∷ tokens) = place_behind (Outside (Some column)) tokens
place_behind place (Key line column text ∷ tokens) = place_behind (Outside (Some column)) tokens
place_behind place (Bar line column chomp ∷ tokens) = place_behind (Inside column (head_of place) None) tokens
place_behind place (_ ∷ tokens) = place_behind place tokens

-- The tokens of a line. `---` may be the first content line, and `--- x` there is a scalar; a later marker is
-- unsupported, in a literal block too, and `%` at column 0 outside of one. In the first argument stands whether an
-- earlier line has content.
unfoldable pub line_tokens : Bool → LinePlace → ℕ → List ℕ → List Token
line_tokens begun place line bytes = if is_late_marker begun bytes then refused line 0 odd.Unsupported
    else (if begins_document begun bytes then []
    else (if is_body place bytes then Body line (bar_column place) bytes ∷ []
    else (if begins_with percent_sign bytes then refused line 0 odd.Unsupported
    else node_tokens line 0 bytes)))

-- where the next line stands, behind a line that has these tokens
unfoldable pub place_after : LinePlace → List ℕ → List Token → LinePlace
place_after place bytes tokens = if is_body place bytes then place_inside place bytes else place_behind (Outside (head_of place)) tokens

abbrev pub next_place : Bool → LinePlace → ℕ → List ℕ → LinePlace
next_place begun place line bytes = place_after place bytes (line_tokens begun place line bytes)

-- the tokens of lines, of which the first has this number
unfoldable pub tokens_from : Bool → LinePlace → ℕ → List (List ℕ) → List Token
tokens_from begun place number [] = []
tokens_from begun place number (line ∷ lines) = line_tokens begun place number line ++ tokens_from (begun || has_content line) (next_place begun place number line) (1 + number) lines

abbrev pub tokens_of : List (List ℕ) → List Token
tokens_of lines = tokens_from false (Outside None) 1 lines
