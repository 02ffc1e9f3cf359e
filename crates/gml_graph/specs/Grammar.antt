-- The grammar of pairs, from pairs to tokens: a key, and behind it a number, a text, or pairs between brackets. Lists lie
-- at most 16 deep.
use Rattle.std.specs.Prelude.{◌≡◌, ℕ, ◌+◌, ◌≤◌, ◌⊎◌, max, List, [], ◌∷◌, ◌++◌}
use Rattle.gml_graph.specs.declared.fault.GmlFault.{GmlFault}
use Rattle.gml_graph.specs.declared.fault.GmlKind.TheVariants.{Syntax}
use Rattle.gml_graph.specs.declared.number.Decimal.{Decimal}
use Rattle.gml_graph.specs.declared.token.Key.{Key}
use Rattle.gml_graph.specs.declared.token.Quoted.{Quoted}
use Rattle.gml_graph.specs.declared.token.Token.{Token}
use Rattle.gml_graph.specs.declared.token.Token.TheVariants.{Name, Number, Text, Open, Close, Unclosed, Odd}
use Rattle.gml_graph.specs.declared.token.Lexeme.{Lexeme}
use Rattle.gml_graph.specs.declared.outline.Value.TheVariants as values
use Rattle.gml_graph.specs.declared.outline.OutlineRow.{OutlineRow}
use Rattle.gml_graph.specs.Token.{quoted}
use Rattle.gml_graph.specs.Tokens.{lexeme}
use Rattle.gml_graph.specs.Limits.{greatest_depth}

-- pairs, with the lines on which their tokens begin
pub data Pairs : Type 0 where
  no_pairs : Pairs
  with_number : (line : ℕ) (key : Key) (at : ℕ) (number : Decimal) (behind : Pairs) → Pairs
  with_text : (line : ℕ) (key : Key) (at : ℕ) (text : Quoted) (behind : Pairs) → Pairs
  with_list : (line : ℕ) (key : Key) (at : ℕ) (inner : Pairs) (end : ℕ) (behind : Pairs) → Pairs

-- the tokens that spell pairs
abbrev pub spelled : Pairs → List Lexeme
spelled no_pairs = []
spelled (with_number line key at number behind) = lexeme line (Name key) ∷ lexeme at (Number number) ∷ spelled behind
spelled (with_text line key at text behind) = lexeme line (Name key) ∷ lexeme at (Text text) ∷ spelled behind
spelled (with_list line key at inner end behind) = lexeme line (Name key) ∷ lexeme at Open ∷ (spelled inner ++ lexeme end Close ∷ spelled behind)

-- how deep their lists lie
abbrev pub height : Pairs → ℕ
height no_pairs = 0
height (with_number line key at number behind) = height behind
height (with_text line key at text behind) = height behind
height (with_list line key at inner end behind) = max (1 + height inner) (height behind)

-- their rows, each pair at its depth, a list before its pairs
abbrev pub rows_of : ℕ → Pairs → List OutlineRow
rows_of depth no_pairs = []
rows_of depth (with_number line key at number behind) = record { depth = depth; line = line; key = key; value = values.Number number } ∷ rows_of depth behind
rows_of depth (with_text line key at text behind) = record { depth = depth; line = line; key = key; value = values.Text text } ∷ rows_of depth behind
rows_of depth (with_list line key at inner end behind) = record { depth = depth; line = line; key = key; value = values.List } ∷ (rows_of (depth + 1) inner ++ rows_of depth behind)

-- The tokens spell pairs that have these rows.
pub record Spells (tokens : List Lexeme) (rows : List OutlineRow) : Type 0 where
  pub pairs : Pairs
  pub as_tokens : spelled pairs ≡ tokens
  pub nested : height pairs ≤ greatest_depth
  pub as_rows : rows_of 0 pairs ≡ rows

-- The tokens, and some behind them, spell pairs.
pub record Begins (tokens : List Lexeme) : Type 0 where
  pub pairs : Pairs
  pub more : List Lexeme
  pub as_tokens : spelled pairs ≡ tokens ++ more
  pub nested : height pairs ≤ greatest_depth

-- a text that lacks its second quote, as if it had it
abbrev pub closed_token : Token → Token
closed_token Unclosed = Text (quoted [])
closed_token (Name key) = Name key
closed_token (Number number) = Number number
closed_token (Text text) = Text text
closed_token Open = Open
closed_token Close = Close
closed_token Odd = Odd

abbrev pub closed : Lexeme → Lexeme
closed x = lexeme x.line (closed_token x.token)

-- A token on this line is the first that can't stand where it stands.
pub record IsMisplaced (tokens : List Lexeme) (line : ℕ) : Type 0 where
  pub before : List Lexeme
  pub token : Lexeme
  pub behind : List Lexeme
  pub at : tokens ≡ before ++ token ∷ behind
  pub may : Begins before
  pub may_not : ¬ Begins (before ++ closed token ∷ [])
  pub same_line : token.line ≡ line

-- A text lacks its second quote where a text can stand.
pub record LacksQuote (tokens : List Lexeme) : Type 0 where
  pub before : List Lexeme
  pub token : Lexeme
  pub behind : List Lexeme
  pub at : tokens ≡ before ++ token ∷ behind
  pub lacks : token.token ≡ Unclosed
  pub may : Begins (before ++ closed token ∷ [])

-- The tokens spell no pairs, but with more behind them they would.
pub record EndsEarly (tokens : List Lexeme) : Type 0 where
  pub may : Begins tokens
  pub not_whole : (rows : List OutlineRow) → ¬ Spells tokens rows

-- The first fault of the tokens of a text with this last line: a token that can't stand where it stands, or the text ends
-- too early.
abbrev pub IsFirstFault : List Lexeme → ℕ → GmlFault → Type 0
IsFirstFault tokens last fault =
    (fault.kind ≡ Syntax) × (IsMisplaced tokens fault.line ⊎ ((fault.line ≡ last) × (LacksQuote tokens ⊎ EndsEarly tokens)))
