-- The pieces of a flow form on its line, as this project's own profile of YAML 1.2 (7.4) has them.
use Rattle.std.specs.Prelude.{ℕ, ◌+◌, ◌-◌, Bool, true, false, ◌&&◌, ◌||◌, List, [], ◌∷◌, Option, Some, None, if◌then◌else◌, ◌==◌, nat_le, length, take, drop, zero, suc}
use Rattle.std.specs.List.{prefix_len}
use Rattle.sim_base.specs.Ascii.{ampersand, apostrophe, asterisk, comma, exclamation_mark, greater_than, left_brace, left_bracket, number_sign, quotation_mark, right_brace, right_bracket, space, vertical_bar}
use Rattle.yaml_tokens.specs.Lines.{begins_with}
use Rattle.yaml_tokens.specs.Scalars.{is_space, at_colon, plain_ends, plain_value, without_spaces, single_quoted, double_len, single_scan, double_scan, is_unplain, asks}
use Rattle.yaml_tokens.specs.Anchors.{name_len, name_at, has_name}
use Rattle.yaml_tokens.specs.declared.scan.Scan.{Scan}
use Rattle.yaml_tokens.specs.declared.scan.Scan.TheVariants.{Plain, Quoted, Refused}
use Rattle.yaml_tokens.specs.declared.odd.Odd.{Odd}
use Rattle.yaml_tokens.specs.declared.odd.Odd.TheVariants as odd
use Rattle.yaml_tokens.specs.declared.piece.Bracket.TheVariants.{Square, Curly}
use Rattle.yaml_tokens.specs.declared.piece.Piece.{Piece}
use Rattle.yaml_tokens.specs.declared.piece.Piece.TheVariants.{Opening, Closing, Comma, CellKey, CellScalar, CellAnchor, CellAlias, OddPiece}

-- ---- scalars inside brackets

-- `,`, `]` or `}`
abbrev pub is_separator : ℕ → Bool
is_separator b = (b == comma) || ((b == right_bracket) || (b == right_brace))

-- A plain scalar in a flow form ends before `,`, `]` and `}` too.
abbrev pub cell_ends : ℕ → List ℕ → Bool
cell_ends b bytes = plain_ends b bytes || is_separator b

unfoldable pub cell_len : List ℕ → ℕ
cell_len [] = 0
cell_len (b ∷ bytes) = if cell_ends b bytes then 0 else 1 + cell_len bytes

abbrev pub cell_text : List ℕ → List ℕ
cell_text bytes = without_spaces (take (cell_len bytes) bytes)

-- `!` and `>`: values beyond the profile
abbrev pub is_foreign_indicator : ℕ → Bool
is_foreign_indicator b = (b == exclamation_mark) || (b == greater_than)

-- `&` and `*` without a name, and `|`
abbrev pub is_lone_indicator : ℕ → Bool
is_lone_indicator b = (b == ampersand) || ((b == asterisk) || (b == vertical_bar))

unfoldable pub bare_cell : ℕ → List ℕ → Scan
bare_cell b bytes = if is_foreign_indicator b then Refused odd.Indicator
    else (if asks b bytes then Refused odd.Unsupported
    else (if is_lone_indicator b || is_unplain b bytes then Refused odd.Syntax
    else Plain (cell_text (b ∷ bytes)) (cell_len (b ∷ bytes))))

unfoldable pub cell_scan : ℕ → List ℕ → Scan
cell_scan b bytes = if b == apostrophe then single_scan (single_quoted false bytes)
    else (if b == quotation_mark then double_scan bytes (double_len false bytes)
    else bare_cell b bytes)

-- ---- pieces from the left

abbrev pub closed_len : List ℕ → Option ℕ → ℕ
closed_len bytes None = length bytes
closed_len bytes (Some len) = 1 + len

-- How many bytes a quote that is no scalar takes behind its first: to the quote that closes it, or to the line's
-- end. Any other piece that no form has takes none.
abbrev pub refused_len : ℕ → List ℕ → ℕ
refused_len b bytes = if b == quotation_mark then closed_len bytes (double_len false bytes)
    else (if b == apostrophe then length bytes else 0)

-- A step over a line: a piece, or none for a space, and how many bytes are taken behind the first.
pub record CellStep : Type 0 where
  pub piece : Option Piece
  pub skip : ℕ

-- a key, or a scalar that is none
abbrev pub word_step : List ℕ → Option (List ℕ) → List ℕ → ℕ → CellStep
word_step text value bytes len = record { piece = Some (if at_colon (drop len bytes) then CellKey text else CellScalar value); skip = (if at_colon (drop len bytes) then len + (prefix_len is_space (drop len bytes) + 1) else len) - 1 }

abbrev pub scan_step : ℕ → List ℕ → Scan → CellStep
scan_step b bytes (Plain text len) = word_step text (plain_value text) (b ∷ bytes) len
scan_step b bytes (Quoted text len) = word_step text (Some text) (b ∷ bytes) len
scan_step b bytes (Refused why) = record { piece = Some (OddPiece why); skip = refused_len b bytes }

-- a name in a flow form ends before a space, the line's end, `,`, `]` and `}`
abbrev pub at_cell_gap : List ℕ → Bool
at_cell_gap [] = true
at_cell_gap (b ∷ _) = (b == space) || is_separator b

abbrev pub one_byte : Piece → CellStep
one_byte piece = record { piece = Some piece; skip = 0 }

-- The step at these bytes. A comment, `#` behind a space, goes to the line's end.
abbrev pub step_at : ℕ → List ℕ → CellStep
step_at b bytes = if b == space then record { piece = None; skip = if begins_with number_sign bytes then length bytes else 0 }
    else (if b == left_bracket then one_byte (Opening Square)
    else (if b == right_bracket then one_byte (Closing Square)
    else (if b == left_brace then one_byte (Opening Curly)
    else (if b == right_brace then one_byte (Closing Curly)
    else (if b == comma then one_byte Comma
    else (if (b == ampersand) && has_name at_cell_gap bytes then record { piece = Some (CellAnchor (name_at bytes)); skip = name_len bytes }
    else (if (b == asterisk) && has_name at_cell_gap bytes then record { piece = Some (CellAlias (name_at bytes)); skip = name_len bytes }
    else scan_step b bytes (cell_scan b bytes))))))))

-- how many brackets are open behind a piece
abbrev pub open_after : Option Piece → ℕ → ℕ
open_after (Some (Opening bracket)) n = n + 1
open_after (Some (Closing bracket)) n = n - 1
open_after _ n = n

-- the pieces of a flow form, and how many bytes it takes
pub record Found : Type 0 where
  pub pieces : List Piece
  pub len : ℕ

abbrev pub put_piece : Option Piece → List Piece → List Piece
put_piece None pieces = pieces
put_piece (Some piece) pieces = piece ∷ pieces

abbrev pub is_last : Option Piece → ℕ → Bool
is_last (Some (Closing bracket)) n = nat_le n 1
is_last _ n = false

-- a step before what is found behind it, unless it closes the last bracket
abbrev pub with_step : CellStep → ℕ → Found → Found
with_step step n found = record { pieces = put_piece step.piece (if is_last step.piece n then [] else found.pieces); len = if is_last step.piece n then 1 else 1 + found.len }

abbrev pub one_longer : Found → Found
one_longer found = record found { len = 1 + found.len }

-- The pieces from a place on, to the bracket that closes the first one, or to the line's end where none does. In the first argument stands how many bytes
-- are taken already, in the second how many brackets are open.
unfoldable pub found_at : ℕ → ℕ → List ℕ → Found
found_at skip n [] = record { pieces = []; len = 0 }
found_at zero n (b ∷ bytes) = with_step (step_at b bytes) n (found_at (step_at b bytes).skip (open_after (step_at b bytes).piece n) bytes)
found_at (suc skip) n (b ∷ bytes) = one_longer (found_at skip n bytes)

-- the flow form at the front of bytes that begin with a bracket
abbrev pub flow_at : List ℕ → Found
flow_at bytes = found_at 0 0 bytes

-- whether a bracket is closed on its line, by the pieces behind it: in the first argument stands how many
-- brackets are open since
abbrev pub closes_at : ℕ → List Piece → Bool
closes_at n [] = false
closes_at n (Opening bracket ∷ pieces) = closes_at (n + 1) pieces
closes_at n (Closing bracket ∷ pieces) = (n == 0) || closes_at (n - 1) pieces
closes_at n (_ ∷ pieces) = closes_at n pieces

abbrev pub is_bracket : ℕ → Bool
is_bracket b = (b == left_bracket) || (b == left_brace)

-- a bracket that can't stand where it is: unsupported where it isn't closed on its line
abbrev pub why_bracket : List Piece → Odd
why_bracket [] = odd.Syntax
why_bracket (_ ∷ pieces) = if closes_at 0 pieces then odd.Syntax else odd.Unsupported
