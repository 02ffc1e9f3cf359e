-- Checking the pieces of a flow form from the left: what may come next, and the brackets that are open, the innermost
-- first.
use Rattle.std.specs.Prelude.{Bool, true, false, not, List, [], ◌∷◌, Option, Some, None, if◌then◌else◌}
use Rattle.yaml_tokens.specs.Pieces.{closes_at}
use Rattle.yaml_tokens.specs.declared.piece.Bracket.{Bracket}
use Rattle.yaml_tokens.specs.declared.piece.Bracket.TheVariants.{Square, Curly}
use Rattle.yaml_tokens.specs.declared.piece.Piece.{Piece}
use Rattle.yaml_tokens.specs.declared.piece.Piece.TheVariants.{Opening, Closing, Comma, CellKey, CellScalar, CellAnchor, CellAlias, OddPiece}
use Rattle.yaml_tree.specs.Flows.{kind_behind_key}
use Rattle.yaml_tree.specs.declared.shape.Want.{Want}
use Rattle.yaml_tree.specs.declared.shape.Want.TheVariants as want
use Rattle.yaml_tree.specs.declared.shape.Shape.{Shape}
use Rattle.yaml_tree.specs.declared.fault.FaultKind.{FaultKind}
use Rattle.yaml_tree.specs.declared.fault.FaultKind.TheVariants.{Syntax, Unsupported}
use Rattle.yaml_tokens.specs.declared.odd.Odd.TheVariants as odd

abbrev pub in_square : List Bracket → Bool
in_square [] = false
in_square (Square ∷ _) = true
in_square (Curly ∷ _) = false

abbrev pub is_bracket_of : Bracket → List Bracket → Bool
is_bracket_of bracket [] = false
is_bracket_of Square (Square ∷ _) = true
is_bracket_of Curly (Curly ∷ _) = true
is_bracket_of _ (_ ∷ _) = false

-- whether a value may come
abbrev pub takes_value : Want → List Bracket → Bool
takes_value want.Form brackets = false
takes_value want.Cell brackets = in_square brackets
takes_value want.Value brackets = true
takes_value want.Named brackets = true
takes_value want.End brackets = false
takes_value want.Nothing brackets = false

-- whether a bracket may open
abbrev pub takes_form : Want → List Bracket → Bool
takes_form want.Form brackets = true
takes_form other brackets = takes_value other brackets

-- whether an anchor, or an alias, may come
abbrev pub takes_name : Want → List Bracket → Bool
takes_name want.Cell brackets = in_square brackets
takes_name want.Value brackets = true
takes_name _ brackets = false

abbrev pub takes_key : Want → List Bracket → Bool
takes_key want.Cell brackets = not (in_square brackets)
takes_key _ brackets = false

abbrev pub takes_comma : Want → Bool
takes_comma want.Named = true
takes_comma want.End = true
takes_comma _ = false

-- whether the innermost bracket may close
abbrev pub may_close : Want → Bool
may_close want.Cell = true
may_close want.Named = true
may_close want.End = true
may_close _ = false

abbrev pub takes_closing : Bracket → Shape → Bool
takes_closing bracket shape = if may_close shape.want then is_bracket_of bracket shape.brackets else false

-- whether the piece may come
abbrev pub takes_piece : Piece → Shape → Bool
takes_piece (Opening bracket) shape = takes_form shape.want shape.brackets
takes_piece (Closing bracket) shape = takes_closing bracket shape
takes_piece Comma shape = takes_comma shape.want
takes_piece (CellKey text) shape = takes_key shape.want shape.brackets
takes_piece (CellScalar text) shape = takes_value shape.want shape.brackets
takes_piece (CellAnchor text) shape = takes_name shape.want shape.brackets
takes_piece (CellAlias text) shape = takes_name shape.want shape.brackets
takes_piece (OddPiece why) shape = false

abbrev pub closed : List Bracket → Shape
closed [] = record { want = want.Nothing; brackets = [] }
closed (_ ∷ []) = record { want = want.Nothing; brackets = [] }
closed (_ ∷ outer ∷ brackets) = record { want = want.End; brackets = outer ∷ brackets }

-- behind a piece that may come
abbrev pub behind : Piece → Shape → Shape
behind (Opening bracket) shape = record { want = want.Cell; brackets = bracket ∷ shape.brackets }
behind (Closing bracket) shape = closed shape.brackets
behind Comma shape = record shape { want = want.Cell }
behind (CellKey text) shape = record shape { want = want.Value }
behind (CellScalar text) shape = record shape { want = want.End }
behind (CellAnchor text) shape = record shape { want = want.Named }
behind (CellAlias text) shape = record shape { want = want.End }
behind (OddPiece why) shape = shape

-- the kind of fault of a piece that may not come; behind it stands the rest
abbrev pub piece_fault : Piece → List Piece → Shape → FaultKind
piece_fault (Opening bracket) rest shape = if closes_at 0 rest then Syntax else Unsupported
piece_fault (CellScalar text) rest shape = if takes_key shape.want shape.brackets then kind_behind_key rest else Syntax
piece_fault (OddPiece odd.Unsupported) rest shape = Unsupported
piece_fault (OddPiece odd.Indicator) rest shape = if takes_value shape.want shape.brackets then Unsupported else Syntax
piece_fault _ rest shape = Syntax

abbrev pub is_done : Want → Bool
is_done want.Nothing = true
is_done _ = false

-- The fault of pieces that are no flow form's, from a place on. Where they end inside of a bracket that is unsupported.
unfoldable pub fault_from : List Piece → Shape → Option FaultKind
fault_from [] shape = if is_done shape.want then None else Some Unsupported
fault_from (piece ∷ pieces) shape = if takes_piece piece shape then fault_from pieces (behind piece shape)
    else Some (piece_fault piece pieces shape)

abbrev pub flow_fault : List Piece → Option FaultKind
flow_fault pieces = fault_from pieces (record { want = want.Form; brackets = [] })
