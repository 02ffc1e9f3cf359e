-- Flow forms: how one is spelled by the pieces of its line, and the fault of pieces that spell none. The rule is
-- that of flow collections in YAML 1.2 (7.4), in this project's own profile.
use Rattle.std.specs.Prelude.{◌≡◌, ◌⊎◌, Bool, true, false, List, [], ◌∷◌, ◌++◌, None, if◌then◌else◌, not}
use Rattle.yaml_tokens.specs.Pieces.{closes_at}
use Rattle.yaml_tokens.specs.declared.piece.Bracket.{Bracket}
use Rattle.yaml_tokens.specs.declared.piece.Piece.{Piece}
use Rattle.yaml_tokens.specs.declared.piece.Bracket.TheVariants.{Square, Curly}
use Rattle.yaml_tokens.specs.declared.piece.Piece.TheVariants.{Opening, Closing, Comma, CellKey, CellScalar, CellAnchor, CellAlias, OddPiece}
use Rattle.yaml_tree.specs.declared.fault.FaultKind.{FaultKind}
use Rattle.yaml_tree.specs.declared.fault.FaultKind.TheVariants.{Syntax, Unsupported}
use Rattle.yaml_tokens.specs.declared.odd.Odd.TheVariants as odd

-- A flow form as it is written: no value; a scalar or an alias; a value behind its name; a last item, or a last key
-- with its value, behind the earlier ones; brackets around items or keys, with or without a comma at the end.
-- `absent` stands before the first item too.
pub data Flow : Type 0 where
  absent : Flow
  word : Piece → Flow
  called : Piece → Flow → Flow
  item : Flow → Flow → Flow
  pair : Flow → Piece → Flow → Flow
  form : Bracket → Flow → Bool → Flow

abbrev pub is_absent : Flow → Bool
is_absent absent = true
is_absent _ = false

abbrev pub comma_if : Bool → List Piece
comma_if b = if b then Comma ∷ [] else []

-- the pieces of a flow form, in order
abbrev pub spelling : Flow → List Piece
spelling absent = []
spelling (word piece) = piece ∷ []
spelling (called name value) = name ∷ spelling value
spelling (item before value) = spelling before ++ (comma_if (not (is_absent before)) ++ spelling value)
spelling (pair before key value) = spelling before ++ (comma_if (not (is_absent before)) ++ (key ∷ spelling value))
spelling (form bracket cells last) = Opening bracket ∷ (spelling cells ++ (comma_if last ++ (Closing bracket ∷ [])))

abbrev pub is_cell_word : Piece → Bool
is_cell_word (CellScalar text) = true
is_cell_word (CellAlias name) = true
is_cell_word _ = false

abbrev pub is_cell_key : Piece → Bool
is_cell_key (CellKey text) = true
is_cell_key _ = false

abbrev pub is_cell_name : Piece → Bool
is_cell_name (CellAnchor name) = true
is_cell_name _ = false

-- a name stands before a scalar, a form, or nothing: not before an alias or another name
abbrev pub may_be_called : Flow → Bool
may_be_called absent = true
may_be_called (word (CellScalar text)) = true
may_be_called (form bracket cells last) = true
may_be_called _ = false

abbrev pub has_cells : Flow → Bool
has_cells cells = not (is_absent cells)

abbrev mutual
  -- a value: a scalar, an alias, a form, or a name with a value or nothing behind it
  pub IsValue : Flow → Type 0
  IsValue absent = ⊥
  IsValue (word piece) = is_cell_word piece ≡ true
  IsValue (called name absent) = is_cell_name name ≡ true
  IsValue (called name value) = (is_cell_name name ≡ true) × (may_be_called value ≡ true) × IsValue value
  IsValue (item before value) = ⊥
  IsValue (pair before key value) = ⊥
  IsValue (form bracket cells last) = AreCells bracket cells × (last ≡ true → has_cells cells ≡ true)

  -- what stands between brackets: items between square ones, keys with values between curly ones
  pub AreCells : Bracket → Flow → Type 0
  AreCells bracket absent = Unit {0}
  AreCells bracket (word piece) = ⊥
  AreCells bracket (called name value) = ⊥
  AreCells bracket (item before value) = (bracket ≡ Square) × AreCells bracket before × IsValue value
  AreCells bracket (pair before key value) = (bracket ≡ Curly) × (is_cell_key key ≡ true) × AreCells bracket before × IsValue value
  AreCells bracket (form other cells last) = ⊥

abbrev pub IsForm : Flow → Type 0
IsForm (form bracket cells last) = IsValue (form bracket cells last)
IsForm _ = ⊥

-- these pieces, all of them, are those of the flow form
abbrev pub SpellsFlow : List Piece → Flow → Type 0
SpellsFlow pieces flow = (spelling flow ≡ pieces) × IsForm flow

-- a flow form begins with these pieces
abbrev pub FlowMayBegin : List Piece → Type 0
FlowMayBegin pieces = (rest : List Piece) × (flow : Flow) × SpellsFlow (pieces ++ rest) flow

-- the kind of fault of what stands behind a key without its colon
abbrev pub kind_behind_key : List Piece → FaultKind
kind_behind_key [] = Unsupported
kind_behind_key (Opening bracket ∷ rest) = if closes_at 0 rest then Syntax else Unsupported
kind_behind_key (OddPiece odd.Unsupported ∷ rest) = Unsupported
kind_behind_key _ = Syntax

-- The kind of fault where this piece can't stand behind the front; behind it stands the rest. A scalar where a key may
-- stand is one without its colon: what stands behind it is the first that can't.
abbrev pub IsPieceKind : List Piece → Piece → List Piece → FaultKind → Type 0
IsPieceKind front (Opening bracket) rest kind = kind ≡ (if closes_at 0 rest then Syntax else Unsupported)
IsPieceKind front (CellScalar text) rest kind = (FlowMayBegin (front ++ (CellKey [] ∷ [])) × (kind ≡ kind_behind_key rest)) ⊎ ((¬ FlowMayBegin (front ++ (CellKey [] ∷ []))) × (kind ≡ Syntax))
IsPieceKind front (OddPiece odd.Syntax) rest kind = kind ≡ Syntax
IsPieceKind front (OddPiece odd.Unsupported) rest kind = kind ≡ Unsupported
IsPieceKind front (OddPiece odd.Indicator) rest Unsupported = FlowMayBegin (front ++ (CellScalar None ∷ []))
IsPieceKind front (OddPiece odd.Indicator) rest Syntax = ¬ FlowMayBegin (front ++ (CellScalar None ∷ []))
IsPieceKind front (OddPiece odd.Indicator) rest _ = ⊥
IsPieceKind front _ rest kind = kind ≡ Syntax

-- the first piece that can't stand behind those before it tells the kind
pub record IsFirstMisfit (pieces : List Piece) (kind : FaultKind) : Type 0 where
  pub front : List Piece
  pub piece : Piece
  pub rest : List Piece
  pub parts : pieces ≡ front ++ (piece ∷ rest)
  pub begins : FlowMayBegin front
  pub ends : ¬ FlowMayBegin (front ++ (piece ∷ []))
  pub kind_is : IsPieceKind front piece rest kind

-- the line ends inside of a bracket, which is unsupported
pub record IsUnclosed (pieces : List Piece) (kind : FaultKind) : Type 0 where
  pub begins : FlowMayBegin pieces
  pub open_still : (flow : Flow) → ¬ SpellsFlow pieces flow
  pub kind_is : kind ≡ Unsupported

-- the pieces are no flow form's, and the fault is of this kind
abbrev pub IsFlowMisfit : List Piece → FaultKind → Type 0
IsFlowMisfit pieces kind = IsFirstMisfit pieces kind ⊎ IsUnclosed pieces kind
