-- Reading the pieces of a flow form one by one: the brackets that are open, what stands in them, and what may come
-- next.
use Rattle.std.specs.Prelude.{ℕ, Bool, true, false, List, [], ◌∷◌, Option, Some, None, if◌then◌else◌}
use Rattle.std.specs.Option.{option_and_then}
use Rattle.yaml_tokens.specs.declared.piece.Bracket.{Bracket}
use Rattle.yaml_tokens.specs.declared.piece.Piece.{Piece}
use Rattle.yaml_tokens.specs.declared.piece.Bracket.TheVariants.{Square, Curly}
use Rattle.yaml_tokens.specs.declared.piece.Piece.TheVariants.{Opening, Closing, Comma, CellKey, CellScalar, CellAnchor, CellAlias}
use Rattle.yaml_tree.specs.Flows.{Flow, has_cells}
use Rattle.yaml_tree.specs.Flows.Flow.{absent, word, called, item, pair, form}

-- where a value comes in its bracket: behind the items before it, or behind a key and the keys before that
pub data CellPlace : Type 0 where
  behind_items : Flow → CellPlace
  behind_key : Flow → List ℕ → CellPlace

-- a bracket that is open around another: where the inner one stands, and its name
pub data Slot : Type 0 where
  slot : CellPlace → Option (List ℕ) → Slot

-- A form that is read so far: none; inside of a bracket, behind its opening or a comma, behind a key, behind a name,
-- or behind a value; or whole. The brackets around it stand in a list, the innermost first.
pub data Shape : Type 0 where
  start : Shape
  cell_next : Bracket → Flow → List Slot → Shape
  value_next : Flow → List ℕ → List Slot → Shape
  named_next : CellPlace → List ℕ → List Slot → Shape
  end_next : Bracket → Flow → List Slot → Shape
  done : Flow → Shape

abbrev pub bracket_of : CellPlace → Bracket
bracket_of (behind_items cells) = Square
bracket_of (behind_key cells key) = Curly

abbrev pub same_bracket : Bracket → Bracket → Bool
same_bracket Square Square = true
same_bracket Curly Curly = true
same_bracket _ _ = false

abbrev pub with_name : Option (List ℕ) → Flow → Flow
with_name None value = value
with_name (Some name) value = called (CellAnchor name) value

-- the cells with the value that has come
abbrev pub filled : Flow → CellPlace → Flow
filled value (behind_items cells) = item cells value
filled value (behind_key cells key) = pair cells (CellKey key) value

abbrev pub put_value : Flow → CellPlace → List Slot → Shape
put_value value place outer = end_next (bracket_of place) (filled value place) outer

-- the form is closed
abbrev pub closed : Flow → List Slot → Shape
closed value [] = done value
closed value (slot place name ∷ outer) = put_value (with_name name value) place outer

abbrev pub closed_by : Bracket → Bracket → Flow → List Slot → Option Shape
closed_by other bracket value outer = if same_bracket other bracket then Some (closed value outer) else None

-- a piece behind a value
abbrev pub end_piece : Piece → Bracket → Flow → List Slot → Option Shape
end_piece Comma bracket cells outer = Some (cell_next bracket cells outer)
end_piece (Closing other) bracket cells outer = closed_by other bracket (form bracket cells false) outer
end_piece _ bracket cells outer = None

-- a piece behind a name
abbrev pub named_piece : Piece → CellPlace → List ℕ → List Slot → Option Shape
named_piece (Opening bracket) place name outer = Some (cell_next bracket absent (slot place (Some name) ∷ outer))
named_piece (CellScalar text) place name outer = Some (put_value (called (CellAnchor name) (word (CellScalar text))) place outer)
named_piece Comma place name outer = end_piece Comma (bracket_of place) (filled (called (CellAnchor name) absent) place) outer
named_piece (Closing other) place name outer = end_piece (Closing other) (bracket_of place) (filled (called (CellAnchor name) absent) place) outer
named_piece _ place name outer = None

-- a piece where a value comes
abbrev pub value_piece : Piece → CellPlace → List Slot → Option Shape
value_piece (Opening bracket) place outer = Some (cell_next bracket absent (slot place None ∷ outer))
value_piece (CellScalar text) place outer = Some (put_value (word (CellScalar text)) place outer)
value_piece (CellAnchor name) place outer = Some (named_next place name outer)
value_piece (CellAlias name) place outer = Some (put_value (word (CellAlias name)) place outer)
value_piece _ place outer = None

abbrev pub key_piece : Piece → Flow → List Slot → Option Shape
key_piece (CellKey key) cells outer = Some (value_next cells key outer)
key_piece _ cells outer = None

abbrev pub inner_piece : Piece → Bracket → Flow → List Slot → Option Shape
inner_piece piece Square cells outer = value_piece piece (behind_items cells) outer
inner_piece piece Curly cells outer = key_piece piece cells outer

-- a piece behind the opening bracket or a comma
abbrev pub cell_piece : Piece → Bracket → Flow → List Slot → Option Shape
cell_piece (Closing other) bracket cells outer = closed_by other bracket (form bracket cells (has_cells cells)) outer
cell_piece piece bracket cells outer = inner_piece piece bracket cells outer

abbrev pub begun_form : Piece → Option Shape
begun_form (Opening bracket) = Some (cell_next bracket absent [])
begun_form _ = None

-- a piece more
abbrev pub with_piece : Piece → Shape → Option Shape
with_piece piece start = begun_form piece
with_piece piece (cell_next bracket cells outer) = cell_piece piece bracket cells outer
with_piece piece (value_next cells key outer) = value_piece piece (behind_key cells key) outer
with_piece piece (named_next place name outer) = named_piece piece place name outer
with_piece piece (end_next bracket cells outer) = end_piece piece bracket cells outer
with_piece piece (done value) = None

abbrev pub with_pieces : List Piece → Shape → Option Shape
with_pieces [] shape = Some shape
with_pieces (piece ∷ pieces) shape = option_and_then (with_pieces pieces) (with_piece piece shape)
