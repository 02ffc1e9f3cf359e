-- Reading pieces one by one finds the flow form that they spell, the only one.
use Rattle.std.proofs.Common.{◌≡◌, ℕ, Bool, true, false, List, [], ◌∷◌, ◌++◌, Option, Some, None, refl, sym, ap, subst, ◌∙◌, append_assoc}
use Rattle.std.proofs.lemmas.Option.{none-some, same_Some, cond_some}
use Rattle.std.proofs.lemmas.Bool.{false≢true}
use Rattle.std.proofs.lemmas.List.{append-nil}
use Rattle.std.specs.Option.{option_and_then}
use Rattle.yaml_tokens.specs.declared.piece.Bracket.{Bracket}
use Rattle.yaml_tokens.specs.declared.piece.Piece.{Piece}
use Rattle.yaml_tokens.specs.declared.piece.Bracket.TheVariants.{Square, Curly}
use Rattle.yaml_tokens.specs.declared.piece.Piece.TheVariants.{Opening, Closing, Comma, CellKey, CellScalar, CellAnchor, CellAlias, OddPiece}
use Rattle.yaml_tree.specs.Flows.{Flow, spelling, comma_if, has_cells, is_cell_word, is_cell_key, is_cell_name, may_be_called, IsValue, AreCells, IsForm, SpellsFlow, FlowMayBegin}
use Rattle.yaml_tree.specs.Flows.Flow.{absent, word, called, item, pair, form}
use Rattle.yaml_tree.proofs.Lists.{chained}
use Rattle.yaml_tree.proofs.Shapes.{CellPlace, Slot, Shape, bracket_of, same_bracket, with_name, filled, put_value, closed, closed_by, end_piece, named_piece, value_piece, key_piece, inner_piece, cell_piece, begun_form, with_piece, with_pieces}
use Rattle.yaml_tree.proofs.Shapes.CellPlace.{behind_items, behind_key}
use Rattle.yaml_tree.proofs.Shapes.Slot.{slot}
use Rattle.yaml_tree.proofs.Shapes.Shape.{start, cell_next, value_next, named_next, end_next, done}
use Rattle.yaml_tree.proofs.WrittenLaws.{FlowReader}

-- ---- what is read so far, with pieces behind it

abbrev pub before_cell : Flow → List Piece → List Piece
before_cell cells rest = spelling cells ++ (comma_if (has_cells cells) ++ rest)

abbrev pub before_value : CellPlace → List Piece → List Piece
before_value (behind_items cells) rest = before_cell cells rest
before_value (behind_key cells key) rest = before_cell cells (CellKey key ∷ rest)

abbrev pub before_named : Option (List ℕ) → List Piece → List Piece
before_named None rest = rest
before_named (Some name) rest = CellAnchor name ∷ rest

abbrev pub before_inner : List Slot → List Piece → List Piece
before_inner [] rest = rest
before_inner (slot place name ∷ outer) rest = before_inner outer (Opening (bracket_of place) ∷ before_value place (before_named name rest))

abbrev pub so_far : Shape → List Piece → List Piece
so_far start rest = rest
so_far (cell_next bracket cells outer) rest = before_inner outer (Opening bracket ∷ before_cell cells rest)
so_far (value_next cells key outer) rest = before_inner outer (Opening Curly ∷ before_cell cells (CellKey key ∷ rest))
so_far (named_next place name outer) rest = before_inner outer (Opening (bracket_of place) ∷ before_value place (CellAnchor name ∷ rest))
so_far (end_next bracket cells outer) rest = before_inner outer (Opening bracket ∷ (spelling cells ++ rest))
so_far (done value) rest = spelling value ++ rest

-- ---- what is read so far may stand in a form

abbrev pub GoodPlace : CellPlace → Type 0
GoodPlace (behind_items cells) = AreCells Square cells
GoodPlace (behind_key cells key) = AreCells Curly cells

abbrev pub GoodSlots : List Slot → Type 0
GoodSlots [] = Unit {0}
GoodSlots (slot place name ∷ outer) = GoodPlace place × GoodSlots outer

abbrev pub GoodShape : Shape → Type 0
GoodShape start = Unit {0}
GoodShape (cell_next bracket cells outer) = AreCells bracket cells × GoodSlots outer
GoodShape (value_next cells key outer) = AreCells Curly cells × GoodSlots outer
GoodShape (named_next place name outer) = GoodPlace place × GoodSlots outer
GoodShape (end_next bracket cells outer) = AreCells bracket cells × (has_cells cells ≡ true) × GoodSlots outer
GoodShape (done value) = IsForm value

-- ---- what is read is spelled so

spelling_filled : (value : Flow) (place : CellPlace) (rest : List Piece) → spelling (filled value place) ++ rest ≡ before_value place (spelling value ++ rest)
spelling_filled value (behind_items cells) rest = append_assoc (spelling cells) (comma_if (has_cells cells) ++ spelling value) rest ∙ ap (λ l. spelling cells ++ l) (append_assoc (comma_if (has_cells cells)) (spelling value) rest)
spelling_filled value (behind_key cells key) rest = append_assoc (spelling cells) (comma_if (has_cells cells) ++ (CellKey key ∷ spelling value)) rest ∙ ap (λ l. spelling cells ++ l) (append_assoc (comma_if (has_cells cells)) (CellKey key ∷ spelling value) rest)

spelling_with_name : (name : Option (List ℕ)) (value : Flow) (rest : List Piece) → spelling (with_name name value) ++ rest ≡ before_named name (spelling value ++ rest)
spelling_with_name None value rest = refl
spelling_with_name (Some name) value rest = refl

so_far_put_value : (value : Flow) (place : CellPlace) (outer : List Slot) (rest : List Piece) → so_far (put_value value place outer) rest ≡ before_inner outer (Opening (bracket_of place) ∷ before_value place (spelling value ++ rest))
so_far_put_value value place outer rest = ap (λ l. before_inner outer (Opening (bracket_of place) ∷ l)) (spelling_filled value place rest)

so_far_closed : (value : Flow) (outer : List Slot) (rest : List Piece) → so_far (closed value outer) rest ≡ before_inner outer (spelling value ++ rest)
so_far_closed value [] rest = refl
so_far_closed value (slot place name ∷ outer) rest = so_far_put_value (with_name name value) place outer rest ∙ ap (λ l. before_inner outer (Opening (bracket_of place) ∷ before_value place l)) (spelling_with_name name value rest)

spelling_form : (bracket : Bracket) (cells : Flow) (last : Bool) (rest : List Piece) → spelling (form bracket cells last) ++ rest ≡ Opening bracket ∷ (spelling cells ++ (comma_if last ++ (Closing bracket ∷ rest)))
spelling_form bracket cells last rest = ap (λ l. Opening bracket ∷ l) (append_assoc (spelling cells) (comma_if last ++ (Closing bracket ∷ [])) rest ∙ ap (λ l. spelling cells ++ l) (append_assoc (comma_if last) (Closing bracket ∷ []) rest))

AreCells_filled : (value : Flow) (place : CellPlace) → GoodPlace place → IsValue value → AreCells (bracket_of place) (filled value place)
AreCells_filled value (behind_items cells) good is = (refl, good, is)
AreCells_filled value (behind_key cells key) good is = (refl, refl, good, is)

IsValue_named_form : (name : Option (List ℕ)) (bracket : Bracket) (cells : Flow) (last : Bool) → IsValue (form bracket cells last) → IsValue (with_name name (form bracket cells last))
IsValue_named_form None bracket cells last is = is
IsValue_named_form (Some name) bracket cells last is = (refl, refl, is)

has_cells_filled : (value : Flow) (place : CellPlace) → has_cells (filled value place) ≡ true
has_cells_filled value (behind_items cells) = refl
has_cells_filled value (behind_key cells key) = refl

good_put_value : (value : Flow) (place : CellPlace) (outer : List Slot) → IsValue value → GoodPlace place → GoodSlots outer → GoodShape (put_value value place outer)
good_put_value value place outer is at around = (AreCells_filled value place at is, has_cells_filled value place, around)

good_closed : (bracket : Bracket) (cells : Flow) (last : Bool) (outer : List Slot) → IsValue (form bracket cells last) → GoodSlots outer → GoodShape (closed (form bracket cells last) outer)
good_closed bracket cells last [] is good = is
good_closed bracket cells last (slot place name ∷ outer) is good = good_put_value (with_name name (form bracket cells last)) place outer (IsValue_named_form name bracket cells last is) good.0 good.1

equal_brackets : (a b : Bracket) → same_bracket a b ≡ true → a ≡ b
equal_brackets Square Square e = refl
equal_brackets Curly Curly e = refl
equal_brackets Square Curly e = absurd (false≢true e)
equal_brackets Curly Square e = absurd (false≢true e)

-- the form goes on with a piece more
abbrev pub GoesOn : Piece → Shape → Shape → Type 0
GoesOn piece old new = GoodShape new × ((rest : List Piece) → so_far new rest ≡ so_far old (piece ∷ rest))

close_goes_on : (bracket : Bracket) (cells : Flow) (last : Bool) (outer : List Slot) → IsValue (form bracket cells last) → GoodSlots outer → GoodShape (closed (form bracket cells last) outer) × ((rest : List Piece) → so_far (closed (form bracket cells last) outer) rest ≡ before_inner outer (Opening bracket ∷ (spelling cells ++ (comma_if last ++ (Closing bracket ∷ rest)))))
close_goes_on bracket cells last outer is around = (good_closed bracket cells last outer is around, λ rest. so_far_closed (form bracket cells last) outer rest ∙ ap (before_inner outer) (spelling_form bracket cells last rest))

end_goes_on : (piece : Piece) (bracket : Bracket) (cells : Flow) (outer : List Slot) (new : Shape) → end_piece piece bracket cells outer ≡ Some new → GoodShape (end_next bracket cells outer) → GoesOn piece (end_next bracket cells outer) new
end_goes_on Comma bracket cells outer new e good = subst (GoesOn Comma (end_next bracket cells outer)) (same_Some _ _ e) ((good.0, good.2), λ rest. ap (λ b. before_inner outer (Opening bracket ∷ (spelling cells ++ (comma_if b ++ rest)))) good.1)
end_goes_on (Closing other) bracket cells outer new e good = let c = cond_some (same_bracket other bracket) (closed (form bracket cells false) outer) new e in
    subst (λ b. GoesOn (Closing b) (end_next bracket cells outer) new) (sym (equal_brackets other bracket c.0))
    (subst (GoesOn (Closing bracket) (end_next bracket cells outer)) c.1 (close_goes_on bracket cells false outer (good.0, λ l. absurd (false≢true l)) good.2))
end_goes_on (Opening bracket) _ cells outer new e good = absurd (none-some new e)
end_goes_on (CellKey text) bracket cells outer new e good = absurd (none-some new e)
end_goes_on (CellScalar text) bracket cells outer new e good = absurd (none-some new e)
end_goes_on (CellAnchor text) bracket cells outer new e good = absurd (none-some new e)
end_goes_on (CellAlias text) bracket cells outer new e good = absurd (none-some new e)
end_goes_on (OddPiece why) bracket cells outer new e good = absurd (none-some new e)

put_goes_on : (value : Flow) (place : CellPlace) (outer : List Slot) → IsValue value → GoodPlace place → GoodSlots outer → GoodShape (put_value value place outer) × ((rest : List Piece) → so_far (put_value value place outer) rest ≡ before_inner outer (Opening (bracket_of place) ∷ before_value place (spelling value ++ rest)))
put_goes_on value place outer is at around = (good_put_value value place outer is at around, so_far_put_value value place outer)

named_end_goes_on : (piece : Piece) (place : CellPlace) (name : List ℕ) (outer : List Slot) (new : Shape) → end_piece piece (bracket_of place) (filled (called (CellAnchor name) absent) place) outer ≡ Some new → GoodPlace place → GoodSlots outer → GoesOn piece (named_next place name outer) new
named_end_goes_on piece place name outer new e at around = let v = called (CellAnchor name) absent in
    let g = end_goes_on piece (bracket_of place) (filled v place) outer new e (good_put_value v place outer refl at around) in
    (g.0, λ rest. g.1 rest ∙ so_far_put_value v place outer (piece ∷ rest))

named_goes_on : (piece : Piece) (place : CellPlace) (name : List ℕ) (outer : List Slot) (new : Shape) → named_piece piece place name outer ≡ Some new → GoodShape (named_next place name outer) → GoesOn piece (named_next place name outer) new
named_goes_on (Opening bracket) place name outer new e good = subst (GoesOn (Opening bracket) (named_next place name outer)) (same_Some _ _ e) ((tt, (good.0, good.1)), λ rest. refl)
named_goes_on (CellScalar text) place name outer new e good = subst (GoesOn (CellScalar text) (named_next place name outer)) (same_Some _ _ e) (put_goes_on (called (CellAnchor name) (word (CellScalar text))) place outer (refl, refl, refl) good.0 good.1)
named_goes_on Comma place name outer new e good = named_end_goes_on Comma place name outer new e good.0 good.1
named_goes_on (Closing other) place name outer new e good = named_end_goes_on (Closing other) place name outer new e good.0 good.1
named_goes_on (CellKey text) place name outer new e good = absurd (none-some new e)
named_goes_on (CellAnchor text) place name outer new e good = absurd (none-some new e)
named_goes_on (CellAlias text) place name outer new e good = absurd (none-some new e)
named_goes_on (OddPiece why) place name outer new e good = absurd (none-some new e)

-- where a value comes
abbrev pub waiting : CellPlace → List Slot → Shape
waiting (behind_items cells) outer = cell_next Square cells outer
waiting (behind_key cells key) outer = value_next cells key outer

so_far_waiting : (place : CellPlace) (outer : List Slot) (rest : List Piece) → so_far (waiting place outer) rest ≡ before_inner outer (Opening (bracket_of place) ∷ before_value place rest)
so_far_waiting (behind_items cells) outer rest = refl
so_far_waiting (behind_key cells key) outer rest = refl

-- a value, or its name, comes
value_goes_on : (piece : Piece) (place : CellPlace) (outer : List Slot) (new : Shape) → value_piece piece place outer ≡ Some new → GoodPlace place → GoodSlots outer → GoodShape new × ((rest : List Piece) → so_far new rest ≡ before_inner outer (Opening (bracket_of place) ∷ before_value place (piece ∷ rest)))
value_goes_on (Opening bracket) place outer new e at around = subst (λ s. GoodShape s × ((rest : List Piece) → so_far s rest ≡ before_inner outer (Opening (bracket_of place) ∷ before_value place (Opening bracket ∷ rest)))) (same_Some _ _ e) ((tt, (at, around)), λ rest. refl)
value_goes_on (CellScalar text) place outer new e at around = subst (λ s. GoodShape s × ((rest : List Piece) → so_far s rest ≡ before_inner outer (Opening (bracket_of place) ∷ before_value place (CellScalar text ∷ rest)))) (same_Some _ _ e) (put_goes_on (word (CellScalar text)) place outer refl at around)
value_goes_on (CellAnchor name) place outer new e at around = subst (λ s. GoodShape s × ((rest : List Piece) → so_far s rest ≡ before_inner outer (Opening (bracket_of place) ∷ before_value place (CellAnchor name ∷ rest)))) (same_Some _ _ e) ((at, around), λ rest. refl)
value_goes_on (CellAlias name) place outer new e at around = subst (λ s. GoodShape s × ((rest : List Piece) → so_far s rest ≡ before_inner outer (Opening (bracket_of place) ∷ before_value place (CellAlias name ∷ rest)))) (same_Some _ _ e) (put_goes_on (word (CellAlias name)) place outer refl at around)
value_goes_on Comma place outer new e at around = absurd (none-some new e)
value_goes_on (Closing other) place outer new e at around = absurd (none-some new e)
value_goes_on (CellKey text) place outer new e at around = absurd (none-some new e)
value_goes_on (OddPiece why) place outer new e at around = absurd (none-some new e)

key_goes_on : (piece : Piece) (cells : Flow) (outer : List Slot) (new : Shape) → key_piece piece cells outer ≡ Some new → AreCells Curly cells → GoodSlots outer → GoesOn piece (cell_next Curly cells outer) new
key_goes_on (CellKey key) cells outer new e are around = subst (GoesOn (CellKey key) (cell_next Curly cells outer)) (same_Some _ _ e) ((are, around), λ rest. refl)
key_goes_on (Opening bracket) cells outer new e are around = absurd (none-some new e)
key_goes_on (Closing bracket) cells outer new e are around = absurd (none-some new e)
key_goes_on Comma cells outer new e are around = absurd (none-some new e)
key_goes_on (CellScalar text) cells outer new e are around = absurd (none-some new e)
key_goes_on (CellAnchor text) cells outer new e are around = absurd (none-some new e)
key_goes_on (CellAlias text) cells outer new e are around = absurd (none-some new e)
key_goes_on (OddPiece why) cells outer new e are around = absurd (none-some new e)

inner_goes_on : (piece : Piece) (bracket : Bracket) (cells : Flow) (outer : List Slot) (new : Shape) → inner_piece piece bracket cells outer ≡ Some new → GoodShape (cell_next bracket cells outer) → GoesOn piece (cell_next bracket cells outer) new
inner_goes_on piece Square cells outer new e good = value_goes_on piece (behind_items cells) outer new e good.0 good.1
inner_goes_on piece Curly cells outer new e good = key_goes_on piece cells outer new e good.0 good.1

cell_goes_on : (piece : Piece) (bracket : Bracket) (cells : Flow) (outer : List Slot) (new : Shape) → cell_piece piece bracket cells outer ≡ Some new → GoodShape (cell_next bracket cells outer) → GoesOn piece (cell_next bracket cells outer) new
cell_goes_on (Closing other) bracket cells outer new e good = let c = cond_some (same_bracket other bracket) (closed (form bracket cells (has_cells cells)) outer) new e in
    subst (λ b. GoesOn (Closing b) (cell_next bracket cells outer) new) (sym (equal_brackets other bracket c.0))
    (subst (GoesOn (Closing bracket) (cell_next bracket cells outer)) c.1 (close_goes_on bracket cells (has_cells cells) outer (good.0, λ l. l) good.1))
cell_goes_on (Opening other) bracket cells outer new e good = inner_goes_on (Opening other) bracket cells outer new e good
cell_goes_on Comma bracket cells outer new e good = inner_goes_on Comma bracket cells outer new e good
cell_goes_on (CellKey text) bracket cells outer new e good = inner_goes_on (CellKey text) bracket cells outer new e good
cell_goes_on (CellScalar text) bracket cells outer new e good = inner_goes_on (CellScalar text) bracket cells outer new e good
cell_goes_on (CellAnchor text) bracket cells outer new e good = inner_goes_on (CellAnchor text) bracket cells outer new e good
cell_goes_on (CellAlias text) bracket cells outer new e good = inner_goes_on (CellAlias text) bracket cells outer new e good
cell_goes_on (OddPiece why) bracket cells outer new e good = inner_goes_on (OddPiece why) bracket cells outer new e good

begun_goes_on : (piece : Piece) (new : Shape) → begun_form piece ≡ Some new → GoesOn piece start new
begun_goes_on (Opening bracket) new e = subst (GoesOn (Opening bracket) start) (same_Some _ _ e) ((tt, tt), λ rest. refl)
begun_goes_on (Closing bracket) new e = absurd (none-some new e)
begun_goes_on Comma new e = absurd (none-some new e)
begun_goes_on (CellKey text) new e = absurd (none-some new e)
begun_goes_on (CellScalar text) new e = absurd (none-some new e)
begun_goes_on (CellAnchor text) new e = absurd (none-some new e)
begun_goes_on (CellAlias text) new e = absurd (none-some new e)
begun_goes_on (OddPiece why) new e = absurd (none-some new e)

pub piece_goes_on : (piece : Piece) (old new : Shape) → with_piece piece old ≡ Some new → GoodShape old → GoesOn piece old new
piece_goes_on piece start new e good = begun_goes_on piece new e
piece_goes_on piece (cell_next bracket cells outer) new e good = cell_goes_on piece bracket cells outer new e good
piece_goes_on piece (value_next cells key outer) new e good = value_goes_on piece (behind_key cells key) outer new e good.0 good.1
piece_goes_on piece (named_next place name outer) new e good = named_goes_on piece place name outer new e good
piece_goes_on piece (end_next bracket cells outer) new e good = end_goes_on piece bracket cells outer new e good
piece_goes_on piece (done value) new e good = absurd (none-some new e)

pub pieces_go_on : (pieces : List Piece) (old new : Shape) → with_pieces pieces old ≡ Some new → GoodShape old → GoodShape new × ((rest : List Piece) → so_far new rest ≡ so_far old (pieces ++ rest))
pieces_go_on [] old new e good = subst (λ s. GoodShape s × ((rest : List Piece) → so_far s rest ≡ so_far old rest)) (same_Some _ _ e) (good, λ rest. refl)
pieces_go_on (piece ∷ pieces) old new e good = let c = chained (with_pieces pieces) (with_piece piece old) new e in
    let first = piece_goes_on piece old c.0 c.1 good in
    let later = pieces_go_on pieces c.0 new c.2 first.0 in
    (later.0, λ rest. later.1 rest ∙ first.1 (pieces ++ rest))

pub spelled_when_done : (pieces : List Piece) (value : Flow) → with_pieces pieces start ≡ Some (done value) → SpellsFlow pieces value
spelled_when_done pieces value e = let g = pieces_go_on pieces start (done value) e tt in (sym (append-nil (spelling value)) ∙ g.1 [] ∙ append-nil pieces, g.0)

-- ---- what is spelled so is read

-- a comma or a closing bracket comes
abbrev pub Ends : List Piece → Type 0
Ends (Comma ∷ rest) = Unit {0}
Ends (Closing bracket ∷ rest) = Unit {0}
Ends _ = ⊥

-- behind cells: a comma or the closing bracket comes, or the first cell
abbrev pub behind_cells : Bracket → Flow → List Slot → Shape
behind_cells bracket absent outer = cell_next bracket absent outer
behind_cells bracket cells outer = end_next bracket cells outer

abbrev pub CellsAreRead : Bracket → Flow → Type 0
CellsAreRead bracket cells = (outer : List Slot) (rest : List Piece) → Ends rest → with_pieces (spelling cells ++ rest) (cell_next bracket absent outer) ≡ with_pieces rest (behind_cells bracket cells outer)

abbrev pub ValueIsRead : Flow → Type 0
ValueIsRead value = (place : CellPlace) (outer : List Slot) (rest : List Piece) → Ends rest → with_pieces (spelling value ++ rest) (waiting place outer) ≡ with_pieces rest (put_value value place outer)

then_comma : (bracket : Bracket) (cells : Flow) → CellsAreRead bracket cells → (outer : List Slot) (rest : List Piece) → with_pieces (before_cell cells rest) (cell_next bracket absent outer) ≡ with_pieces rest (cell_next bracket cells outer)
then_comma bracket absent read outer rest = refl
then_comma bracket (word piece) read outer rest = read outer (Comma ∷ rest) tt
then_comma bracket (called name value) read outer rest = read outer (Comma ∷ rest) tt
then_comma bracket (item before value) read outer rest = read outer (Comma ∷ rest) tt
then_comma bracket (pair before key value) read outer rest = read outer (Comma ∷ rest) tt
then_comma bracket (form other cells last) read outer rest = read outer (Comma ∷ rest) tt

closed_by_own : (bracket : Bracket) (value : Flow) (outer : List Slot) → closed_by bracket bracket value outer ≡ Some (closed value outer)
closed_by_own Square value outer = refl
closed_by_own Curly value outer = refl

then_closing : (bracket : Bracket) (value : Flow) (outer : List Slot) (rest : List Piece) → option_and_then (with_pieces rest) (closed_by bracket bracket value outer) ≡ with_pieces rest (closed value outer)
then_closing bracket value outer rest = ap (option_and_then (with_pieces rest)) (closed_by_own bracket value outer)

-- behind the cells of a form
form_ends : (bracket : Bracket) (cells : Flow) (last : Bool) → (last ≡ true → has_cells cells ≡ true) → (outer : List Slot) (rest : List Piece) → with_pieces (comma_if last ++ (Closing bracket ∷ rest)) (behind_cells bracket cells outer) ≡ with_pieces rest (closed (form bracket cells last) outer)
form_ends bracket absent true has outer rest = absurd (false≢true (has refl))
form_ends bracket absent false has outer rest = then_closing bracket (form bracket absent false) outer rest
form_ends bracket (word piece) true has outer rest = then_closing bracket (form bracket (word piece) true) outer rest
form_ends bracket (word piece) false has outer rest = then_closing bracket (form bracket (word piece) false) outer rest
form_ends bracket (called name value) true has outer rest = then_closing bracket (form bracket (called name value) true) outer rest
form_ends bracket (called name value) false has outer rest = then_closing bracket (form bracket (called name value) false) outer rest
form_ends bracket (item before value) true has outer rest = then_closing bracket (form bracket (item before value) true) outer rest
form_ends bracket (item before value) false has outer rest = then_closing bracket (form bracket (item before value) false) outer rest
form_ends bracket (pair before key value) true has outer rest = then_closing bracket (form bracket (pair before key value) true) outer rest
form_ends bracket (pair before key value) false has outer rest = then_closing bracket (form bracket (pair before key value) false) outer rest
form_ends bracket (form other cells also) true has outer rest = then_closing bracket (form bracket (form other cells also) true) outer rest
form_ends bracket (form other cells also) false has outer rest = then_closing bracket (form bracket (form other cells also) false) outer rest

ends_closing : (last : Bool) (bracket : Bracket) (rest : List Piece) → Ends (comma_if last ++ (Closing bracket ∷ rest))
ends_closing true bracket rest = tt
ends_closing false bracket rest = tt

-- a form behind its opening bracket
form_read : (bracket : Bracket) (cells : Flow) (last : Bool) → CellsAreRead bracket cells → (last ≡ true → has_cells cells ≡ true) → (outer : List Slot) (rest : List Piece) → with_pieces ((spelling cells ++ (comma_if last ++ (Closing bracket ∷ []))) ++ rest) (cell_next bracket absent outer) ≡ with_pieces rest (closed (form bracket cells last) outer)
form_read bracket cells last read has outer rest =
    ap (λ l. with_pieces l (cell_next bracket absent outer)) (append_assoc (spelling cells) (comma_if last ++ (Closing bracket ∷ [])) rest ∙ ap (λ l. spelling cells ++ l) (append_assoc (comma_if last) (Closing bracket ∷ []) rest))
    ∙ read outer (comma_if last ++ (Closing bracket ∷ rest)) (ends_closing last bracket rest)
    ∙ form_ends bracket cells last has outer rest

item_read : (before value : Flow) → CellsAreRead Square before → ValueIsRead value → CellsAreRead Square (item before value)
item_read before value read_before read_value outer rest ends =
    ap (λ l. with_pieces l (cell_next Square absent outer)) (spelling_filled value (behind_items before) rest)
    ∙ then_comma Square before read_before outer (spelling value ++ rest)
    ∙ read_value (behind_items before) outer rest ends

pair_read : (before : Flow) (key : List ℕ) (value : Flow) → CellsAreRead Curly before → ValueIsRead value → CellsAreRead Curly (pair before (CellKey key) value)
pair_read before key value read_before read_value outer rest ends =
    ap (λ l. with_pieces l (cell_next Curly absent outer)) (spelling_filled value (behind_key before key) rest)
    ∙ then_comma Curly before read_before outer (CellKey key ∷ (spelling value ++ rest))
    ∙ read_value (behind_key before key) outer rest ends

word_read : (piece : Piece) → is_cell_word piece ≡ true → ValueIsRead (word piece)
word_read (CellScalar text) is (behind_items cells) outer rest ends = refl
word_read (CellScalar text) is (behind_key cells key) outer rest ends = refl
word_read (CellAlias name) is (behind_items cells) outer rest ends = refl
word_read (CellAlias name) is (behind_key cells key) outer rest ends = refl
word_read (Opening bracket) is place outer rest ends = absurd (false≢true is)
word_read (Closing bracket) is place outer rest ends = absurd (false≢true is)
word_read Comma is place outer rest ends = absurd (false≢true is)
word_read (CellKey text) is place outer rest ends = absurd (false≢true is)
word_read (CellAnchor text) is place outer rest ends = absurd (false≢true is)
word_read (OddPiece why) is place outer rest ends = absurd (false≢true is)

-- a value behind its name
abbrev pub NamedIsRead : Flow → Type 0
NamedIsRead value = (name : List ℕ) (place : CellPlace) (outer : List Slot) (rest : List Piece) → Ends rest → with_pieces (spelling value ++ rest) (named_next place name outer) ≡ with_pieces rest (put_value (called (CellAnchor name) value) place outer)

called_read : (name : Piece) (value : Flow) → is_cell_name name ≡ true → NamedIsRead value → ValueIsRead (called name value)
called_read (CellAnchor name) value is read (behind_items cells) outer rest ends = read name (behind_items cells) outer rest ends
called_read (CellAnchor name) value is read (behind_key cells key) outer rest ends = read name (behind_key cells key) outer rest ends
called_read (CellScalar text) value is read place outer rest ends = absurd (false≢true is)
called_read (CellAlias text) value is read place outer rest ends = absurd (false≢true is)
called_read (Opening bracket) value is read place outer rest ends = absurd (false≢true is)
called_read (Closing bracket) value is read place outer rest ends = absurd (false≢true is)
called_read Comma value is read place outer rest ends = absurd (false≢true is)
called_read (CellKey text) value is read place outer rest ends = absurd (false≢true is)
called_read (OddPiece why) value is read place outer rest ends = absurd (false≢true is)

named_absent : NamedIsRead absent
named_absent name place outer (Comma ∷ rest) ends = refl
named_absent name place outer (Closing bracket ∷ rest) ends = refl
named_absent name place outer [] ends = absurd ends
named_absent name place outer (Opening bracket ∷ rest) ends = absurd ends
named_absent name place outer (CellKey text ∷ rest) ends = absurd ends
named_absent name place outer (CellScalar text ∷ rest) ends = absurd ends
named_absent name place outer (CellAnchor text ∷ rest) ends = absurd ends
named_absent name place outer (CellAlias text ∷ rest) ends = absurd ends
named_absent name place outer (OddPiece why ∷ rest) ends = absurd ends

named_word : (piece : Piece) → may_be_called (word piece) ≡ true → NamedIsRead (word piece)
named_word (CellScalar text) may name place outer rest ends = refl
named_word (CellAlias text) may name place outer rest ends = absurd (false≢true may)
named_word (CellAnchor text) may name place outer rest ends = absurd (false≢true may)
named_word (Opening bracket) may name place outer rest ends = absurd (false≢true may)
named_word (Closing bracket) may name place outer rest ends = absurd (false≢true may)
named_word Comma may name place outer rest ends = absurd (false≢true may)
named_word (CellKey text) may name place outer rest ends = absurd (false≢true may)
named_word (OddPiece why) may name place outer rest ends = absurd (false≢true may)

named_form : (bracket : Bracket) (cells : Flow) (last : Bool) → CellsAreRead bracket cells → (last ≡ true → has_cells cells ≡ true) → NamedIsRead (form bracket cells last)
named_form bracket cells last read has name place outer rest ends = form_read bracket cells last read has (slot place (Some name) ∷ outer) rest

bare_form : (bracket : Bracket) (cells : Flow) (last : Bool) → CellsAreRead bracket cells → (last ≡ true → has_cells cells ≡ true) → ValueIsRead (form bracket cells last)
bare_form bracket cells last read has (behind_items before) outer rest ends = form_read bracket cells last read has (slot (behind_items before) None ∷ outer) rest
bare_form bracket cells last read has (behind_key before key) outer rest ends = form_read bracket cells last read has (slot (behind_key before key) None ∷ outer) rest

item_of : (bracket : Bracket) (before value : Flow) → bracket ≡ Square → CellsAreRead bracket before → ValueIsRead value → CellsAreRead bracket (item before value)
item_of Square before value is read_before read_value = item_read before value read_before read_value
item_of Curly before value is read_before read_value = absurd (cc)

pair_of : (bracket : Bracket) (before : Flow) (key : Piece) (value : Flow) → bracket ≡ Curly → is_cell_key key ≡ true → CellsAreRead bracket before → ValueIsRead value → CellsAreRead bracket (pair before key value)
pair_of Square before key value is is_key read_before read_value = absurd (cc)
pair_of Curly before (CellKey key) value is is_key read_before read_value = pair_read before key value read_before read_value
pair_of Curly before (CellScalar text) value is is_key read_before read_value = absurd (false≢true is_key)
pair_of Curly before (CellAnchor text) value is is_key read_before read_value = absurd (false≢true is_key)
pair_of Curly before (CellAlias text) value is is_key read_before read_value = absurd (false≢true is_key)
pair_of Curly before (Opening bracket) value is is_key read_before read_value = absurd (false≢true is_key)
pair_of Curly before (Closing bracket) value is is_key read_before read_value = absurd (false≢true is_key)
pair_of Curly before Comma value is is_key read_before read_value = absurd (false≢true is_key)
pair_of Curly before (OddPiece why) value is is_key read_before read_value = absurd (false≢true is_key)

mutual
  value_read : (value : Flow) → IsValue value → ValueIsRead value
  value_read absent is = absurd is
  value_read (word piece) is = word_read piece is
  value_read (called name absent) is = called_read name absent is named_absent
  value_read (called name (word piece)) is = called_read name (word piece) is.0 (named_word piece is.1)
  value_read (called name (form bracket cells last)) is = called_read name (form bracket cells last) is.0 (named_form bracket cells last (cells_read bracket cells is.2.0) is.2.1)
  value_read (called name (called other value)) is = absurd (false≢true is.1)
  value_read (called name (item before value)) is = absurd (false≢true is.1)
  value_read (called name (pair before key value)) is = absurd (false≢true is.1)
  value_read (item before value) is = absurd is
  value_read (pair before key value) is = absurd is
  value_read (form bracket cells last) is = bare_form bracket cells last (cells_read bracket cells is.0) is.1

  cells_read : (bracket : Bracket) (cells : Flow) → AreCells bracket cells → CellsAreRead bracket cells
  cells_read bracket absent are outer rest ends = refl
  cells_read bracket (word piece) are outer rest ends = absurd are
  cells_read bracket (called name value) are outer rest ends = absurd are
  cells_read bracket (item before value) are outer rest ends = item_of bracket before value are.0 (cells_read bracket before are.1) (value_read value are.2) outer rest ends
  cells_read bracket (pair before key value) are outer rest ends = pair_of bracket before key value are.0 are.1 (cells_read bracket before are.2) (value_read value are.3) outer rest ends
  cells_read bracket (form other cells last) are outer rest ends = absurd are

form_is_read : (value : Flow) → IsForm value → with_pieces (spelling value) start ≡ Some (done value)
form_is_read (form bracket cells last) is = ap (λ l. with_pieces l start) (sym (append-nil (spelling (form bracket cells last)))) ∙ form_read bracket cells last (cells_read bracket cells is.0) is.1 [] []
form_is_read absent is = absurd is
form_is_read (word piece) is = absurd is
form_is_read (called name value) is = absurd is
form_is_read (item before value) is = absurd is
form_is_read (pair before key value) is = absurd is

pub done_when_spelled : (pieces : List Piece) (value : Flow) → SpellsFlow pieces value → with_pieces pieces start ≡ Some (done value)
done_when_spelled pieces value h = ap (λ l. with_pieces l start) (sym h.0) ∙ form_is_read value h.1

-- ---- the reader

abbrev pub whole : Shape → Option Flow
whole (done value) = Some value
whole _ = None

abbrev pub read_flow : List Piece → Option Flow
read_flow pieces = option_and_then whole (with_pieces pieces start)

whole_done : (shape : Shape) (value : Flow) → whole shape ≡ Some value → shape ≡ done value
whole_done (done other) value e = ap done (same_Some _ _ e)
whole_done start value e = absurd (none-some value e)
whole_done (cell_next bracket cells outer) value e = absurd (none-some value e)
whole_done (value_next cells key outer) value e = absurd (none-some value e)
whole_done (named_next place name outer) value e = absurd (none-some value e)
whole_done (end_next bracket cells outer) value e = absurd (none-some value e)

pub flow_reader : FlowReader
flow_reader = record {
  read = read_flow;
  sound = λ pieces value e. let c = chained whole (with_pieces pieces start) value e in spelled_when_done pieces value (c.1 ∙ ap Some (whole_done c.0 value c.2));
  complete = λ pieces value h. ap (option_and_then whole) (done_when_spelled pieces value h);
}

-- ---- what may begin a form

pub with_pieces_append : (front pieces : List Piece) (old : Shape) → with_pieces (front ++ pieces) old ≡ option_and_then (with_pieces pieces) (with_pieces front old)
with_pieces_append [] pieces old = refl
with_pieces_append (piece ∷ front) pieces old = elim (with_piece piece old) as (λ o. option_and_then (with_pieces (front ++ pieces)) o ≡ option_and_then (with_pieces pieces) (option_and_then (with_pieces front) o)) [ None ↦ refl | Some new ↦ with_pieces_append front pieces new ]

-- pieces that take the shape to a whole form
abbrev pub Finishes : Shape → Type 0
Finishes shape = (rest : List Piece) × (value : Flow) × (with_pieces rest shape ≡ Some (done value))

finish_end : (outer : List Slot) (bracket : Bracket) (cells : Flow) → Finishes (end_next bracket cells outer)
finish_end [] bracket cells = (Closing bracket ∷ [], form bracket cells false, then_closing bracket (form bracket cells false) [] [])
finish_end (slot place name ∷ outer) bracket cells = let value = with_name name (form bracket cells false) in
    let f = finish_end outer (bracket_of place) (filled value place) in
    (Closing bracket ∷ f.0, f.1, then_closing bracket (form bracket cells false) (slot place name ∷ outer) f.0 ∙ f.2)

finish_closed : (value : Flow) (outer : List Slot) → Finishes (closed value outer)
finish_closed value [] = ([], value, refl)
finish_closed value (slot place name ∷ outer) = finish_end outer (bracket_of place) (filled (with_name name value) place)

finish_cell : (bracket : Bracket) (cells : Flow) (outer : List Slot) → Finishes (cell_next bracket cells outer)
finish_cell bracket cells outer = let value = form bracket cells (has_cells cells) in
    let f = finish_closed value outer in (Closing bracket ∷ f.0, f.1, then_closing bracket value outer f.0 ∙ f.2)

pub finish : (shape : Shape) → Finishes shape
finish start = let f = finish_cell Square absent [] in (Opening Square ∷ f.0, f.1, f.2)
finish (cell_next bracket cells outer) = finish_cell bracket cells outer
finish (value_next cells key outer) = let value = word (CellScalar None) in
    let f = finish_end outer Curly (filled value (behind_key cells key)) in (CellScalar None ∷ f.0, f.1, f.2)
finish (named_next place name outer) = let f = finish_cell (bracket_of place) (filled (called (CellAnchor name) absent) place) outer in (Comma ∷ f.0, f.1, f.2)
finish (end_next bracket cells outer) = finish_end outer bracket cells
finish (done value) = ([], value, refl)

pub may_begin : (front : List Piece) (shape : Shape) → with_pieces front start ≡ Some shape → FlowMayBegin front
may_begin front shape e = let f = finish shape in
    (f.0, f.1, spelled_when_done (front ++ f.0) f.1 (with_pieces_append front f.0 start ∙ ap (option_and_then (with_pieces f.0)) e ∙ f.2))

pub is_begun : (front : List Piece) → FlowMayBegin front → (shape : Shape) × (with_pieces front start ≡ Some shape)
is_begun front h = let c = chained (with_pieces h.0) (with_pieces front start) (done h.1) (sym (with_pieces_append front h.0 start) ∙ done_when_spelled (front ++ h.0) h.1 h.2) in (c.0, c.1)
