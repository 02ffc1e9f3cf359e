-- The fault of pieces that are no flow form's is told by the first piece that can't stand, or by the line's end.
use Rattle.std.proofs.Common.{◌≡◌, ℕ, Bool, true, false, List, [], ◌∷◌, ◌++◌, Option, Some, None, refl, sym, ap, subst, ◌∙◌, append_assoc, inl, inr, if◌then◌else◌}
use Rattle.std.proofs.lemmas.Option.{none-some, same_Some}
use Rattle.std.proofs.lemmas.Bool.{false≢true}
use Rattle.std.proofs.lemmas.List.{append-nil}
use Rattle.std.specs.Option.{option_and_then}
use Rattle.yaml_tokens.specs.declared.piece.Bracket.{Bracket}
use Rattle.yaml_tokens.specs.declared.piece.Piece.{Piece}
use Rattle.yaml_tokens.specs.declared.piece.Bracket.TheVariants.{Square, Curly}
use Rattle.yaml_tokens.specs.declared.piece.Piece.TheVariants.{Opening, Closing, Comma, CellKey, CellScalar, CellAnchor, CellAlias, OddPiece}
use Rattle.yaml_tree.specs.declared.shape.Want.TheVariants as want
use Rattle.yaml_tree.specs.declared.shape.Shape.{Shape as Outlined}
use Rattle.yaml_tree.specs.declared.fault.FaultKind.TheVariants.{Syntax, Unsupported}
use Rattle.yaml_tokens.specs.declared.odd.Odd.TheVariants as odd
use Rattle.yaml_tree.specs.Flows.{Flow, has_cells, kind_behind_key, FlowMayBegin, IsPieceKind, IsFirstMisfit, IsFlowMisfit}
use Rattle.yaml_tree.specs.inside.Outline.{closed as outlined, takes_piece, takes_value, takes_key, behind, piece_fault, is_done, fault_from, flow_fault}
use Rattle.yaml_tree.proofs.Shapes.{CellPlace, Slot, Shape, bracket_of, closed, closed_by, end_piece, named_piece, value_piece, cell_piece, begun_form, with_piece, with_pieces, filled}
use Rattle.yaml_tree.specs.Flows.Flow.{absent, called, form}
use Rattle.yaml_tree.proofs.Shapes.CellPlace.{behind_key}
use Rattle.yaml_tree.proofs.Shapes.Slot.{slot}
use Rattle.yaml_tree.proofs.Shapes.Shape.{start, cell_next, value_next, named_next, end_next, done}
use Rattle.yaml_tree.proofs.FlowJudged.{FlowJudged}
use Rattle.yaml_tree.proofs.FlowLaws.{with_pieces_append, spelled_when_done, done_when_spelled, may_begin, is_begun}

-- ---- the outline of a form that is read so far

abbrev pub brackets_of : List Slot → List Bracket
brackets_of [] = []
brackets_of (slot place name ∷ outer) = bracket_of place ∷ brackets_of outer

abbrev pub erased : Shape → Outlined
erased start = record { want = want.Form; brackets = [] }
erased (cell_next bracket cells outer) = record { want = want.Cell; brackets = bracket ∷ brackets_of outer }
erased (value_next cells key outer) = record { want = want.Value; brackets = Curly ∷ brackets_of outer }
erased (named_next place name outer) = record { want = want.Named; brackets = bracket_of place ∷ brackets_of outer }
erased (end_next bracket cells outer) = record { want = want.End; brackets = bracket ∷ brackets_of outer }
erased (done value) = record { want = want.Nothing; brackets = [] }

-- a piece comes in both, or in neither
abbrev pub Steps : Piece → Shape → Option Shape → Bool → Type 0
Steps piece old (Some new) takes = (takes ≡ true) × (behind piece (erased old) ≡ erased new)
Steps piece old None takes = takes ≡ false

outlined_closed : (bracket : Bracket) (value : Flow) (outer : List Slot) → outlined (bracket ∷ brackets_of outer) ≡ erased (closed value outer)
outlined_closed bracket value [] = refl
outlined_closed bracket value (slot place name ∷ outer) = refl

end_steps : (piece : Piece) (bracket : Bracket) (cells : Flow) (outer : List Slot) → Steps piece (end_next bracket cells outer) (end_piece piece bracket cells outer) (takes_piece piece (erased (end_next bracket cells outer)))
end_steps Comma bracket cells outer = (refl, refl)
end_steps (Closing Square) Square cells outer = (refl, outlined_closed Square (form Square cells false) outer)
end_steps (Closing Curly) Curly cells outer = (refl, outlined_closed Curly (form Curly cells false) outer)
end_steps (Closing Square) Curly cells outer = refl
end_steps (Closing Curly) Square cells outer = refl
end_steps (Opening other) bracket cells outer = refl
end_steps (CellKey text) bracket cells outer = refl
end_steps (CellScalar text) bracket cells outer = refl
end_steps (CellAnchor text) bracket cells outer = refl
end_steps (CellAlias text) bracket cells outer = refl
end_steps (OddPiece why) bracket cells outer = refl

named_closing : (other bracket : Bracket) (value : Flow) (place : CellPlace) (name : List ℕ) (outer : List Slot) → bracket_of place ≡ bracket → Steps (Closing other) (named_next place name outer) (closed_by other bracket value outer) (takes_piece (Closing other) (record { want = want.Named; brackets = bracket ∷ brackets_of outer }))
named_closing Square Square value place name outer e = (refl, ap (λ b. outlined (b ∷ brackets_of outer)) e ∙ outlined_closed Square value outer)
named_closing Curly Curly value place name outer e = (refl, ap (λ b. outlined (b ∷ brackets_of outer)) e ∙ outlined_closed Curly value outer)
named_closing Square Curly value place name outer e = refl
named_closing Curly Square value place name outer e = refl

named_steps : (piece : Piece) (place : CellPlace) (name : List ℕ) (outer : List Slot) → Steps piece (named_next place name outer) (named_piece piece place name outer) (takes_piece piece (erased (named_next place name outer)))
named_steps (Opening bracket) place name outer = (refl, refl)
named_steps (CellScalar text) place name outer = (refl, refl)
named_steps Comma place name outer = (refl, refl)
named_steps (Closing other) place name outer = named_closing other (bracket_of place) (form (bracket_of place) (filled (called (CellAnchor name) absent) place) false) place name outer refl
named_steps (CellKey text) place name outer = refl
named_steps (CellAnchor text) place name outer = refl
named_steps (CellAlias text) place name outer = refl
named_steps (OddPiece why) place name outer = refl

value_steps : (piece : Piece) (cells : Flow) (key : List ℕ) (outer : List Slot) → Steps piece (value_next cells key outer) (value_piece piece (behind_key cells key) outer) (takes_piece piece (erased (value_next cells key outer)))
value_steps (Opening bracket) cells key outer = (refl, refl)
value_steps (CellScalar text) cells key outer = (refl, refl)
value_steps (CellAnchor text) cells key outer = (refl, refl)
value_steps (CellAlias text) cells key outer = (refl, refl)
value_steps Comma cells key outer = refl
value_steps (Closing other) cells key outer = refl
value_steps (CellKey text) cells key outer = refl
value_steps (OddPiece why) cells key outer = refl

cell_steps : (piece : Piece) (bracket : Bracket) (cells : Flow) (outer : List Slot) → Steps piece (cell_next bracket cells outer) (cell_piece piece bracket cells outer) (takes_piece piece (erased (cell_next bracket cells outer)))
cell_steps (Closing Square) Square cells outer = (refl, outlined_closed Square (form Square cells (has_cells cells)) outer)
cell_steps (Closing Curly) Curly cells outer = (refl, outlined_closed Curly (form Curly cells (has_cells cells)) outer)
cell_steps (Closing Square) Curly cells outer = refl
cell_steps (Closing Curly) Square cells outer = refl
cell_steps (Opening other) Square cells outer = (refl, refl)
cell_steps (Opening other) Curly cells outer = refl
cell_steps (CellKey text) Square cells outer = refl
cell_steps (CellKey text) Curly cells outer = (refl, refl)
cell_steps (CellScalar text) Square cells outer = (refl, refl)
cell_steps (CellScalar text) Curly cells outer = refl
cell_steps (CellAnchor text) Square cells outer = (refl, refl)
cell_steps (CellAnchor text) Curly cells outer = refl
cell_steps (CellAlias text) Square cells outer = (refl, refl)
cell_steps (CellAlias text) Curly cells outer = refl
cell_steps Comma Square cells outer = refl
cell_steps Comma Curly cells outer = refl
cell_steps (OddPiece why) Square cells outer = refl
cell_steps (OddPiece why) Curly cells outer = refl

begun_steps : (piece : Piece) → Steps piece start (begun_form piece) (takes_piece piece (erased start))
begun_steps (Opening bracket) = (refl, refl)
begun_steps (Closing bracket) = refl
begun_steps Comma = refl
begun_steps (CellKey text) = refl
begun_steps (CellScalar text) = refl
begun_steps (CellAnchor text) = refl
begun_steps (CellAlias text) = refl
begun_steps (OddPiece why) = refl

done_steps : (piece : Piece) (value : Flow) → takes_piece piece (erased (done value)) ≡ false
done_steps (Opening bracket) value = refl
done_steps (Closing bracket) value = refl
done_steps Comma value = refl
done_steps (CellKey text) value = refl
done_steps (CellScalar text) value = refl
done_steps (CellAnchor text) value = refl
done_steps (CellAlias text) value = refl
done_steps (OddPiece why) value = refl

pub piece_steps : (piece : Piece) (old : Shape) → Steps piece old (with_piece piece old) (takes_piece piece (erased old))
piece_steps piece start = begun_steps piece
piece_steps piece (cell_next bracket cells outer) = cell_steps piece bracket cells outer
piece_steps piece (value_next cells key outer) = value_steps piece cells key outer
piece_steps piece (named_next place name outer) = named_steps piece place name outer
piece_steps piece (end_next bracket cells outer) = end_steps piece bracket cells outer
piece_steps piece (done value) = done_steps piece value

-- ---- the first piece that can't stand

-- a piece more behind what is read
one_more : (front : List Piece) (piece : Piece) (shape : Shape) → with_pieces front start ≡ Some shape → with_pieces (front ++ (piece ∷ [])) start ≡ option_and_then (λ s. Some s) (with_piece piece shape)
one_more front piece shape e = with_pieces_append front (piece ∷ []) start ∙ ap (option_and_then (with_pieces (piece ∷ []))) e

may_go_on : (front : List Piece) (piece : Piece) (shape new : Shape) → with_pieces front start ≡ Some shape → with_piece piece shape ≡ Some new → FlowMayBegin (front ++ (piece ∷ []))
may_go_on front piece shape new e step = may_begin (front ++ (piece ∷ [])) new (one_more front piece shape e ∙ ap (option_and_then (λ s. Some s)) step)

may_not_go_on : (front : List Piece) (piece : Piece) (shape : Shape) → with_pieces front start ≡ Some shape → with_piece piece shape ≡ None → ¬ FlowMayBegin (front ++ (piece ∷ []))
may_not_go_on front piece shape e step h = let b = is_begun (front ++ (piece ∷ [])) h in none-some b.0 (sym (one_more front piece shape e ∙ ap (option_and_then (λ s. Some s)) step) ∙ b.1)

-- the scalar of an indicator beyond the profile may come exactly where a value may
indicator_kind : (front rest : List Piece) (shape : Shape) → with_pieces front start ≡ Some shape → IsPieceKind front (OddPiece odd.Indicator) rest (piece_fault (OddPiece odd.Indicator) rest (erased shape))
indicator_kind front rest shape e = by (with_piece (CellScalar None) shape) (takes_value (erased shape).want (erased shape).brackets) (piece_steps (CellScalar None) shape) refl
  where
    by : (next : Option Shape) (takes : Bool) → Steps (CellScalar None) shape next takes → with_piece (CellScalar None) shape ≡ next → IsPieceKind front (OddPiece odd.Indicator) rest (if takes then Unsupported else Syntax)
    by (Some new) true step is = may_go_on front (CellScalar None) shape new e is
    by (Some new) false step is = absurd (false≢true step.0)
    by None true step is = absurd (false≢true (sym step))
    by None false step is = may_not_go_on front (CellScalar None) shape e is

-- a scalar where a key may stand is told by what stands behind it
scalar_kind : (front : List Piece) (text : Option (List ℕ)) (rest : List Piece) (shape : Shape) → with_pieces front start ≡ Some shape → IsPieceKind front (CellScalar text) rest (piece_fault (CellScalar text) rest (erased shape))
scalar_kind front text rest shape e = by (with_piece (CellKey []) shape) (takes_key (erased shape).want (erased shape).brackets) (piece_steps (CellKey []) shape) refl
  where
    by : (next : Option Shape) (takes : Bool) → Steps (CellKey []) shape next takes → with_piece (CellKey []) shape ≡ next → IsPieceKind front (CellScalar text) rest (if takes then kind_behind_key rest else Syntax)
    by (Some new) true step is = inl (may_go_on front (CellKey []) shape new e is, refl)
    by (Some new) false step is = absurd (false≢true step.0)
    by None true step is = absurd (false≢true (sym step))
    by None false step is = inr (may_not_go_on front (CellKey []) shape e is, refl)

kind_of : (front : List Piece) (piece : Piece) (rest : List Piece) (shape : Shape) → with_pieces front start ≡ Some shape → IsPieceKind front piece rest (piece_fault piece rest (erased shape))
kind_of front (Opening bracket) rest shape e = refl
kind_of front (Closing bracket) rest shape e = refl
kind_of front Comma rest shape e = refl
kind_of front (CellKey text) rest shape e = refl
kind_of front (CellScalar text) rest shape e = scalar_kind front text rest shape e
kind_of front (CellAnchor text) rest shape e = refl
kind_of front (CellAlias text) rest shape e = refl
kind_of front (OddPiece odd.Unkeyed) rest shape e = refl
kind_of front (OddPiece odd.Syntax) rest shape e = refl
kind_of front (OddPiece odd.Unsupported) rest shape e = refl
kind_of front (OddPiece odd.Indicator) rest shape e = indicator_kind front rest shape e

misfit_here : (front : List Piece) (piece : Piece) (rest : List Piece) (shape : Shape) → with_pieces front start ≡ Some shape → with_piece piece shape ≡ None → IsFirstMisfit (front ++ (piece ∷ rest)) (piece_fault piece rest (erased shape))
misfit_here front piece rest shape e step = record {
  front = front;
  piece = piece;
  rest = rest;
  parts = refl;
  begins = may_begin front shape e;
  ends = may_not_go_on front piece shape e step;
  kind_is = kind_of front piece rest shape e;
}

-- ---- the line's end

not_done : (front : List Piece) (shape : Shape) → with_pieces front start ≡ Some shape → is_done (erased shape).want ≡ false → IsFlowMisfit front Unsupported
not_done front shape e open_yet = inr (record {
  begins = may_begin front shape e;
  open_still = λ value h. false≢true (sym open_yet ∙ ap (λ s. is_done (erased s).want) (same_Some _ _ (sym e ∙ done_when_spelled front value h)));
  kind_is = refl;
})

end_judged : (front : List Piece) (shape : Shape) → with_pieces front start ≡ Some shape → FlowJudged front (fault_from [] (erased shape))
unfolding fault_from
end_judged front start e = not_done front start e refl
end_judged front (cell_next bracket cells outer) e = not_done front (cell_next bracket cells outer) e refl
end_judged front (value_next cells key outer) e = not_done front (value_next cells key outer) e refl
end_judged front (named_next place name outer) e = not_done front (named_next place name outer) e refl
end_judged front (end_next bracket cells outer) e = not_done front (end_next bracket cells outer) e refl
end_judged front (done value) e = (value, spelled_when_done front value e)

-- ---- pieces from the left

judged_from : (pieces front : List Piece) (shape : Shape) → with_pieces front start ≡ Some shape → FlowJudged (front ++ pieces) (fault_from pieces (erased shape))
unfolding fault_from
judged_from [] front shape e = subst (λ l. FlowJudged l (fault_from [] (erased shape))) (sym (append-nil front)) (end_judged front shape e)
judged_from (piece ∷ pieces) front shape e = by (with_piece piece shape) (takes_piece piece (erased shape)) (piece_steps piece shape) refl (λ new is. judged_from pieces (front ++ (piece ∷ [])) new is)
  where
    by : (next : Option Shape) (takes : Bool) → Steps piece shape next takes → with_piece piece shape ≡ next → ((new : Shape) → with_pieces (front ++ (piece ∷ [])) start ≡ Some new → FlowJudged ((front ++ (piece ∷ [])) ++ pieces) (fault_from pieces (erased new))) → FlowJudged (front ++ (piece ∷ pieces)) (if takes then fault_from pieces (behind piece (erased shape)) else Some (piece_fault piece pieces (erased shape)))
    by (Some new) true step is later = subst (λ o. FlowJudged (front ++ (piece ∷ pieces)) (fault_from pieces o)) (sym step.1)
        (subst (λ l. FlowJudged l (fault_from pieces (erased new))) (append_assoc front (piece ∷ []) pieces)
        (later new (one_more front piece shape e ∙ ap (option_and_then (λ s. Some s)) is)))
    by (Some new) false step is later = absurd (false≢true step.0)
    by None true step is later = absurd (false≢true (sym step))
    by None false step is later = inl (misfit_here front piece pieces shape e is)

-- the pieces of a line are a flow form's, or have the fault that is found
pub flow_judged : (pieces : List Piece) → FlowJudged pieces (flow_fault pieces)
flow_judged pieces = judged_from pieces [] start refl
