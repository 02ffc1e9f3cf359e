-- The steps of the loops over the pieces of a flow form.
use Rattle.std.proofs.Common.{◌≡◌, ℕ, ◌+◌, ◌<◌, true, false, cond, List, [], ◌∷◌, Some, length, map, drop, get_or, refl, sym, ap, ◌∙◌}
use Rattle.std.specs.Prelude.{if◌then◌else◌}
use Rattle.std.proofs.lemmas.Bool.{cond-true, cond-false}
use Rattle.yaml_tokens.specs.declared.piece.Piece.{Piece}
use Rattle.yaml_tokens.specs.declared.piece.Piece.TheVariants.{Opening, Closing, Comma, CellKey, CellScalar, CellAnchor, CellAlias, OddPiece}
use Rattle.yaml_tokens.specs.declared.odd.Odd.TheVariants as odd
use Rattle.yaml_tokens.specs.inside.Packed.{bare}
use Rattle.yaml_tokens.proofs.PackedLaws.{closes_bare}
use Rattle.yaml_tree.specs.declared.shape.Shape.{Shape}
use Rattle.yaml_tree.specs.declared.shape.Want.TheVariants as want
use Rattle.yaml_tree.specs.declared.fault.FaultKind.TheVariants.{Syntax, Unsupported}
use Rattle.yaml_tree.specs.Flows.{kind_behind_key}
use Rattle.yaml_tokens.proofs.BracketSteps.{here}
use Rattle.yaml_tree.specs.inside.Outline.{takes_key, takes_piece, behind, piece_fault, fault_from, flow_fault}

-- ---- the fault of pieces

pub fault_drop : (pieces : List Piece) (i : ℕ) (piece : Piece) (shape : Shape) → i < length pieces → piece ≡ get_or pieces i piece → fault_from (drop i pieces) shape ≡ cond (takes_piece piece shape) (fault_from (drop (i + 1) pieces) (behind piece shape)) (Some (piece_fault piece (drop (i + 1) pieces) shape))
unfolding fault_from
fault_drop pieces i piece shape within is = ap (λ l. fault_from l shape) (here pieces i piece within is)

pub faults_on : (pieces : List Piece) (i : ℕ) (piece : Piece) (shape : Shape) → fault_from (drop i pieces) shape ≡ flow_fault pieces → i < length pieces → piece ≡ get_or pieces i piece → takes_piece piece shape ≡ true → fault_from (drop (i + 1) pieces) (behind piece shape) ≡ flow_fault pieces
faults_on pieces i piece shape h within is takes = sym (fault_drop pieces i piece shape within is ∙ cond-true (takes_piece piece shape) _ _ takes) ∙ h

pub faults_here : (pieces : List Piece) (i : ℕ) (piece : Piece) (shape : Shape) → fault_from (drop i pieces) shape ≡ flow_fault pieces → i < length pieces → piece ≡ get_or pieces i piece → takes_piece piece shape ≡ false → Some (piece_fault piece (drop (i + 1) pieces) shape) ≡ flow_fault pieces
faults_here pieces i piece shape h within is takes = sym (fault_drop pieces i piece shape within is ∙ cond-false (takes_piece piece shape) _ _ takes) ∙ h

-- ---- no text tells a fault

takes_piece_bare : (piece : Piece) (shape : Shape) → takes_piece (bare piece) shape ≡ takes_piece piece shape
takes_piece_bare (Opening bracket) shape = refl
takes_piece_bare (Closing bracket) shape = refl
takes_piece_bare Comma shape = refl
takes_piece_bare (CellKey text) shape = refl
takes_piece_bare (CellScalar text) shape = refl
takes_piece_bare (CellAnchor text) shape = refl
takes_piece_bare (CellAlias text) shape = refl
takes_piece_bare (OddPiece why) shape = refl

behind_bare : (piece : Piece) (shape : Shape) → behind (bare piece) shape ≡ behind piece shape
behind_bare (Opening bracket) shape = refl
behind_bare (Closing bracket) shape = refl
behind_bare Comma shape = refl
behind_bare (CellKey text) shape = refl
behind_bare (CellScalar text) shape = refl
behind_bare (CellAnchor text) shape = refl
behind_bare (CellAlias text) shape = refl
behind_bare (OddPiece why) shape = refl

kind_behind_key_bare : (pieces : List Piece) → kind_behind_key (map bare pieces) ≡ kind_behind_key pieces
kind_behind_key_bare [] = refl
kind_behind_key_bare (Opening bracket ∷ pieces) = ap (λ b. if b then Syntax else Unsupported) (closes_bare 0 pieces)
kind_behind_key_bare (Closing bracket ∷ pieces) = refl
kind_behind_key_bare (Comma ∷ pieces) = refl
kind_behind_key_bare (CellKey text ∷ pieces) = refl
kind_behind_key_bare (CellScalar text ∷ pieces) = refl
kind_behind_key_bare (CellAnchor text ∷ pieces) = refl
kind_behind_key_bare (CellAlias text ∷ pieces) = refl
kind_behind_key_bare (OddPiece odd.Indicator ∷ pieces) = refl
kind_behind_key_bare (OddPiece odd.Unkeyed ∷ pieces) = refl
kind_behind_key_bare (OddPiece odd.Unsupported ∷ pieces) = refl
kind_behind_key_bare (OddPiece odd.Syntax ∷ pieces) = refl

piece_fault_bare : (piece : Piece) (pieces : List Piece) (shape : Shape) → piece_fault (bare piece) (map bare pieces) shape ≡ piece_fault piece pieces shape
piece_fault_bare (Opening bracket) pieces shape = ap (λ b. if b then Syntax else Unsupported) (closes_bare 0 pieces)
piece_fault_bare (Closing bracket) pieces shape = refl
piece_fault_bare Comma pieces shape = refl
piece_fault_bare (CellKey text) pieces shape = refl
piece_fault_bare (CellScalar text) pieces shape = ap (λ k. if takes_key shape.want shape.brackets then k else Syntax) (kind_behind_key_bare pieces)
piece_fault_bare (CellAnchor text) pieces shape = refl
piece_fault_bare (CellAlias text) pieces shape = refl
piece_fault_bare (OddPiece odd.Indicator) pieces shape = refl
piece_fault_bare (OddPiece odd.Unkeyed) pieces shape = refl
piece_fault_bare (OddPiece odd.Unsupported) pieces shape = refl
piece_fault_bare (OddPiece odd.Syntax) pieces shape = refl

fault_from_bare : (pieces : List Piece) (shape : Shape) → fault_from (map bare pieces) shape ≡ fault_from pieces shape
unfolding fault_from
fault_from_bare [] shape = refl
fault_from_bare (piece ∷ pieces) shape = ap (λ b. if b then fault_from (map bare pieces) (behind (bare piece) shape) else Some (piece_fault (bare piece) (map bare pieces) shape)) (takes_piece_bare piece shape)
    ∙ ap (λ s. if takes_piece piece shape then fault_from (map bare pieces) s else Some (piece_fault (bare piece) (map bare pieces) shape)) (behind_bare piece shape)
    ∙ ap (λ k. if takes_piece piece shape then fault_from (map bare pieces) (behind piece shape) else Some k) (piece_fault_bare piece pieces shape)
    ∙ ap (λ f. if takes_piece piece shape then f else Some (piece_fault piece pieces shape)) (fault_from_bare pieces (behind piece shape))

pub bare_flow_fault : (pieces : List Piece) → flow_fault (map bare pieces) ≡ flow_fault pieces
bare_flow_fault pieces = fault_from_bare pieces (record { want = want.Form; brackets = [] })
