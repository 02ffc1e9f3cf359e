-- Pieces as they are kept: each without its text, and the texts in order.
use Rattle.std.specs.Prelude.{◌≡◌, ℕ, ◌+◌, List, [], ◌∷◌, Option, Some, None, length, map, drop}
use Rattle.yaml_tokens.specs.inside.Kept.{bytes_in}
use Rattle.yaml_tokens.specs.declared.piece.Piece.{Piece}
use Rattle.yaml_tokens.specs.declared.piece.Piece.TheVariants.{Opening, Closing, Comma, CellKey, CellScalar, CellAnchor, CellAlias, OddPiece}
use Rattle.yaml_tokens.specs.declared.bare.PieceKind.{PieceKind}
use Rattle.yaml_tokens.specs.declared.bare.PieceKind.TheVariants as kind

-- the piece of a kind, without a text
abbrev pub piece_of : PieceKind → Piece
piece_of (kind.Opening bracket) = Opening bracket
piece_of (kind.Closing bracket) = Closing bracket
piece_of kind.Comma = Comma
piece_of kind.Key = CellKey []
piece_of kind.Scalar = CellScalar None
piece_of kind.Anchor = CellAnchor []
piece_of kind.Alias = CellAlias []
piece_of (kind.Odd why) = OddPiece why

-- the piece without its text
abbrev pub bare : Piece → Piece
bare (CellKey text) = CellKey []
bare (CellScalar text) = CellScalar None
bare (CellAnchor text) = CellAnchor []
bare (CellAlias text) = CellAlias []
bare piece = piece

-- its text, if it has one
abbrev pub texts_of : Piece → List (Option (List ℕ))
texts_of (CellKey text) = Some text ∷ []
texts_of (CellScalar text) = text ∷ []
texts_of (CellAnchor text) = Some text ∷ []
texts_of (CellAlias text) = Some text ∷ []
texts_of piece = []

abbrev pub first_text : List (Option (List ℕ)) → Option (List ℕ)
first_text [] = None
first_text (text ∷ texts) = text

-- the piece with the first of the texts, if it has one
abbrev pub with_text : Piece → List (Option (List ℕ)) → Piece
with_text (CellKey text) texts = CellKey (bytes_in (first_text texts))
with_text (CellScalar text) texts = CellScalar (first_text texts)
with_text (CellAnchor text) texts = CellAnchor (bytes_in (first_text texts))
with_text (CellAlias text) texts = CellAlias (bytes_in (first_text texts))
with_text piece texts = piece

-- each piece with its text
abbrev pub with_texts : List Piece → List (Option (List ℕ)) → List Piece
with_texts [] texts = []
with_texts (piece ∷ pieces) texts = with_text piece texts ∷ with_texts pieces (drop (length (texts_of piece)) texts)

abbrev pub text_count : List Piece → ℕ
text_count [] = 0
text_count (piece ∷ pieces) = length (texts_of piece) + text_count pieces

-- no piece has its text, and there is a text for each
pub record IsPacked (pieces : List Piece) (texts : List (Option (List ℕ))) : Type 0 where
  pub are_bare : map bare pieces ≡ pieces
  pub counted : length texts ≡ text_count pieces
