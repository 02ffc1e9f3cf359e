-- Pieces that are kept apart from their texts.
use Rattle.std.proofs.Common.{◌≡◌, ℕ, ◌+◌, ◌-◌, ◌||◌, ◌==◌, if◌then◌else◌, length-append, List, [], ◌∷◌, ◌++◌, Option, length, map, drop, refl, ap, sym, ◌∙◌, arith}
use Rattle.std.proofs.lemmas.List.{map-append}
use Rattle.yaml_tokens.specs.inside.Kept.{bytes_in}
use Rattle.yaml_tokens.specs.declared.piece.Piece.{Piece}
use Rattle.yaml_tokens.specs.declared.piece.Piece.TheVariants.{Opening, Closing, Comma, CellKey, CellScalar, CellAnchor, CellAlias, OddPiece}
use Rattle.yaml_tokens.specs.declared.odd.Odd.TheVariants as odd
use Rattle.yaml_tokens.specs.Pieces.{closes_at, why_bracket}
use Rattle.yaml_tokens.specs.inside.Packed.{bare, texts_of, with_text, with_texts, text_count, IsPacked}

-- ---- what is read again

-- a piece has its text again
first_text : (piece : Piece) → with_text (bare piece) (texts_of piece) ≡ piece
first_text (Opening bracket) = refl
first_text (Closing bracket) = refl
first_text Comma = refl
first_text (CellKey text) = refl
first_text (CellScalar text) = refl
first_text (CellAnchor text) = refl
first_text (CellAlias text) = refl
first_text (OddPiece why) = refl

texts_more : (pieces : List Piece) (texts more : List (Option (List ℕ))) (piece : Piece) → length texts ≡ text_count pieces → with_texts (pieces ++ piece ∷ []) (texts ++ more) ≡ with_texts pieces texts ++ with_text piece more ∷ []
texts_more [] [] more piece h = refl
texts_more [] (text ∷ texts) more piece h = absurd (omega (arith, h))
texts_more (Opening bracket ∷ pieces) texts more piece h = ap (λ l. Opening bracket ∷ l) (texts_more pieces texts more piece (omega (arith, h)))
texts_more (Closing bracket ∷ pieces) texts more piece h = ap (λ l. Closing bracket ∷ l) (texts_more pieces texts more piece (omega (arith, h)))
texts_more (Comma ∷ pieces) texts more piece h = ap (λ l. Comma ∷ l) (texts_more pieces texts more piece (omega (arith, h)))
texts_more (CellKey old ∷ pieces) [] more piece h = absurd (omega (arith, h))
texts_more (CellKey old ∷ pieces) (text ∷ texts) more piece h = ap (λ l. CellKey (bytes_in text) ∷ l) (texts_more pieces texts more piece (omega (arith, h)))
texts_more (CellScalar old ∷ pieces) [] more piece h = absurd (omega (arith, h))
texts_more (CellScalar old ∷ pieces) (text ∷ texts) more piece h = ap (λ l. CellScalar text ∷ l) (texts_more pieces texts more piece (omega (arith, h)))
texts_more (CellAnchor old ∷ pieces) [] more piece h = absurd (omega (arith, h))
texts_more (CellAnchor old ∷ pieces) (text ∷ texts) more piece h = ap (λ l. CellAnchor (bytes_in text) ∷ l) (texts_more pieces texts more piece (omega (arith, h)))
texts_more (CellAlias old ∷ pieces) [] more piece h = absurd (omega (arith, h))
texts_more (CellAlias old ∷ pieces) (text ∷ texts) more piece h = ap (λ l. CellAlias (bytes_in text) ∷ l) (texts_more pieces texts more piece (omega (arith, h)))
texts_more (OddPiece why ∷ pieces) texts more piece h = ap (λ l. OddPiece why ∷ l) (texts_more pieces texts more piece (omega (arith, h)))

-- a piece more is read again behind the others
pub one_more : (pieces : List Piece) (texts : List (Option (List ℕ))) (piece : Piece) → IsPacked pieces texts → with_texts (pieces ++ bare piece ∷ []) (texts ++ texts_of piece) ≡ with_texts pieces texts ++ piece ∷ []
one_more pieces texts piece h = texts_more pieces texts (texts_of piece) (bare piece) h.counted ∙ ap (λ p. with_texts pieces texts ++ p ∷ []) (first_text piece)

-- ---- what is kept

bare_bare : (piece : Piece) → bare (bare piece) ≡ bare piece
bare_bare (Opening bracket) = refl
bare_bare (Closing bracket) = refl
bare_bare Comma = refl
bare_bare (CellKey text) = refl
bare_bare (CellScalar text) = refl
bare_bare (CellAnchor text) = refl
bare_bare (CellAlias text) = refl
bare_bare (OddPiece why) = refl

texts_bare : (piece : Piece) → length (texts_of (bare piece)) ≡ length (texts_of piece)
texts_bare (Opening bracket) = refl
texts_bare (Closing bracket) = refl
texts_bare Comma = refl
texts_bare (CellKey text) = refl
texts_bare (CellScalar text) = refl
texts_bare (CellAnchor text) = refl
texts_bare (CellAlias text) = refl
texts_bare (OddPiece why) = refl

count_more : (pieces : List Piece) (piece : Piece) → text_count (pieces ++ piece ∷ []) ≡ text_count pieces + length (texts_of piece)
count_more [] piece = omega arith
count_more (p ∷ pieces) piece = let more = count_more pieces piece in omega (arith, more)

pub packed_more : (pieces : List Piece) (texts : List (Option (List ℕ))) (piece : Piece) → IsPacked pieces texts → IsPacked (pieces ++ bare piece ∷ []) (texts ++ texts_of piece)
packed_more pieces texts piece h = record {
  are_bare = map-append bare pieces (bare piece ∷ []) ∙ ap (λ l. l ++ bare (bare piece) ∷ []) h.are_bare ∙ ap (λ p. pieces ++ p ∷ []) (bare_bare piece);
  counted = let more = count_more pieces (bare piece) in let same = texts_bare piece in let before = h.counted in grind (arith, length-append);
}

pub packed_as : (pieces : List Piece) (texts : List (Option (List ℕ))) (piece kind : Piece) (text : List (Option (List ℕ))) (all : List Piece) (all_texts : List (Option (List ℕ))) → IsPacked pieces texts → kind ≡ bare piece → text ≡ texts_of piece →
    all ≡ pieces ++ kind ∷ [] → all_texts ≡ texts ++ text → IsPacked all all_texts
packed_as pieces texts piece kind text all all_texts h of_kind of_text are have = let h' = packed_more pieces texts piece h in
    let e : all ≡ pieces ++ bare piece ∷ [] = are ∙ ap (λ k. pieces ++ k ∷ []) of_kind in
    let f : all_texts ≡ texts ++ texts_of piece = have ∙ ap (λ l. texts ++ l) of_text in
    record { are_bare = ap (map bare) e ∙ h'.are_bare ∙ sym e; counted = ap length f ∙ h'.counted ∙ sym (ap text_count e) }

pub packed_none : IsPacked [] []
packed_none = record { are_bare = refl; counted = refl }

-- ---- the pieces without their texts

bare_text : (piece : Piece) (texts : List (Option (List ℕ))) → bare (with_text piece texts) ≡ bare piece
bare_text (Opening bracket) texts = refl
bare_text (Closing bracket) texts = refl
bare_text Comma texts = refl
bare_text (CellKey text) texts = refl
bare_text (CellScalar text) texts = refl
bare_text (CellAnchor text) texts = refl
bare_text (CellAlias text) texts = refl
bare_text (OddPiece why) texts = refl

bare_texts : (pieces : List Piece) (texts : List (Option (List ℕ))) → map bare (with_texts pieces texts) ≡ map bare pieces
bare_texts [] texts = refl
bare_texts (piece ∷ pieces) texts = ap (λ p. p ∷ map bare (with_texts pieces (drop (length (texts_of piece)) texts))) (bare_text piece texts)
    ∙ ap (λ l. bare piece ∷ l) (bare_texts pieces (drop (length (texts_of piece)) texts))

pub kept_bare : (pieces : List Piece) (texts : List (Option (List ℕ))) → IsPacked pieces texts → pieces ≡ map bare (with_texts pieces texts)
kept_bare pieces texts h = sym (bare_texts pieces texts ∙ h.are_bare)

-- ---- brackets are no texts

pub closes_bare : (n : ℕ) (pieces : List Piece) → closes_at n (map bare pieces) ≡ closes_at n pieces
closes_bare n [] = refl
closes_bare n (Opening bracket ∷ pieces) = closes_bare (n + 1) pieces
closes_bare n (Closing bracket ∷ pieces) = ap (λ b. (n == 0) || b) (closes_bare (n - 1) pieces)
closes_bare n (Comma ∷ pieces) = closes_bare n pieces
closes_bare n (CellKey text ∷ pieces) = closes_bare n pieces
closes_bare n (CellScalar text ∷ pieces) = closes_bare n pieces
closes_bare n (CellAnchor text ∷ pieces) = closes_bare n pieces
closes_bare n (CellAlias text ∷ pieces) = closes_bare n pieces
closes_bare n (OddPiece why ∷ pieces) = closes_bare n pieces

pub bare_bracket : (pieces : List Piece) → why_bracket (map bare pieces) ≡ why_bracket pieces
bare_bracket [] = refl
bare_bracket (piece ∷ pieces) = ap (λ b. if b then odd.Syntax else odd.Unsupported) (closes_bare 0 pieces)
