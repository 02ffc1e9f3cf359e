-- The steps of the loop over the pieces behind a bracket.
use Rattle.std.proofs.Common.{◌≡◌, ℕ, ◌+◌, ◌-◌, ◌<◌, ◌≤◌, Bool, true, false, ◌||◌, cond, List, ◌∷◌, Some, length, take, drop, get_or, suc, refl, sym, ap, ◌∙◌, arith, ◌==◌, nat_le, add-one, drop-cons}
use Rattle.std.proofs.lemmas.Bool.{cond-true, cond-false}
use Rattle.std.proofs.lemmas.Bool.Decides.{nat_tests}
use Rattle.std.proofs.lemmas.List.{at_drop_all, length-drop}
use Rattle.std.proofs.Math.Seq.{take-length}
use Rattle.yaml_tokens.specs.declared.piece.Piece.{Piece}
use Rattle.yaml_tokens.specs.declared.piece.Piece.TheVariants.{Opening, Closing, Comma, CellKey, CellScalar, CellAnchor, CellAlias, OddPiece}
use Rattle.yaml_tokens.specs.Pieces.{open_after, is_last, closes_at}

-- the pieces from a place on, by the first of them
pub here : (pieces : List Piece) (i : ℕ) (piece : Piece) → i < length pieces → piece ≡ get_or pieces i piece → drop i pieces ≡ piece ∷ drop (i + 1) pieces
here pieces i piece within is = drop-cons pieces i piece within ∙ ap (λ p. p ∷ drop (suc i) pieces) (sym is) ∙ ap (λ n. piece ∷ drop n pieces) (sym (add-one i))

pub from_place : (pieces : List Piece) (i : ℕ) → take (length pieces - i) (drop i pieces) ≡ drop i pieces
from_place pieces i = ap (λ n. take n (drop i pieces)) (sym (length-drop i pieces)) ∙ take-length (drop i pieces)

-- ---- whether a bracket is closed

closing_step : (n : ℕ) (b : Bool) → ((n == 0) || b) ≡ cond (nat_le (n + 1) 1) true b
closing_step n b = grind (arith, nat_tests)

closes_step : (piece : Piece) (pieces : List Piece) (n : ℕ) → closes_at n (piece ∷ pieces) ≡ cond (is_last (Some piece) (n + 1)) true (closes_at (open_after (Some piece) (n + 1) - 1) pieces)
closes_step (Opening bracket) pieces n = ap (λ k. closes_at k pieces) (omega arith)
closes_step (Closing bracket) pieces n = closing_step n (closes_at (n - 1) pieces) ∙ ap (λ k. cond (nat_le (n + 1) 1) true (closes_at k pieces)) (omega arith)
closes_step Comma pieces n = ap (λ k. closes_at k pieces) (omega arith)
closes_step (CellKey text) pieces n = ap (λ k. closes_at k pieces) (omega arith)
closes_step (CellScalar text) pieces n = ap (λ k. closes_at k pieces) (omega arith)
closes_step (CellAnchor text) pieces n = ap (λ k. closes_at k pieces) (omega arith)
closes_step (CellAlias text) pieces n = ap (λ k. closes_at k pieces) (omega arith)
closes_step (OddPiece why) pieces n = ap (λ k. closes_at k pieces) (omega arith)

-- so many brackets are open behind some pieces, the first one counted
pub record LooksOn (pieces : List Piece) (i opened : ℕ) : Type 0 where
  pub is_open : 0 < opened
  pub fits : opened ≤ i + 1
  pub goes_on : closes_at (opened - 1) (drop i pieces) ≡ closes_at 0 pieces

pub looks_first : (pieces : List Piece) → LooksOn pieces 0 1
looks_first pieces = record { is_open = omega arith; fits = omega arith; goes_on = refl }

closing_more : (n : ℕ) → nat_le n 1 ≡ false → 0 < n - 1
closing_more n e = grind (arith, nat_tests)

open_more : (piece : Piece) (n : ℕ) → 0 < n → is_last (Some piece) n ≡ false → (0 < open_after (Some piece) n) × (open_after (Some piece) n ≤ n + 1)
open_more (Opening bracket) n some e = (omega arith, omega arith)
open_more (Closing bracket) n some e = (closing_more n e, omega arith)
open_more Comma n some e = (some, omega arith)
open_more (CellKey text) n some e = (some, omega arith)
open_more (CellScalar text) n some e = (some, omega arith)
open_more (CellAnchor text) n some e = (some, omega arith)
open_more (CellAlias text) n some e = (some, omega arith)
open_more (OddPiece why) n some e = (some, omega arith)

closes_drop : (pieces : List Piece) (i opened : ℕ) (piece : Piece) → LooksOn pieces i opened → i < length pieces → piece ≡ get_or pieces i piece → closes_at 0 pieces ≡ cond (is_last (Some piece) opened) true (closes_at (open_after (Some piece) opened - 1) (drop (i + 1) pieces))
closes_drop pieces i opened piece h within is = sym h.goes_on ∙ ap (closes_at (opened - 1)) (here pieces i piece within is) ∙ closes_step piece (drop (i + 1) pieces) (opened - 1) ∙ ap (λ n. cond (is_last (Some piece) n) true (closes_at (open_after (Some piece) n - 1) (drop (i + 1) pieces))) (let e = h.is_open in omega arith)

pub looks_on : (pieces : List Piece) (i opened : ℕ) (piece : Piece) → LooksOn pieces i opened → i < length pieces → piece ≡ get_or pieces i piece → is_last (Some piece) opened ≡ false → LooksOn pieces (i + 1) (open_after (Some piece) opened)
looks_on pieces i opened piece h within is last = let more = open_more piece opened h.is_open last in record {
  is_open = more.0;
  fits = let k = h.fits in let m = more.1 in omega arith;
  goes_on = sym (closes_drop pieces i opened piece h within is ∙ cond-false (is_last (Some piece) opened) _ _ last);
}

pub closes_here : (pieces : List Piece) (i opened : ℕ) (piece : Piece) → LooksOn pieces i opened → i < length pieces → piece ≡ get_or pieces i piece → is_last (Some piece) opened ≡ true → closes_at 0 pieces ≡ true
closes_here pieces i opened piece h within is last = closes_drop pieces i opened piece h within is ∙ cond-true (is_last (Some piece) opened) _ _ last

pub never_closes : (pieces : List Piece) (i opened : ℕ) → LooksOn pieces i opened → length pieces ≤ i → closes_at 0 pieces ≡ false
never_closes pieces i opened h over = sym h.goes_on ∙ at_drop_all (closes_at (opened - 1)) pieces i over
