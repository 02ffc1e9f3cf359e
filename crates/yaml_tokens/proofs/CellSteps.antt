-- One step more over a flow form: each lemma is on what is left from a place on.
use Rattle.std.proofs.Common.{◌≡◌, ℕ, ◌+◌, ◌<◌, ◌≤◌, Bool, true, false, cond, List, [], ◌∷◌, ◌++◌, Option, Some, None, length, get_or, drop, refl, sym, ap, ◌∙◌, append_assoc, arith, suc, zero}
use Rattle.std.proofs.lemmas.Bool.{cond-true, cond-false}
use Rattle.std.proofs.lemmas.List.{drop_more, at_drop_all, append-nil}
use Rattle.yaml_tokens.specs.Pieces.{cell_ends, cell_len, CellStep, step_at, open_after, put_piece, is_last, with_step, found_at}
use Rattle.yaml_tokens.specs.declared.piece.Piece.{Piece}

-- ---- plain

module _ (xs : List ℕ) (i w : ℕ) (so_far : i + cell_len (drop i xs) ≡ w) where
  cell_at : i < length xs → cell_len (drop i xs) ≡ cond (cell_ends (get_or xs i 0) (drop (i + 1) xs)) 0 (1 + cell_len (drop (i + 1) xs))
  unfolding cell_len
  cell_at lt = ap cell_len (drop_more xs i 0 lt)

  pub cell_goes_on : (r : Bool) → i < length xs → r ≡ cell_ends (get_or xs i 0) (drop (i + 1) xs) → r ≡ false → (i + 1) + cell_len (drop (i + 1) xs) ≡ w
  cell_goes_on r lt e f = let step = cell_at lt ∙ cond-false _ _ _ (sym e ∙ f) in omega (arith, step, so_far)

  pub cell_stops : (r : Bool) → i < length xs → r ≡ cell_ends (get_or xs i 0) (drop (i + 1) xs) → r ≡ true → i ≡ w
  cell_stops r lt e t = let step = cell_at lt ∙ cond-true _ _ _ (sym e ∙ t) in omega (arith, step, so_far)

  pub cell_is_over : length xs ≤ i → i ≤ length xs → length xs ≡ w
  unfolding cell_len
  cell_is_over le ge = let none : cell_len (drop i xs) ≡ 0 = at_drop_all cell_len xs i le in omega arith

-- ---- pieces

passed_pieces : (skip n : ℕ) (xs : List ℕ) → (found_at skip n xs).pieces ≡ (found_at 0 n (drop skip xs)).pieces
unfolding found_at
passed_pieces zero n xs = refl
passed_pieces (suc skip) n [] = refl
passed_pieces (suc skip) n (b ∷ xs) = passed_pieces skip n xs

passed_len : (skip n : ℕ) (xs : List ℕ) → skip ≤ length xs → (found_at skip n xs).len ≡ skip + (found_at 0 n (drop skip xs)).len
unfolding found_at
passed_len zero n xs le = omega arith
passed_len (suc skip) n [] le = absurd (omega (arith, le))
passed_len (suc skip) n (b ∷ xs) le = let more = passed_len skip n xs (omega (arith, le)) in omega (arith, more)

put_first : (piece : Option Piece) (pieces : List Piece) → put_piece piece pieces ≡ put_piece piece [] ++ pieces
put_first None pieces = refl
put_first (Some piece) pieces = refl

-- the pieces behind a front, from a step on
module _ (b : ℕ) (behind rest : List ℕ) (n : ℕ) (step : CellStep) (is : step ≡ step_at b behind) (whole : rest ≡ b ∷ behind) where
  found_step : found_at 0 n rest ≡ with_step step n (found_at step.skip (open_after step.piece n) behind)
  unfolding found_at
  found_step = ap (found_at 0 n) whole ∙ ap (λ s. with_step s n (found_at s.skip (open_after s.piece n) behind)) (sym is)

  module _ (last : Bool) (told : last ≡ is_last step.piece n) where
    pub pieces_go_on : last ≡ false → (front more : List Piece) (next : ℕ) (after : List ℕ) (w : List Piece) → front ++ (found_at 0 n rest).pieces ≡ w → more ≡ front ++ put_piece step.piece [] → next ≡ open_after step.piece n → after ≡ drop step.skip behind → more ++ (found_at 0 next after).pieces ≡ w
    pieces_go_on f front more next after w so_far m o a = let tail = (found_at 0 (open_after step.piece n) (drop step.skip behind)).pieces in
        (λ j. m j ++ (found_at 0 (o j) (a j)).pieces)
        ∙ append_assoc front (put_piece step.piece []) tail
        ∙ ap (λ l. front ++ l) (sym (put_first step.piece tail))
        ∙ ap (λ l. front ++ put_piece step.piece l) (sym (passed_pieces step.skip (open_after step.piece n) behind))
        ∙ ap (λ q. front ++ put_piece step.piece (cond q [] (found_at step.skip (open_after step.piece n) behind).pieces)) (sym f ∙ told)
        ∙ ap (λ l. front ++ l.pieces) (sym found_step) ∙ so_far

    pub pieces_end : last ≡ true → (front more : List Piece) (w : List Piece) → front ++ (found_at 0 n rest).pieces ≡ w → more ≡ front ++ put_piece step.piece [] → more ≡ w
    pieces_end t front more w so_far m = m
        ∙ ap (λ q. front ++ put_piece step.piece (cond q [] (found_at step.skip (open_after step.piece n) behind).pieces)) (sym t ∙ told)
        ∙ ap (λ l. front ++ l.pieces) (sym found_step) ∙ so_far

    pub len_goes_on : last ≡ false → step.skip ≤ length behind → (next : ℕ) (after : List ℕ) → next ≡ open_after step.piece n → after ≡ drop step.skip behind → (found_at 0 n rest).len ≡ 1 + (step.skip + (found_at 0 next after).len)
    len_goes_on f le next after o a = ap (λ l. l.len) found_step
        ∙ ap (λ q. cond q 1 (1 + (found_at step.skip (open_after step.piece n) behind).len)) (sym told ∙ f)
        ∙ ap (λ k. 1 + k) (passed_len step.skip (open_after step.piece n) behind le)
        ∙ (λ j. 1 + (step.skip + (found_at 0 (sym o j) (sym a j)).len))

    pub len_ends : last ≡ true → (found_at 0 n rest).len ≡ 1
    len_ends t = ap (λ l. l.len) found_step
        ∙ ap (λ q. cond q 1 (1 + (found_at step.skip (open_after step.piece n) behind).len)) (sym told ∙ t)

pub pieces_over : (rest : List ℕ) (n : ℕ) (front w : List Piece) → length rest ≡ 0 → front ++ (found_at 0 n rest).pieces ≡ w → front ≡ w
unfolding found_at
pieces_over [] n front w none so_far = sym (append-nil front) ∙ so_far
pieces_over (b ∷ rest) n front w none so_far = absurd (omega (arith, none))

pub len_over : (rest : List ℕ) (n : ℕ) → length rest ≡ 0 → (found_at 0 n rest).len ≡ 0
unfolding found_at
len_over [] n none = refl
len_over (b ∷ rest) n none = absurd (omega (arith, none))
