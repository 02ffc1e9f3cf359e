-- One byte more of a scanner's loop: each lemma is on what is left from an index on.
use Rattle.std.proofs.Common.{◌≡◌, ℕ, ◌+◌, ◌<◌, ◌≤◌, Bool, true, false, ◌&&◌, not, cond, List, [], ◌++◌, Option, Some, None, option_map, option_and_then, length, get_or, drop, refl, sym, ap, ◌∙◌, append_assoc, arith, ◌==◌}
use Rattle.std.proofs.lemmas.Bool.{cond-true, cond-false}
use Rattle.std.proofs.lemmas.List.{drop_more, at_drop_all, append-nil}
use Rattle.sim_base.specs.Ascii.{backslash, quotation_mark}
use Rattle.yaml_tokens.specs.Scalars.{plain_ends, plain_len, single_quoted, double_len, holds_back, closes, single_part, with_part, unescaped, put_before, escape_step, added_bytes, is_outside}
use Rattle.yaml_tokens.specs.declared.escapes.Escape.{Escape}
use Rattle.yaml_tokens.specs.declared.escapes.Escape.TheVariants.{Outside, Behind, Digits}
use Rattle.yaml_tokens.specs.declared.escapes.Added.{Added}

-- what is found behind a front
abbrev pub behind_front : List ℕ → ℕ → Option (List ℕ × ℕ) → Option (List ℕ × ℕ)
behind_front text i = option_map (λ found. (text ++ found.0, i + found.1))

abbrev pub places_on : ℕ → Option ℕ → Option ℕ
places_on i = option_map (λ n. i + n)

-- ---- plain

module _ (xs : List ℕ) (i w : ℕ) (so_far : i + plain_len (drop i xs) ≡ w) where
  plain_at : i < length xs → plain_len (drop i xs) ≡ cond (plain_ends (get_or xs i 0) (drop (i + 1) xs)) 0 (1 + plain_len (drop (i + 1) xs))
  unfolding plain_len
  plain_at lt = ap plain_len (drop_more xs i 0 lt)

  pub plain_goes_on : (r : Bool) → i < length xs → r ≡ plain_ends (get_or xs i 0) (drop (i + 1) xs) → r ≡ false → (i + 1) + plain_len (drop (i + 1) xs) ≡ w
  plain_goes_on r lt e f = let step = plain_at lt ∙ cond-false _ _ _ (sym e ∙ f) in omega (arith, step, so_far)

  pub plain_stops : (r : Bool) → i < length xs → r ≡ plain_ends (get_or xs i 0) (drop (i + 1) xs) → r ≡ true → i ≡ w
  plain_stops r lt e t = let step = plain_at lt ∙ cond-true _ _ _ (sym e ∙ t) in omega (arith, step, so_far)

  pub plain_is_over : length xs ≤ i → i ≤ length xs → length xs ≡ w
  unfolding plain_len
  plain_is_over le ge = let none : plain_len (drop i xs) ≡ 0 = at_drop_all plain_len xs i le in omega arith

-- ---- in single quotes

module _ (xs : List ℕ) (i : ℕ) (held : Bool) (text : List ℕ) (w : Option (List ℕ × ℕ)) (so_far : behind_front text i (single_quoted held (drop i xs)) ≡ w) where
  single_at : i < length xs → single_quoted held (drop i xs) ≡ cond (closes held (get_or xs i 0)) (Some ([], 0)) (option_map (with_part (single_part held (get_or xs i 0))) (single_quoted (holds_back held (get_or xs i 0)) (drop (i + 1) xs)))
  unfolding single_quoted
  single_at lt = ap (single_quoted held) (drop_more xs i 0 lt)

  front_moves : (part : List ℕ) (found : Option (List ℕ × ℕ)) → behind_front (text ++ part) (i + 1) found ≡ behind_front text i (option_map (with_part part) found)
  front_moves part None = refl
  front_moves part (Some f) = let a : (text ++ part) ++ f.0 ≡ text ++ (part ++ f.0) = append_assoc text part f.0 in
      let n : (i + 1) + f.1 ≡ i + (1 + f.1) = omega arith in
      cc

  pub single_goes_on : (r next : Bool) (more : List ℕ) → i < length xs → r ≡ closes held (get_or xs i 0) → r ≡ false → next ≡ holds_back held (get_or xs i 0) → more ≡ text ++ single_part held (get_or xs i 0) → behind_front more (i + 1) (single_quoted next (drop (i + 1) xs)) ≡ w
  single_goes_on r next more lt e f n m =
      (λ j. behind_front (m j) (i + 1) (single_quoted (n j) (drop (i + 1) xs)))
      ∙ front_moves (single_part held (get_or xs i 0)) (single_quoted (holds_back held (get_or xs i 0)) (drop (i + 1) xs))
      ∙ ap (behind_front text i) (sym (single_at lt ∙ cond-false _ _ _ (sym e ∙ f))) ∙ so_far

  pub single_stops : (r : Bool) → i < length xs → r ≡ closes held (get_or xs i 0) → r ≡ true → Some (text, i) ≡ w
  single_stops r lt e t = let a : text ++ [] ≡ text = append-nil text in let n : i + 0 ≡ i = omega arith in
      let front : Some (text, i) ≡ Some (text ++ [], i + 0) = cc in
      front ∙ ap (behind_front text i) (sym (single_at lt ∙ cond-true _ _ _ (sym e ∙ t))) ∙ so_far

  single_over : length xs ≤ i → single_quoted held (drop i xs) ≡ cond held (Some ([], 0)) None
  unfolding single_quoted
  single_over le = at_drop_all (single_quoted held) xs i le

  pub single_ends : length xs ≤ i → i ≤ length xs → held ≡ true → Some (text, length xs) ≡ w
  single_ends le ge h = let a : text ++ [] ≡ text = append-nil text in let n : i + 0 ≡ length xs = omega arith in
      let front : Some (text, length xs) ≡ Some (text ++ [], i + 0) = cc in
      front ∙ ap (behind_front text i) (sym (single_over le ∙ cond-true _ _ _ h)) ∙ so_far

  pub single_is_open : length xs ≤ i → held ≡ false → None ≡ w
  single_is_open le h = ap (behind_front text i) (sym (single_over le ∙ cond-false _ _ _ h)) ∙ so_far

-- ---- in double quotes

module _ (xs : List ℕ) (i : ℕ) (escaped : Bool) (w : Option ℕ) (so_far : places_on i (double_len escaped (drop i xs)) ≡ w) where
  double_at : i < length xs → double_len escaped (drop i xs) ≡ cond ((get_or xs i 0 == quotation_mark) && not escaped) (Some 0) (option_map (λ n. 1 + n) (double_len ((get_or xs i 0 == backslash) && not escaped) (drop (i + 1) xs)))
  unfolding double_len
  double_at lt = ap (double_len escaped) (drop_more xs i 0 lt)

  places_move : (found : Option ℕ) → places_on (i + 1) found ≡ places_on i (option_map (λ n. 1 + n) found)
  places_move None = refl
  places_move (Some f) = let n : (i + 1) + f ≡ i + (1 + f) = omega arith in cc

  pub double_goes_on : (r next : Bool) → i < length xs → r ≡ ((get_or xs i 0 == quotation_mark) && not escaped) → r ≡ false → next ≡ ((get_or xs i 0 == backslash) && not escaped) → places_on (i + 1) (double_len next (drop (i + 1) xs)) ≡ w
  double_goes_on r next lt e f n =
      ap (λ q. places_on (i + 1) (double_len q (drop (i + 1) xs))) n
      ∙ places_move (double_len ((get_or xs i 0 == backslash) && not escaped) (drop (i + 1) xs))
      ∙ ap (places_on i) (sym (double_at lt ∙ cond-false _ _ _ (sym e ∙ f))) ∙ so_far

  pub double_stops : (r : Bool) → i < length xs → r ≡ ((get_or xs i 0 == quotation_mark) && not escaped) → r ≡ true → Some i ≡ w
  double_stops r lt e t = let n : i + 0 ≡ i = omega arith in
      let front : Some i ≡ Some (i + 0) = cc in
      front ∙ ap (places_on i) (sym (double_at lt ∙ cond-true _ _ _ (sym e ∙ t))) ∙ so_far

  pub double_is_open : length xs ≤ i → None ≡ w
  unfolding double_len
  double_is_open le = ap (places_on i) (sym (at_drop_all (double_len escaped) xs i le)) ∙ so_far

-- ---- escapes

module _ (xs : List ℕ) (i : ℕ) (place : Escape) (text : List ℕ) (w : Option (List ℕ)) (so_far : put_before text (unescaped place (drop i xs)) ≡ w) where
  unescaped_at : i < length xs → unescaped place (drop i xs) ≡ option_and_then (λ s. put_before (added_bytes s.1) (unescaped s.0 (drop (i + 1) xs))) (escape_step place (get_or xs i 0))
  unfolding unescaped
  unescaped_at lt = ap (unescaped place) (drop_more xs i 0 lt)

  text_moves : (part : List ℕ) (found : Option (List ℕ)) → put_before (text ++ part) found ≡ put_before text (put_before part found)
  text_moves part None = refl
  text_moves part (Some f) = ap Some (append_assoc text part f)

  pub escape_goes_on : (next : Escape) (added : Added) (more : List ℕ) → i < length xs → escape_step place (get_or xs i 0) ≡ Some (next, added) → more ≡ text ++ added_bytes added → put_before more (unescaped next (drop (i + 1) xs)) ≡ w
  escape_goes_on next added more lt e m =
      ap (λ t. put_before t (unescaped next (drop (i + 1) xs))) m ∙ text_moves (added_bytes added) (unescaped next (drop (i + 1) xs))
      ∙ ap (put_before text) (sym (unescaped_at lt ∙ ap (option_and_then (λ s. put_before (added_bytes s.1) (unescaped s.0 (drop (i + 1) xs)))) e)) ∙ so_far

  pub escape_is_bad : i < length xs → escape_step place (get_or xs i 0) ≡ None → None ≡ w
  escape_is_bad lt e = ap (put_before text) (sym (unescaped_at lt ∙ ap (option_and_then (λ s. put_before (added_bytes s.1) (unescaped s.0 (drop (i + 1) xs)))) e)) ∙ so_far

  escape_over : length xs ≤ i → unescaped place (drop i xs) ≡ cond (is_outside place) (Some []) None
  unfolding unescaped
  escape_over le = at_drop_all (unescaped place) xs i le

  pub escape_ends : length xs ≤ i → is_outside place ≡ true → Some text ≡ w
  escape_ends le h = ap Some (sym (append-nil text)) ∙ ap (put_before text) (sym (escape_over le ∙ cond-true _ _ _ h)) ∙ so_far

  pub escape_is_open : length xs ≤ i → is_outside place ≡ false → None ≡ w
  escape_is_open le h = ap (put_before text) (sym (escape_over le ∙ cond-false _ _ _ h)) ∙ so_far

pub not_outside : (place : Escape) → (place ≡ Outside → ⊥) → is_outside place ≡ false
not_outside Outside h = absurd (h refl)
not_outside Behind h = refl
not_outside (Digits left n) h = refl
