-- The first line of a text, and what is left.
use Rattle.std.proofs.Common.{◌≡◌, ℕ, ◌+◌, ◌<◌, ◌≤◌, Bool, true, false, ◌&&◌, not, cond, List, [], ◌∷◌, ◌++◌, length, take, drop, refl, sym, ap, ◌∙◌, subst, arith, ◌==◌, eq-eqb, suc}
use Rattle.std.proofs.lemmas.Bool.{cond-false, false≢true, ne_eqb, eqb-true}
use Rattle.std.proofs.lemmas.List.{take_all}
use Rattle.std.proofs.Math.ListN.{drop_of_length-le}
use Rattle.std.specs.List.{prefix_len}
use Rattle.sim_base.specs.Ascii.{carriage_return, line_feed}
use Rattle.yaml_tokens.specs.Lines.{byte_before, is_inside, without_return, split_lines}

without_return_end : (xs : List ℕ) → without_return (xs ++ (carriage_return ∷ [])) ≡ xs
unfolding without_return
without_return_end [] = refl
without_return_end (b ∷ []) = refl
without_return_end (b ∷ c ∷ xs) = ap (λ l. b ∷ l) (without_return_end (c ∷ xs))

without_return_other : (xs : List ℕ) (y : ℕ) → (y ≡ carriage_return → ⊥) → without_return (xs ++ (y ∷ [])) ≡ xs ++ (y ∷ [])
unfolding without_return
without_return_other [] y n = cond-false (y == carriage_return) _ _ (ne_eqb y carriage_return n)
without_return_other (b ∷ []) y n = ap (λ l. b ∷ l) (cond-false (y == carriage_return) _ _ (ne_eqb y carriage_return n))
without_return_other (b ∷ c ∷ xs) y n = ap (λ l. b ∷ l) (without_return_other (c ∷ xs) y n)

pub return_taken : (line front : List ℕ) → line ≡ front ++ (carriage_return ∷ []) → front ≡ without_return line
return_taken line front e = sym (ap without_return e ∙ without_return_end front)

pub return_absent : (line front : List ℕ) (y : ℕ) → line ≡ front ++ (y ∷ []) → (y ≡ carriage_return → ⊥) → line ≡ without_return line
return_absent line front y e n = e ∙ sym (ap without_return e ∙ without_return_other front y n)

pub return_of_nothing : (line : List ℕ) → length line ≡ 0 → line ≡ without_return line
unfolding without_return
return_of_nothing [] e = refl
return_of_nothing (b ∷ line) e = absurd (omega (arith, e))

pub length_without_return : (xs : List ℕ) → length (without_return xs) ≤ length xs
unfolding without_return
length_without_return [] = omega arith
length_without_return (b ∷ []) = elim (b == carriage_return) as (λ q. length (cond q [] (b ∷ [])) ≤ 1) [ true ↦ omega arith | false ↦ omega arith ]
length_without_return (b ∷ c ∷ xs) = let more = length_without_return (c ∷ xs) in omega arith

and_false : (a : Bool) → (a && false) ≡ false
and_false true = refl
and_false false = refl

abbrev pub AllInside : List ℕ → Type 0
AllInside [] = Unit {0}
AllInside (b ∷ bytes) = (b ≡ line_feed → ⊥) × AllInside bytes

split_at_feed : (p r : List ℕ) → AllInside p → split_lines (p ++ (line_feed ∷ r)) ≡ without_return p ∷ split_lines r
unfolding split_lines without_return
split_at_feed [] r h = refl
split_at_feed (b ∷ []) r h = cond-false (b == line_feed) _ _ (ne_eqb b line_feed h.0)
    ∙ (elim (b == carriage_return) as (λ q. cond (q && true) ([] ∷ split_lines r) ((b ∷ []) ∷ split_lines r) ≡ cond q [] (b ∷ []) ∷ split_lines r) [ true ↦ refl | false ↦ refl ])
split_at_feed (b ∷ c ∷ p) r h = cond-false (b == line_feed) _ _ (ne_eqb b line_feed h.0)
    ∙ cond-false ((b == carriage_return) && (c == line_feed)) _ _ (ap (λ q. (b == carriage_return) && q) (ne_eqb c line_feed h.1.0) ∙ and_false (b == carriage_return))
    ∙ ap (byte_before b) (split_at_feed (c ∷ p) r h.1)

split_no_feed : (p : List ℕ) → AllInside p → 0 < length p → split_lines p ≡ p ∷ []
unfolding split_lines
split_no_feed [] h lt = absurd (omega (arith, lt))
split_no_feed (b ∷ []) h lt = cond-false (b == line_feed) _ _ (ne_eqb b line_feed h.0) ∙ cond-false ((b == carriage_return) && false) _ _ (and_false (b == carriage_return))
split_no_feed (b ∷ c ∷ p) h lt = cond-false (b == line_feed) _ _ (ne_eqb b line_feed h.0)
    ∙ cond-false ((b == carriage_return) && (c == line_feed)) _ _ (ap (λ q. (b == carriage_return) && q) (ne_eqb c line_feed h.1.0) ∙ and_false (b == carriage_return))
    ∙ ap (byte_before b) (split_no_feed (c ∷ p) h.1 (omega arith))

-- the bytes before the first line feed, and it
abbrev FirstFeed : List ℕ → ℕ → Type 0
FirstFeed bytes n = AllInside (take n bytes) × (n < length bytes → bytes ≡ take n bytes ++ (line_feed ∷ drop (suc n) bytes))

first_feed : (bytes : List ℕ) → FirstFeed bytes (prefix_len is_inside bytes)
first_feed [] = (tt, λ lt. absurd (omega (arith, lt)))
first_feed (b ∷ bytes) = elim (b == line_feed) as (λ q. (b == line_feed) ≡ q → FirstFeed (b ∷ bytes) (cond (not q) (1 + prefix_len is_inside bytes) 0)) [
  | true ↦ λ q. (tt, λ lt. ap (λ c. c ∷ bytes) (eqb-true b line_feed q))
  | false ↦ λ q. (let more = first_feed bytes in let e : suc (prefix_len is_inside bytes) ≡ 1 + prefix_len is_inside bytes = omega arith in
      subst (FirstFeed (b ∷ bytes)) e (((λ w. false≢true (sym q ∙ eq-eqb b line_feed w)), more.0), λ lt. ap (λ l. b ∷ l) (more.1 (omega (arith, lt)))))
] refl

module _ (bytes : List ℕ) (n : ℕ) (is : n ≡ prefix_len is_inside bytes) where
  found : FirstFeed bytes n
  found = subst (FirstFeed bytes) (sym is) (first_feed bytes)

  pub split_cut : n < length bytes → split_lines bytes ≡ without_return (take n bytes) ∷ split_lines (drop (n + 1) bytes)
  split_cut lt = let e : suc n ≡ n + 1 = omega arith in ap split_lines (found.1 lt) ∙ split_at_feed (take n bytes) (drop (suc n) bytes) found.0
      ∙ ap (λ k. without_return (take n bytes) ∷ split_lines (drop k bytes)) e

  pub split_whole : 0 < length bytes → n ≡ length bytes → split_lines bytes ≡ bytes ∷ split_lines (drop n bytes)
  unfolding split_lines
  split_whole lt e = split_no_feed bytes (subst AllInside (take_all n bytes (omega (arith, e))) found.0) lt
      ∙ ap (λ l. bytes ∷ split_lines l) (sym (drop_of_length-le bytes {i = n} (omega (arith, e))))
