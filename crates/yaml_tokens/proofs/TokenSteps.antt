-- One byte more of a line before its row.
use Rattle.std.proofs.Common.{◌≡◌, ℕ, ◌+◌, ◌<◌, ◌≤◌, true, false, cond, List, [], ◌∷◌, ◌++◌, length, get_or, drop, sym, ap, ◌∙◌, append_assoc, arith, eq-eqb}
use Rattle.std.proofs.lemmas.Bool.{cond-true, cond-false, ne_eqb}
use Rattle.std.proofs.lemmas.List.{drop_more, at_drop_all, append-nil}
use Rattle.sim_base.specs.Ascii.{space}
use Rattle.yaml_tokens.specs.Scalars.{is_space}
use Rattle.yaml_tokens.specs.Tokens.{is_dash, named_node, node_tokens}
use Rattle.yaml_tokens.specs.declared.token.Token.{Token}
use Rattle.yaml_tokens.specs.declared.token.Token.TheVariants.{Dash}

module _ (line : ℕ) (xs : List ℕ) (i : ℕ) (tokens w : List Token) (so_far : tokens ++ node_tokens line i (drop i xs) ≡ w) where
  abbrev here : ℕ
  here = get_or xs i 0

  abbrev rest : List ℕ
  rest = drop (i + 1) xs

  abbrev later : List Token
  later = node_tokens line (1 + i) rest

  node_at : i < length xs → node_tokens line i (drop i xs) ≡ cond (is_space here) later (cond (is_dash here rest) (Dash line i ∷ later) (named_node line i here rest))
  unfolding node_tokens
  node_at lt = ap (node_tokens line i) (drop_more xs i 0 lt)

  later_is : node_tokens line (i + 1) rest ≡ later
  later_is = let e : i + 1 ≡ 1 + i = omega arith in ap (λ n. node_tokens line n rest) e

  pub space_goes_on : i < length xs → here ≡ space → tokens ++ node_tokens line (i + 1) rest ≡ w
  space_goes_on lt e = ap (λ more. tokens ++ more) (later_is ∙ sym (node_at lt ∙ cond-true (is_space here) _ _ (eq-eqb here space e))) ∙ so_far

  pub dash_goes_on : (after : List Token) → i < length xs → (here ≡ space → ⊥) → is_dash here rest ≡ true → after ≡ tokens ++ (Dash line i ∷ []) → after ++ node_tokens line (i + 1) rest ≡ w
  dash_goes_on after lt ne d e = (λ j. e j ++ later_is j) ∙ append_assoc tokens (Dash line i ∷ []) later
      ∙ ap (λ more. tokens ++ more) (sym (node_at lt ∙ cond-false (is_space here) _ _ (ne_eqb here space ne) ∙ cond-true (is_dash here rest) _ _ d)) ∙ so_far

  pub node_ends : (after : List Token) → i < length xs → (here ≡ space → ⊥) → is_dash here rest ≡ false → after ≡ tokens ++ named_node line i here rest → after ≡ w
  node_ends after lt ne d e = e ∙ ap (λ more. tokens ++ more) (sym (node_at lt ∙ cond-false (is_space here) _ _ (ne_eqb here space ne) ∙ cond-false (is_dash here rest) _ _ d)) ∙ so_far

  pub line_ends : length xs ≤ i → tokens ≡ w
  unfolding node_tokens
  line_ends le = sym (append-nil tokens) ∙ ap (λ more. tokens ++ more) (sym (at_drop_all (node_tokens line i) xs i le)) ∙ so_far
