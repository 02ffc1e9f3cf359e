-- One line more of the loop over lines.
use Rattle.std.proofs.Common.{◌≡◌, ℕ, ◌+◌, Bool, true, false, ◌&&◌, ◌||◌, List, [], ◌∷◌, Result, Ok, Err, length, refl, sym, ap, ◌∙◌, arith}
use Rattle.yaml_tokens.specs.Lines.{split_lines}
use Rattle.std.specs.List.{list_all}
use Rattle.std.proofs.lemmas.List.Folds.{list_all-append}
use Rattle.sim_base.specs.Refusals.{◌>>=◌}
use Rattle.yaml_tokens.specs.Tokens.{has_content, next_place, line_tokens, tokens_from}
use Rattle.yaml_tree.specs.Written.{is_name}
use Rattle.yaml_tree.specs.inside.Builder.{read_line, at_line, read_lines, ReadsLine}
use Rattle.yaml_tokens.specs.declared.place.LinePlace.{LinePlace}
use Rattle.yaml_tree.specs.declared.builder.Builder.{Builder}
use Rattle.yaml_tree.specs.declared.fault.YamlFault.{YamlFault}
use Rattle.yaml_tree.specs.declared.fault.TreeError.{TreeError}
use Rattle.yaml_tree.specs.declared.fault.TreeError.TheVariants as tree

module _ (begun : Bool) (place : LinePlace) (number : ℕ) (text : List ℕ) (b : Builder) (w : Result Builder YamlFault) (so_far : read_lines begun place number (split_lines text) b ≡ w) where
  abbrev lines_behind : List ℕ → List ℕ → Builder → Result Builder YamlFault
  lines_behind line rest after = read_lines (begun || has_content line) (next_place begun place number line) (1 + number) (split_lines rest) after

  line_at : (line rest : List ℕ) → split_lines text ≡ line ∷ split_lines rest → (at_line number (read_line begun place number line b) >>= lines_behind line rest) ≡ w
  unfolding read_lines
  line_at line rest cut = ap (λ ls. read_lines begun place number ls b) (sym cut) ∙ so_far

  pub lines_go_on : (line rest : List ℕ) (after : Builder) (more : Bool) (next : LinePlace) → split_lines text ≡ line ∷ split_lines rest → at_line number (read_line begun place number line b) ≡ Ok after → more ≡ (begun || has_content line) → next ≡ next_place begun place number line → read_lines more next (number + 1) (split_lines rest) after ≡ w
  lines_go_on line rest after more next cut e m p = let n : number + 1 ≡ 1 + number = omega arith in
      (λ j. read_lines (m j) (p j) (n j) (split_lines rest) after)
      ∙ ap (λ r. r >>= lines_behind line rest) (sym e)
      ∙ line_at line rest cut

  pub line_is_refused : (A C : Type 0) (line rest : List ℕ) (error : TreeError) (new : Builder) → split_lines text ≡ line ∷ split_lines rest → ReadsLine {A = A} (Err error) new (at_line number (read_line begun place number line b)) → ReadsLine {A = C} (Err error) new w
  line_is_refused A C line rest (tree.Fault fault) new cut e = sym (line_at line rest cut) ∙ ap (λ r. r >>= lines_behind line rest) e
  line_is_refused A C line rest tree.NoMemory new cut e = tt

  nothing_left : (xs : List ℕ) → length xs ≡ 0 → split_lines xs ≡ []
  unfolding split_lines
  nothing_left [] e = refl
  nothing_left (x ∷ xs) e = absurd (omega (arith, e))

  pub lines_end : length text ≡ 0 → Ok b ≡ w
  unfolding read_lines
  lines_end e = ap (λ ls. read_lines begun place number ls b) (sym (nothing_left text e)) ∙ so_far

-- whether all tokens are names, a line further
pub names_go_on : (begun more : Bool) (place next : LinePlace) (number : ℕ) (text line rest : List ℕ) (so_far names w : Bool)
    → (so_far && list_all is_name (tokens_from begun place number (split_lines text))) ≡ w → split_lines text ≡ line ∷ split_lines rest
    → names ≡ list_all is_name (line_tokens begun place number line) → more ≡ (begun || has_content line) → next ≡ next_place begun place number line
    → ((so_far && names) && list_all is_name (tokens_from more next (number + 1) (split_lines rest))) ≡ w
unfolding tokens_from
names_go_on begun more place next number text line rest so_far names w told cut e m p =
    let n : number + 1 ≡ 1 + number = omega arith in
    (λ j. (so_far && e j) && list_all is_name (tokens_from (m j) (p j) (n j) (split_lines rest)))
    ∙ and_assoc so_far (list_all is_name (line_tokens begun place number line)) _
    ∙ ap (λ t. so_far && t) (sym (list_all-append is_name (line_tokens begun place number line) _))
    ∙ ap (λ ls. so_far && list_all is_name (tokens_from begun place number ls)) (sym cut)
    ∙ told
  where
    and_assoc : (a b c : Bool) → ((a && b) && c) ≡ (a && (b && c))
    and_assoc true b c = refl
    and_assoc false b c = refl

pub names_end : (begun : Bool) (place : LinePlace) (number : ℕ) (text : List ℕ) (so_far w : Bool)
    → (so_far && list_all is_name (tokens_from begun place number (split_lines text))) ≡ w → length text ≡ 0 → so_far ≡ w
unfolding tokens_from split_lines
names_end begun place number [] so_far w told e = and_true so_far ∙ told
  where
    and_true : (a : Bool) → a ≡ (a && true)
    and_true true = refl
    and_true false = refl
names_end begun place number (x ∷ xs) so_far w told e = absurd (omega (arith, e))
