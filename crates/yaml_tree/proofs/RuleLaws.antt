-- Lines have one tree at most, the first lines of lines with a tree have one too, and a text with a tree has no fault.
use Rattle.std.proofs.Common.{None, ◌≡◌, ℕ, ◌+◌, ◌≤◌, Bool, true, false, ◌||◌, List, [], ◌∷◌, ◌++◌, Some, length, take, drop, refl, sym, ap, ◌∙◌, subst, append_assoc, arith}
use Rattle.std.specs.Option.{option_and_then}
use Rattle.std.proofs.lemmas.Bool.{false≢true}
use Rattle.std.proofs.lemmas.List.{take-append-drop}
use Rattle.yaml_tokens.specs.Lines.{lines_of}
use Rattle.yaml_tokens.specs.declared.place.LinePlace.{LinePlace}
use Rattle.yaml_tokens.specs.declared.place.LinePlace.TheVariants.{Outside}
use Rattle.yaml_tokens.specs.declared.token.Token.{Token}
use Rattle.yaml_tokens.specs.Tokens.{has_content, line_tokens, next_place, tokens_from, tokens_of}
use Rattle.yaml_tree.specs.Written.{Written, Spells}
use Rattle.yaml_tree.specs.Written.Written.{nothing}
use Rattle.yaml_tree.specs.Said.{Said, tree_of, has_repeat, has_unknown, levels, size}
use Rattle.yaml_tree.specs.Tree.{Says, IsTree, HasTree, IsMisfit, IsRefused, IsFirstRefused, IsTreeOf, IsFaultOf}
use Rattle.yaml_tree.specs.declared.fault.FaultKind.{FaultKind}
use Rattle.yaml_tree.specs.declared.fault.FaultKind.TheVariants.{NotUtf8, Syntax, Unsupported, Duplicate, Alias, TooDeep, TooManyNodes}
use Rattle.yaml_tree.proofs.Lists.{chained}
use Rattle.yaml_tree.proofs.WrittenLaws.{FlowReader, with_tokens, with_tokens_append, Spells_from_read, read_from_Spells, same_written}
use Rattle.yaml_tree.proofs.SaidGrowth.{with_tokens_grows}
use Rattle.yaml_tree.specs.Limits.{most_tree_levels, most_tree_nodes}

abbrev pub begun_after : Bool → List (List ℕ) → Bool
begun_after begun [] = begun
begun_after begun (line ∷ lines) = begun_after (begun || has_content line) lines

-- where the line behind these stands
abbrev pub place_of_next : Bool → LinePlace → ℕ → List (List ℕ) → LinePlace
place_of_next begun place n [] = place
place_of_next begun place n (line ∷ lines) = place_of_next (begun || has_content line) (next_place begun place n line) (1 + n) lines

pub tokens_from_append : (begun : Bool) (place : LinePlace) (n : ℕ) (xs ys : List (List ℕ)) → tokens_from begun place n (xs ++ ys) ≡ tokens_from begun place n xs ++ tokens_from (begun_after begun xs) (place_of_next begun place n xs) (n + length xs) ys
unfolding tokens_from
tokens_from_append begun place n [] ys = let e : n ≡ n + 0 = omega arith in ap (λ k. tokens_from begun place k ys) e
tokens_from_append begun place n (x ∷ xs) ys = let e : (1 + n) + length xs ≡ n + length (x ∷ xs) = omega arith in
    ap (λ ms. line_tokens begun place n x ++ ms) (tokens_from_append (begun || has_content x) (next_place begun place n x) (1 + n) xs ys)
    ∙ sym (append_assoc (line_tokens begun place n x) (tokens_from (begun || has_content x) (next_place begun place n x) (1 + n) xs) _)
    ∙ ap (λ k. tokens_from begun place n (x ∷ xs) ++ tokens_from (begun_after begun (x ∷ xs)) (place_of_next begun place n (x ∷ xs)) k ys) e

is_false : (a b : Bool) → (a ≡ true → b ≡ true) → b ≡ false → a ≡ false
is_false true b f h = absurd (false≢true (sym h ∙ f refl))
is_false false b f h = refl

pub one_tree : FlowReader → (lines : List (List ℕ)) (s t : Said) → Says lines s → Says lines t → s ≡ t
one_tree r lines s t a b = sym a.said ∙ ap tree_of (same_written r (tokens_of lines) a.written b.written a.spelled b.spelled) ∙ b.said

pub first_lines : FlowReader → (lines : List (List ℕ)) (n : ℕ) (t : Said) → IsTree lines t → HasTree (take n lines)
first_lines r lines n t tree =
    let front : List (List ℕ) = take n lines in
    let w : Written = tree.says.written in
    let more : List Token = tokens_from (begun_after false front) (place_of_next false (Outside None) 1 front) (1 + length front) (drop n lines) in
    let parts : tokens_of lines ≡ tokens_of front ++ more = ap tokens_of (sym (take-append-drop n lines)) ∙ tokens_from_append false (Outside None) 1 front (drop n lines) in
    let read : option_and_then (with_tokens r more) (with_tokens r (tokens_of front) nothing) ≡ Some w = sym (with_tokens_append r (tokens_of front) more nothing) ∙ ap (λ ms. with_tokens r ms nothing) (sym parts) ∙ read_from_Spells r (tokens_of lines) w tree.says.spelled in
    let c = chained (with_tokens r more) (with_tokens r (tokens_of front) nothing) w read in
    let g = with_tokens_grows r more c.0 w c.2 1 [] in
    let same = tree.says.said in
    let lev = g.no_fewer_levels in let siz = g.no_smaller in
    let deep : levels (tree_of w) ≤ most_tree_levels = subst (λ x. levels x ≤ most_tree_levels) (sym same) tree.shallow in
    let big : size (tree_of w) ≤ most_tree_nodes = subst (λ x. size x ≤ most_tree_nodes) (sym same) tree.small in (
      tree_of c.0,
      record {
        says = record { written = c.0; spelled = Spells_from_read r (tokens_of front) c.0 c.1; said = refl };
        distinct = is_false (has_repeat (tree_of c.0)) (has_repeat (tree_of w)) g.repeat_stays (ap has_repeat same ∙ tree.distinct);
        known = is_false (has_unknown (tree_of c.0)) (has_unknown (tree_of w)) g.unknown_stays (ap has_unknown same ∙ tree.known);
        shallow = omega (arith, lev, deep);
        small = omega (arith, siz, big);
      },
    )

pub misfit_no_tree : (ms : List Token) (kind : FaultKind) (w : Written) → IsMisfit ms kind → Spells ms w → ⊥
misfit_no_tree ms kind w h s = h.ends (h.rest, w, subst (λ ns. Spells ns w) (h.parts ∙ sym (append_assoc h.front (h.token ∷ []) h.rest)) s)

pub refused_no_tree : FlowReader → (lines : List (List ℕ)) (kind : FaultKind) (t : Said) → IsRefused lines kind → IsTree lines t → ⊥
refused_no_tree r lines NotUtf8 t h tree = h
refused_no_tree r lines Syntax t h tree = misfit_no_tree (tokens_of lines) Syntax tree.says.written h tree.says.spelled
refused_no_tree r lines Unsupported t h tree = misfit_no_tree (tokens_of lines) Unsupported tree.says.written h tree.says.spelled
refused_no_tree r lines Duplicate t h tree = let same = one_tree r lines h.0 t h.1 tree.says in false≢true (sym tree.distinct ∙ sym (ap has_repeat same) ∙ h.2)
refused_no_tree r lines Alias t h tree = let same = one_tree r lines h.0 t h.1 tree.says in false≢true (sym tree.known ∙ sym (ap has_unknown same) ∙ h.3)
refused_no_tree r lines TooDeep t h tree = let same = ap levels (one_tree r lines h.0 t h.1 tree.says) in let deep = tree.shallow in let over = h.4 in omega (arith, same, deep, over)
refused_no_tree r lines TooManyNodes t h tree = let same = ap size (one_tree r lines h.0 t h.1 tree.says) in let big = tree.small in let over = h.5 in omega (arith, same, big, over)

first_no_tree : FlowReader → (text : List ℕ) (line : ℕ) (kind : FaultKind) (t : Said) → IsFirstRefused (lines_of text) line kind → IsTree (lines_of text) t → ⊥
first_no_tree r text line kind t h tree = let first = first_lines r (lines_of text) line t tree in refused_no_tree r (take line (lines_of text)) kind first.0 h.refused first.1

pub no_fault : FlowReader → (text : List ℕ) (t : Said) (line : ℕ) (kind : FaultKind) → IsTreeOf text t → IsFaultOf text line kind → ⊥
no_fault r text t line NotUtf8 tree fault = fault.0 tree.0
no_fault r text t line Syntax tree fault = first_no_tree r text line Syntax t fault.1 tree.1
no_fault r text t line Unsupported tree fault = first_no_tree r text line Unsupported t fault.1 tree.1
no_fault r text t line Duplicate tree fault = first_no_tree r text line Duplicate t fault.1 tree.1
no_fault r text t line Alias tree fault = first_no_tree r text line Alias t fault.1 tree.1
no_fault r text t line TooDeep tree fault = first_no_tree r text line TooDeep t fault.1 tree.1
no_fault r text t line TooManyNodes tree fault = first_no_tree r text line TooManyNodes t fault.1 tree.1
