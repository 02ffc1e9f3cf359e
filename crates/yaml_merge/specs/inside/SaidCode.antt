-- A tree as a list of codes, each behind its parts.
use Rattle.std.specs.Prelude.{◌≡◌, ℕ, List, [], ◌∷◌, ◌++◌}
use Rattle.std.specs.Coded.{Coded, code_by, coded×, coded_ℕ, coded_list}
use Rattle.std.proofs.Common.{zero, suc, refl, sym, ap, ◌∙◌, append_assoc, append-nil}
use Rattle.yaml_tree.specs.Said.{Said}
use Rattle.yaml_tree.specs.Said.Said.{null, text, unknown, sequence, mapping, with_item, with_pair}

abbrev pub Codes : Type 0
Codes = List (ℕ × (ℕ × List ℕ))

abbrev pub codes_of : Said → Codes
codes_of (null line) = (0, (line, [])) ∷ []
codes_of (text line bytes) = (1, (line, bytes)) ∷ []
codes_of (unknown line) = (2, (line, [])) ∷ []
codes_of (sequence line) = (3, (line, [])) ∷ []
codes_of (mapping line) = (4, (line, [])) ∷ []
codes_of (with_item before value) = codes_of before ++ (codes_of value ++ (5, (0, [])) ∷ [])
codes_of (with_pair before line key value) = codes_of before ++ (codes_of value ++ (6, (line, key)) ∷ [])

abbrev pub with_code : ℕ → ℕ → List ℕ → List Said → List Said
with_code zero line bytes stack = null line ∷ stack
with_code (suc zero) line bytes stack = text line bytes ∷ stack
with_code (suc (suc zero)) line bytes stack = unknown line ∷ stack
with_code (suc (suc (suc zero))) line bytes stack = sequence line ∷ stack
with_code (suc (suc (suc (suc zero)))) line bytes stack = mapping line ∷ stack
with_code (suc (suc (suc (suc (suc zero))))) line bytes (value ∷ before ∷ stack) = with_item before value ∷ stack
with_code (suc (suc (suc (suc (suc (suc kind)))))) line bytes (value ∷ before ∷ stack) = with_pair before line bytes value ∷ stack
with_code kind line bytes stack = stack

abbrev pub with_codes : Codes → List Said → List Said
with_codes [] stack = stack
with_codes (m ∷ ms) stack = with_codes ms (with_code m.0 m.1.0 m.1.1 stack)

abbrev pub top : List Said → Said
top [] = null 0
top (tree ∷ stack) = tree

pub with_codes_codes_of : (tree : Said) (rest : Codes) (stack : List Said) → with_codes (codes_of tree ++ rest) stack ≡ with_codes rest (tree ∷ stack)
with_codes_codes_of (null line) rest stack = refl
with_codes_codes_of (text line bytes) rest stack = refl
with_codes_codes_of (unknown line) rest stack = refl
with_codes_codes_of (sequence line) rest stack = refl
with_codes_codes_of (mapping line) rest stack = refl
with_codes_codes_of (with_item before value) rest stack =
    ap (λ ms. with_codes ms stack) (append_assoc (codes_of before) (codes_of value ++ (5, (0, [])) ∷ []) rest ∙ ap (λ ms. codes_of before ++ ms) (append_assoc (codes_of value) ((5, (0, [])) ∷ []) rest))
    ∙ with_codes_codes_of before (codes_of value ++ ((5, (0, [])) ∷ rest)) stack
    ∙ with_codes_codes_of value ((5, (0, [])) ∷ rest) (before ∷ stack)
with_codes_codes_of (with_pair before line key value) rest stack =
    ap (λ ms. with_codes ms stack) (append_assoc (codes_of before) (codes_of value ++ (6, (line, key)) ∷ []) rest ∙ ap (λ ms. codes_of before ++ ms) (append_assoc (codes_of value) ((6, (line, key)) ∷ []) rest))
    ∙ with_codes_codes_of before (codes_of value ++ ((6, (line, key)) ∷ rest)) stack
    ∙ with_codes_codes_of value ((6, (line, key)) ∷ rest) (before ∷ stack)

pub top_codes_of : (tree : Said) → top (with_codes (codes_of tree) []) ≡ tree
top_codes_of tree = ap (λ ms. top (with_codes ms [])) (sym (append-nil (codes_of tree))) ∙ ap top (with_codes_codes_of tree [] [])

abbrev pub coded_said : Coded Said
coded_said = code_by Codes (coded_list (coded× coded_ℕ (coded× coded_ℕ (coded_list coded_ℕ)))) codes_of (λ ms. top (with_codes ms [])) top_codes_of
