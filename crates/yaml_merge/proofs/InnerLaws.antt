-- What is seen of an owned node is what it says.
use Rattle.std.proofs.Common.{◌≡◌, ℕ, false, List, [], ◌∷◌, ◌++◌, Some, None, refl, sym, ap, ◌∙◌, append_assoc, append-nil}
use Rattle.std.specs.Option.{option_map}
use Rattle.yaml_tree.specs.Said.{Said}
use Rattle.yaml_tree.specs.Said.Said.{sequence, mapping, with_item, with_pair}
use Rattle.yaml_merge.specs.declared.plain.Inner.{Inner}
use Rattle.yaml_merge.specs.declared.plain.Inner.TheVariants.{Null, Text, Sequence, Mapping}
use Rattle.yaml_merge.specs.declared.plain.Pair.{Pair}
use Rattle.yaml_merge.specs.Rows.{with_items, with_pairs}
use Rattle.std.specs.List.{flat_map}
use Rattle.yaml_merge.specs.Sources.{pairs_of, sources}
use Rattle.yaml_merge.specs.inside.Inner.{said_of, pairs_held, sources_held, null_inside, text_inside, items_inside, pairs_inside}
use Rattle.yaml_merge.specs.Plain.{line_of, is_null, text_in, items_in, pairs_in}

-- ---- items

line_of_items : (xs : List Said) (before : Said) → line_of (with_items before xs) ≡ line_of before
line_of_items [] before = refl
line_of_items (x ∷ xs) before = line_of_items xs (with_item before x)

is_null_items : (xs : List Said) (before : Said) → is_null before ≡ false → is_null (with_items before xs) ≡ false
is_null_items [] before h = h
is_null_items (x ∷ xs) before h = is_null_items xs (with_item before x) refl

text_in_items : (xs : List Said) (before : Said) → text_in before ≡ None → text_in (with_items before xs) ≡ None
text_in_items [] before h = h
text_in_items (x ∷ xs) before h = text_in_items xs (with_item before x) refl

pairs_in_items : (xs : List Said) (before : Said) → pairs_in before ≡ None → pairs_in (with_items before xs) ≡ None
pairs_in_items [] before h = h
pairs_in_items (x ∷ xs) before h = pairs_in_items xs (with_item before x) refl

items_in_items : (xs : List Said) (before : Said) (front : List Said) → items_in before ≡ Some front → items_in (with_items before xs) ≡ Some (front ++ xs)
items_in_items [] before front h = h ∙ ap Some (sym (append-nil front))
items_in_items (x ∷ xs) before front h =
    items_in_items xs (with_item before x) (front ++ x ∷ []) (ap (option_map (λ items. items ++ x ∷ [])) h) ∙ ap Some (append_assoc front (x ∷ []) xs)

-- ---- pairs

line_of_pairs : (ps : List Pair) (before : Said) → line_of (with_pairs before ps) ≡ line_of before
line_of_pairs [] before = refl
line_of_pairs (p ∷ ps) before = line_of_pairs ps (with_pair before p.line p.key p.value)

is_null_pairs : (ps : List Pair) (before : Said) → is_null before ≡ false → is_null (with_pairs before ps) ≡ false
is_null_pairs [] before h = h
is_null_pairs (p ∷ ps) before h = is_null_pairs ps (with_pair before p.line p.key p.value) refl

text_in_pairs : (ps : List Pair) (before : Said) → text_in before ≡ None → text_in (with_pairs before ps) ≡ None
text_in_pairs [] before h = h
text_in_pairs (p ∷ ps) before h = text_in_pairs ps (with_pair before p.line p.key p.value) refl

items_in_pairs : (ps : List Pair) (before : Said) → items_in before ≡ None → items_in (with_pairs before ps) ≡ None
items_in_pairs [] before h = h
items_in_pairs (p ∷ ps) before h = items_in_pairs ps (with_pair before p.line p.key p.value) refl

pub pairs_in_pairs : (ps : List Pair) (before : Said) (front : List Pair) → pairs_in before ≡ Some front → pairs_in (with_pairs before ps) ≡ Some (front ++ ps)
pairs_in_pairs [] before front h = h ∙ ap Some (sym (append-nil front))
pairs_in_pairs (p ∷ ps) before front h =
    pairs_in_pairs ps (with_pair before p.line p.key p.value) (front ++ p ∷ []) (ap (option_map (λ pairs. pairs ++ p ∷ [])) h) ∙ ap Some (append_assoc front (p ∷ []) ps)

-- ---- nodes

pub line_seen : (line : ℕ) (inner : Inner) (tree : Said) → said_of line inner ≡ tree → line ≡ line_of tree
line_seen line Null tree e = ap line_of e
line_seen line (Text t) tree e = ap line_of e
line_seen line (Sequence v) tree e = sym (line_of_items v.items (sequence line)) ∙ ap line_of e
line_seen line (Mapping v) tree e = sym (line_of_pairs v.items (mapping line)) ∙ ap line_of e

pub null_seen : (line : ℕ) (inner : Inner) (tree : Said) → said_of line inner ≡ tree → null_inside inner ≡ is_null tree
null_seen line Null tree e = ap is_null e
null_seen line (Text t) tree e = ap is_null e
null_seen line (Sequence v) tree e = sym (is_null_items v.items (sequence line) refl) ∙ ap is_null e
null_seen line (Mapping v) tree e = sym (is_null_pairs v.items (mapping line) refl) ∙ ap is_null e

pub text_seen : (line : ℕ) (inner : Inner) (tree : Said) → said_of line inner ≡ tree → text_inside inner ≡ text_in tree
text_seen line Null tree e = ap text_in e
text_seen line (Text t) tree e = ap text_in e
text_seen line (Sequence v) tree e = sym (text_in_items v.items (sequence line) refl) ∙ ap text_in e
text_seen line (Mapping v) tree e = sym (text_in_pairs v.items (mapping line) refl) ∙ ap text_in e

pub items_seen : (line : ℕ) (inner : Inner) (tree : Said) → said_of line inner ≡ tree → items_inside inner ≡ items_in tree
items_seen line Null tree e = ap items_in e
items_seen line (Text t) tree e = ap items_in e
items_seen line (Sequence v) tree e = sym (items_in_items v.items (sequence line) [] refl) ∙ ap items_in e
items_seen line (Mapping v) tree e = sym (items_in_pairs v.items (mapping line) refl) ∙ ap items_in e

pub pairs_seen : (line : ℕ) (inner : Inner) (tree : Said) → said_of line inner ≡ tree → pairs_inside inner ≡ pairs_in tree
pairs_seen line Null tree e = ap pairs_in e
pairs_seen line (Text t) tree e = ap pairs_in e
pairs_seen line (Sequence v) tree e = sym (pairs_in_items v.items (sequence line) refl) ∙ ap pairs_in e
pairs_seen line (Mapping v) tree e = sym (pairs_in_pairs v.items (mapping line) [] refl) ∙ ap pairs_in e

-- ---- what is merged

pairs_of_items : (xs : List Said) (before : Said) → pairs_of before ≡ [] → pairs_of (with_items before xs) ≡ []
pairs_of_items [] before h = h
pairs_of_items (x ∷ xs) before h = pairs_of_items xs (with_item before x) refl

pub pairs_of_pairs : (ps : List Pair) (before : Said) → pairs_of (with_pairs before ps) ≡ pairs_of before ++ ps
pairs_of_pairs [] before = sym (append-nil (pairs_of before))
pairs_of_pairs (p ∷ ps) before = pairs_of_pairs ps (with_pair before p.line p.key p.value) ∙ append_assoc (pairs_of before) (p ∷ []) ps

sources_items : (xs : List Said) (before : Said) → sources (with_items before xs) ≡ sources before ++ flat_map pairs_of xs
sources_items [] before = sym (append-nil (sources before))
sources_items (x ∷ xs) before = sources_items xs (with_item before x) ∙ append_assoc (sources before) (pairs_of x) (flat_map pairs_of xs)

sources_pairs : (ps : List Pair) (before : Said) → sources before ≡ pairs_of before → sources (with_pairs before ps) ≡ pairs_of (with_pairs before ps)
sources_pairs [] before h = h
sources_pairs (p ∷ ps) before h = sources_pairs ps (with_pair before p.line p.key p.value) refl

pub held_pairs : (line : ℕ) (inner : Inner) (tree : Said) → said_of line inner ≡ tree → pairs_held inner ≡ pairs_of tree
held_pairs line Null tree e = ap pairs_of e
held_pairs line (Text t) tree e = ap pairs_of e
held_pairs line (Sequence v) tree e = sym (pairs_of_items v.items (sequence line) refl) ∙ ap pairs_of e
held_pairs line (Mapping v) tree e = sym (pairs_of_pairs v.items (mapping line)) ∙ ap pairs_of e

pub held_sources : (line : ℕ) (inner : Inner) (tree : Said) → said_of line inner ≡ tree → sources_held inner ≡ sources tree
held_sources line Null tree e = ap sources e
held_sources line (Text t) tree e = ap sources e
held_sources line (Sequence v) tree e = sym (sources_items v.items (sequence line)) ∙ ap sources e
held_sources line (Mapping v) tree e = sym (sources_pairs v.items (mapping line) refl ∙ pairs_of_pairs v.items (mapping line)) ∙ ap sources e
