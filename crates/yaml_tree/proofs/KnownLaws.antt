-- KnownNode nodes: more nodes behind leave what is held, a name is found once it is given, and the measures that are kept are
-- those of the trees.
use Rattle.std.proofs.Common.{◌≡◌, ℕ, ◌+◌, ◌<◌, ◌≤◌, Bool, true, false, ◌&&◌, ◌||◌, cond, List, [], ◌∷◌, ◌++◌, Option, Some, None, slice_get, zero, suc, refl, sym, ap, ◌∙◌, subst, arith, ◌==◌, nat_le, max, min, is_some, length, eqb-true, eq-eqb}
use Rattle.std.specs.Cmp.Lexicographic.{pointwise}
use Rattle.std.specs.Map.{lookup}
use Rattle.std.proofs.lemmas.Option.{none-some}
use Rattle.std.proofs.lemmas.Bool.{false≢true, leb-true, leb-false}
use Rattle.indexmap.specs.IndexMap.{insert_entry}
use Rattle.yaml_tree.specs.Entries as entries
use Rattle.yaml_tree.specs.Entries.{with_entry}
use Rattle.yaml_tree.specs.Said.{Said, Anchors, Meaning, from_line, has_key, has_repeat, has_unknown, levels, size}
use Rattle.yaml_tree.specs.Said.Said.{null, text, unknown, sequence, mapping, with_item, with_pair}
use Rattle.yaml_tree.specs.Holds.{HoldsSaid, HoldsRows, Rows, begins_on}
use Rattle.yaml_tree.specs.inside.Stack.{cut, measured, one_node, unknown_node, no_row, with_part, with_repeat}
use Rattle.yaml_tree.specs.inside.Builder.{find_name, named, begins_at}
use Rattle.yaml_tree.specs.declared.entries.Child.{Child}
use Rattle.yaml_tree.specs.declared.known.KnownNode.{KnownNode}
use Rattle.yaml_tree.specs.declared.known.GivenName.{GivenName}
use Rattle.yaml_tree.specs.declared.node.Node.{Node}
use Rattle.yaml_tree.proofs.Lists.{both_true}
use Rattle.yaml_tree.proofs.Stands.{KnownIs, NameIs, NamesAre, named_by}
use Rattle.yaml_tree.specs.Limits.{most_tree_levels, most_tree_nodes}

-- ---- nodes

pub slice_get_front : {A : Type 0} (xs ys : List A) (n : ℕ) (x : A) → slice_get xs n ≡ Some x → slice_get (xs ++ ys) n ≡ Some x
slice_get_front [] ys n x e = absurd (none-some x e)
slice_get_front (y ∷ xs) ys zero x e = e
slice_get_front (y ∷ xs) ys (suc n) x e = slice_get_front xs ys n x e

pub slice_get-last : {A : Type 0} (xs : List A) (y : A) → slice_get (xs ++ (y ∷ [])) (length xs) ≡ Some y
slice_get-last [] y = refl
slice_get-last (x ∷ xs) y = slice_get-last xs y

mutual
  -- nodes that hold a tree still hold it with more nodes behind
  pub HoldsSaid_more : (nodes more : List Node) (tree : Said) (n : ℕ) → HoldsSaid nodes tree n → HoldsSaid (nodes ++ more) tree n
  HoldsSaid_more nodes more (null line) n h = slice_get_front nodes more n _ h
  HoldsSaid_more nodes more (text line bytes) n h = slice_get_front nodes more n _ h
  HoldsSaid_more nodes more (unknown line) n h = slice_get_front nodes more n _ h
  HoldsSaid_more nodes more (sequence line) n h = slice_get_front nodes more n _ h
  HoldsSaid_more nodes more (mapping line) n h = slice_get_front nodes more n _ h
  HoldsSaid_more nodes more (with_item before value) n h = (h.0, h.1, HoldsRows_more nodes more before h.0 h.2, HoldsSaid_more nodes more value h.1 h.3, slice_get_front nodes more n _ h.4)
  HoldsSaid_more nodes more (with_pair before line key value) n h = (h.0, h.1, HoldsRows_more nodes more before h.0 h.2, HoldsSaid_more nodes more value h.1 h.3, slice_get_front nodes more n _ h.4)

  pub HoldsRows_more : (nodes more : List Node) (tree : Said) (rows : Rows) → HoldsRows nodes tree rows → HoldsRows (nodes ++ more) tree rows
  HoldsRows_more nodes more (null line) rows h = h
  HoldsRows_more nodes more (text line bytes) rows h = h
  HoldsRows_more nodes more (unknown line) rows h = h
  HoldsRows_more nodes more (sequence line) rows h = h
  HoldsRows_more nodes more (mapping line) rows h = h
  HoldsRows_more nodes more (with_item before value) rows h = (h.0, h.1, HoldsRows_more nodes more before h.0 h.2, HoldsSaid_more nodes more value h.1 h.3, h.4)
  HoldsRows_more nodes more (with_pair before line key value) rows h = (h.0, h.1, HoldsRows_more nodes more before h.0 h.2, HoldsSaid_more nodes more value h.1 h.3, h.4)

pub KnownIs_more : (nodes more : List Node) (k : KnownNode) (tree : Said) → KnownIs nodes k tree → KnownIs (nodes ++ more) k tree
KnownIs_more nodes more k tree h = (h.0, HoldsSaid_more nodes more tree k.node h.1)

NameIs_more : (nodes more : List Node) (found : Option KnownNode) (tree : Option Said) → NameIs nodes found tree → NameIs (nodes ++ more) found tree
NameIs_more nodes more None None h = tt
NameIs_more nodes more (Some k) (Some tree) h = KnownIs_more nodes more k tree h
NameIs_more nodes more None (Some tree) h = h
NameIs_more nodes more (Some k) None h = h

pub NamesAre_more : (nodes more : List Node) (entries : List (List ℕ × KnownNode)) (names : Anchors) → NamesAre nodes entries names → NamesAre (nodes ++ more) entries names
NamesAre_more nodes more entries names h = λ n. NameIs_more nodes more (find_name entries n) (lookup (pointwise ◌==◌ n) names) (h n)

-- ---- names

pub same_bytes : (a b : List ℕ) → pointwise ◌==◌ a b ≡ true → a ≡ b
same_bytes [] [] h = refl
same_bytes [] (y ∷ b) h = absurd (false≢true h)
same_bytes (x ∷ a) [] h = absurd (false≢true h)
same_bytes (x ∷ a) (y ∷ b) h = let q = both_true (x == y) (pointwise ◌==◌ a b) h in λ j. eqb-true x y q.0 j ∷ same_bytes a b q.1 j

bytes_are_same : (a : List ℕ) → pointwise ◌==◌ a a ≡ true
bytes_are_same [] = refl
bytes_are_same (x ∷ a) = ap (λ t. t && pointwise ◌==◌ a a) (eq-eqb x x refl) ∙ bytes_are_same a

-- what is found behind an insertion
pub lookup_insert_entry : {X : Type 0} (wanted name : List ℕ) (x : X) (es : List (List ℕ × X)) → lookup (pointwise ◌==◌ wanted) (insert_entry (pointwise ◌==◌) es name x) ≡ cond (pointwise ◌==◌ wanted name) (Some x) (lookup (pointwise ◌==◌ wanted) es)
lookup_insert_entry wanted name x [] = refl
lookup_insert_entry wanted name x (e ∷ es) = elim (pointwise ◌==◌ name e.0) as (λ t. pointwise ◌==◌ name e.0 ≡ t → lookup (pointwise ◌==◌ wanted) (cond t ((e.0, x) ∷ es) (e ∷ insert_entry (pointwise ◌==◌) es name x)) ≡ cond (pointwise ◌==◌ wanted name) (Some x) (cond (pointwise ◌==◌ wanted e.0) (Some e.1) (lookup (pointwise ◌==◌ wanted) es))) [
  | true ↦ λ q. subst (λ k. cond (pointwise ◌==◌ wanted e.0) (Some x) (lookup (pointwise ◌==◌ wanted) es) ≡ cond (pointwise ◌==◌ wanted k) (Some x) (cond (pointwise ◌==◌ wanted e.0) (Some e.1) (lookup (pointwise ◌==◌ wanted) es)))
      (sym (same_bytes name e.0 q)) (here (pointwise ◌==◌ wanted e.0))
  | false ↦ λ q. ap (cond (pointwise ◌==◌ wanted e.0) (Some e.1)) (lookup_insert_entry wanted name x es) ∙ later q (pointwise ◌==◌ wanted e.0) (pointwise ◌==◌ wanted name) refl refl
] refl
  where
    here : (t : Bool) → cond t (Some x) (lookup (pointwise ◌==◌ wanted) es) ≡ cond t (Some x) (cond t (Some e.1) (lookup (pointwise ◌==◌ wanted) es))
    here true = refl
    here false = refl

    later : pointwise ◌==◌ name e.0 ≡ false → (t u : Bool) → pointwise ◌==◌ wanted e.0 ≡ t → pointwise ◌==◌ wanted name ≡ u → cond t (Some e.1) (cond u (Some x) (lookup (pointwise ◌==◌ wanted) es)) ≡ cond u (Some x) (cond t (Some e.1) (lookup (pointwise ◌==◌ wanted) es))
    later q true true a b = absurd (false≢true (sym q ∙ ap (λ k. pointwise ◌==◌ k e.0) (sym (same_bytes wanted name b)) ∙ a))
    later q true false a b = refl
    later q false u a b = refl

-- a node that a name waits for is found by it from now on
pub named_are : (nodes : List Node) (entries : List (List ℕ × KnownNode)) (names : Anchors) (waits : Option GivenName) (k : KnownNode) (tree : Said) → NamesAre nodes entries names → KnownIs nodes k (named_by waits (tree, names)).0 → NamesAre nodes (named waits k entries) (named_by waits (tree, names)).1
named_are nodes entries names None k tree h known = h
named_are nodes entries names (Some name) k tree h known = λ n. subst (λ found. NameIs nodes found (cond (pointwise ◌==◌ n name.text) (Some (from_line name.line tree)) (lookup (pointwise ◌==◌ n) names))) (sym (lookup_insert_entry n name.text k entries)) (by (pointwise ◌==◌ n name.text) n)
  where
    by : (t : Bool) (n : List ℕ) → NameIs nodes (cond t (Some k) (lookup (pointwise ◌==◌ n) entries)) (cond t (Some (from_line name.line tree)) (lookup (pointwise ◌==◌ n) names))
    by true n = known
    by false n = h n

-- ---- measures

pub measured_null : (line : ℕ) → measured (null line) ≡ one_node
measured_null line = refl

pub measured_text : (line : ℕ) (bytes : List ℕ) → measured (text line bytes) ≡ one_node
measured_text line bytes = refl

pub measured_unknown : (line : ℕ) → measured (unknown line) ≡ unknown_node
measured_unknown line = refl

pub measured_sequence : (line : ℕ) → measured (sequence line) ≡ no_row
measured_sequence line = refl

pub measured_mapping : (line : ℕ) → measured (mapping line) ≡ no_row
measured_mapping line = refl

cut_min : (most n : ℕ) → cut most n ≡ min n (1 + most)
cut_min most n = by (nat_le n most) refl
  where
    by : (t : Bool) → nat_le n most ≡ t → cond t n (1 + most) ≡ min n (1 + most)
    by true e = let le : n ≤ most = leb-true n most e in omega arith
    by false e = let lt : most < n = leb-false n most e in omega arith

-- the cut of a sum of cuts is that of the sum
cut_sum : (most a b : ℕ) → cut most (cut most a + cut most b) ≡ cut most (a + b)
cut_sum most a b = omega (arith, cut_min most a, cut_min most b, cut_min most (a + b), cut_min most (cut most a + cut most b))

cut_levels : (most a b : ℕ) → max (cut most a) (cut most (1 + cut most b)) ≡ cut most (max a (1 + b))
cut_levels most a b = omega (arith, cut_min most a, cut_min most b, cut_min most (max a (1 + b)), cut_min most (1 + cut most b))

pub with_part_item : (a v : Said) → with_part (measured a) (measured v) ≡ measured (with_item a v)
with_part_item a v = λ j. record { size = cut_sum most_tree_nodes (size a) (size v) j; levels = cut_levels most_tree_levels (levels a) (levels v) j; repeated = has_repeat a || has_repeat v; unknown = (measured (with_item a v)).unknown }

pub with_part_pair : (a : Said) (line : ℕ) (k : List ℕ) (v : Said) → with_part (with_repeat (has_key k a) (measured a)) (measured v) ≡ measured (with_pair a line k v)
with_part_pair a line k v = λ j. record { size = cut_sum most_tree_nodes (size a) (size v) j; levels = cut_levels most_tree_levels (levels a) (levels v) j; repeated = (has_repeat a || has_key k a) || has_repeat v; unknown = (measured (with_pair a line k v)).unknown }

-- ---- keys

or_false : (a : Bool) → (a || false) ≡ a
or_false true = refl
or_false false = refl

-- whether a key is there once another is given a child
pub has_key_with_entry : (k other : List ℕ) (es : List (List ℕ × Child)) (child : Child) → entries.has_key k (with_entry es other child) ≡ (entries.has_key k es || pointwise ◌==◌ k other)
has_key_with_entry k other es child = ap is_some (lookup_insert_entry k other child es) ∙ by (pointwise ◌==◌ k other) (lookup (pointwise ◌==◌ k) es)
  where
    by : (t : Bool) (found : Option Child) → is_some (cond t (Some child) found) ≡ (is_some found || t)
    by true None = refl
    by true (Some old) = refl
    by false None = refl
    by false (Some old) = refl

-- the entries have a key exactly where a row has it
pub key_found : (nodes : List Node) (tree : Said) (rows : Rows) (k : List ℕ) → HoldsRows nodes tree rows → entries.has_key k rows.entries ≡ has_key k tree
key_found nodes (null line) rows k h = absurd h
key_found nodes (text line bytes) rows k h = absurd h
key_found nodes (unknown line) rows k h = absurd h
key_found nodes (sequence line) rows k h = ap (λ r. entries.has_key k r.entries) h
key_found nodes (mapping line) rows k h = ap (λ r. entries.has_key k r.entries) h
key_found nodes (with_item before value) rows k h = ap (λ r. entries.has_key k r.entries) h.4 ∙ key_found nodes before h.0 k h.2
key_found nodes (with_pair before line other value) rows k h =
    ap (λ r. entries.has_key k r.entries) h.4 ∙ has_key_with_entry k other h.0.entries (record { line = line; node = h.1 })
    ∙ ap (λ t. t || pointwise ◌==◌ k other) (key_found nodes before h.0 k h.2)

-- the same, as the code asks it of a mapping
pub mapping_has_key : (nodes : List Node) (tree : Said) (rows : Rows) (keyed : Bool) (k : List ℕ) → HoldsRows nodes tree rows → keyed ≡ true → (keyed && entries.has_key k rows.entries) ≡ has_key k tree
mapping_has_key nodes tree rows keyed k h e = ap (λ t. t && entries.has_key k rows.entries) e ∙ key_found nodes tree rows k h

-- ---- the line on which a node begins

pub from_line_same : (tree : Said) → from_line (begins_on tree) tree ≡ tree
from_line_same (null line) = refl
from_line_same (text line bytes) = refl
from_line_same (unknown line) = refl
from_line_same (sequence line) = refl
from_line_same (mapping line) = refl
from_line_same (with_item before value) = ap (λ b. with_item b value) (from_line_same before)
from_line_same (with_pair before line k value) = ap (λ b. with_pair b line k value) (from_line_same before)

pub begins_on_from_line : (n : ℕ) (tree : Said) → begins_on (from_line n tree) ≡ n
begins_on_from_line n (null line) = refl
begins_on_from_line n (text line bytes) = refl
begins_on_from_line n (unknown line) = refl
begins_on_from_line n (sequence line) = refl
begins_on_from_line n (mapping line) = refl
begins_on_from_line n (with_item before value) = begins_on_from_line n before
begins_on_from_line n (with_pair before line k value) = begins_on_from_line n before

has_key_from_line : (n : ℕ) (k : List ℕ) (tree : Said) → has_key k (from_line n tree) ≡ has_key k tree
has_key_from_line n k (null line) = refl
has_key_from_line n k (text line bytes) = refl
has_key_from_line n k (unknown line) = refl
has_key_from_line n k (sequence line) = refl
has_key_from_line n k (mapping line) = refl
has_key_from_line n k (with_item before value) = has_key_from_line n k before
has_key_from_line n k (with_pair before line other value) = ap (λ t. t || pointwise ◌==◌ k other) (has_key_from_line n k before)

pub has_repeat_from_line : (n : ℕ) (tree : Said) → has_repeat (from_line n tree) ≡ has_repeat tree
has_repeat_from_line n (null line) = refl
has_repeat_from_line n (text line bytes) = refl
has_repeat_from_line n (unknown line) = refl
has_repeat_from_line n (sequence line) = refl
has_repeat_from_line n (mapping line) = refl
has_repeat_from_line n (with_item before value) = ap (λ t. t || has_repeat value) (has_repeat_from_line n before)
has_repeat_from_line n (with_pair before line k value) = λ j. (has_repeat_from_line n before j || has_key_from_line n k before j) || has_repeat value

pub has_unknown_from_line : (n : ℕ) (tree : Said) → has_unknown (from_line n tree) ≡ has_unknown tree
has_unknown_from_line n (null line) = refl
has_unknown_from_line n (text line bytes) = refl
has_unknown_from_line n (unknown line) = refl
has_unknown_from_line n (sequence line) = refl
has_unknown_from_line n (mapping line) = refl
has_unknown_from_line n (with_item before value) = ap (λ t. t || has_unknown value) (has_unknown_from_line n before)
has_unknown_from_line n (with_pair before line k value) = ap (λ t. t || has_unknown value) (has_unknown_from_line n before)

pub levels_from_line : (n : ℕ) (tree : Said) → levels (from_line n tree) ≡ levels tree
levels_from_line n (null line) = refl
levels_from_line n (text line bytes) = refl
levels_from_line n (unknown line) = refl
levels_from_line n (sequence line) = refl
levels_from_line n (mapping line) = refl
levels_from_line n (with_item before value) = ap (λ l. max l (1 + levels value)) (levels_from_line n before)
levels_from_line n (with_pair before line k value) = ap (λ l. max l (1 + levels value)) (levels_from_line n before)

pub size_from_line : (n : ℕ) (tree : Said) → size (from_line n tree) ≡ size tree
size_from_line n (null line) = refl
size_from_line n (text line bytes) = refl
size_from_line n (unknown line) = refl
size_from_line n (sequence line) = refl
size_from_line n (mapping line) = refl
size_from_line n (with_item before value) = ap (λ s. s + size value) (size_from_line n before)
size_from_line n (with_pair before line k value) = ap (λ s. s + size value) (size_from_line n before)

pub measured_from_line : (n : ℕ) (tree : Said) → measured (from_line n tree) ≡ measured tree
measured_from_line n tree = λ j. record { size = cut most_tree_nodes (size_from_line n tree j); levels = cut most_tree_levels (levels_from_line n tree j); repeated = has_repeat_from_line n tree j; unknown = has_unknown_from_line n tree j }

pub measured_named_by : (waits : Option GivenName) (meaning : Meaning) → measured (named_by waits meaning).0 ≡ measured meaning.0
measured_named_by None meaning = refl
measured_named_by (Some name) meaning = measured_from_line name.line meaning.0

pub HoldsRows_from_line : (nodes : List Node) (n : ℕ) (tree : Said) (rows : Rows) → HoldsRows nodes tree rows → HoldsRows nodes (from_line n tree) rows
HoldsRows_from_line nodes n (null line) rows h = h
HoldsRows_from_line nodes n (text line bytes) rows h = h
HoldsRows_from_line nodes n (unknown line) rows h = h
HoldsRows_from_line nodes n (sequence line) rows h = h
HoldsRows_from_line nodes n (mapping line) rows h = h
HoldsRows_from_line nodes n (with_item before value) rows h = (h.0, h.1, HoldsRows_from_line nodes n before h.0 h.2, h.3, h.4)
HoldsRows_from_line nodes n (with_pair before line k value) rows h = (h.0, h.1, HoldsRows_from_line nodes n before h.0 h.2, h.3, h.4)

-- a node that takes the name that waits, if any, begins on that name's line
pub begun_by_name : (waits : Option GivenName) (line : ℕ) (meaning : Meaning) → line ≡ begins_on meaning.0 → (named_by waits meaning).0 ≡ from_line (begins_at line waits) meaning.0
begun_by_name None line meaning e = sym (ap (λ l. from_line l meaning.0) e ∙ from_line_same meaning.0)
begun_by_name (Some name) line meaning e = refl

pub node_is : (nodes : List Node) (waits : Option GivenName) (line : ℕ) (meaning : Meaning) (k : KnownNode) → k.measure ≡ measured meaning.0 → line ≡ begins_on meaning.0
    → HoldsSaid nodes (from_line (begins_at line waits) meaning.0) k.node → KnownIs nodes k (named_by waits meaning).0
node_is nodes waits line meaning k e begins holds = (e ∙ sym (measured_named_by waits meaning), subst (λ t. HoldsSaid nodes t k.node) (sym (begun_by_name waits line meaning begins)) holds)
