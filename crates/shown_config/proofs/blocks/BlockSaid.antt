-- What a block says, and its pairs.
use Rattle.std.proofs.Common.{◌≡◌, ℕ, ◌+◌, false, List, [], ◌∷◌, ◌++◌, Option, Some, None, refl, sym, ap, ◌∙◌, append_assoc, append-nil, true≢false}
use Rattle.std.specs.Option.{option_map}
use Rattle.yaml_tokens.specs.declared.token.Token.TheVariants.{Dash, Key}
use Rattle.yaml_tokens.specs.declared.piece.Piece.TheVariants.{CellKey, CellScalar}
use Rattle.yaml_tree.specs.Flows.{Flow}
use Rattle.yaml_tree.specs.Flows.{Flow as flows}
use Rattle.yaml_tree.specs.Written.{Written}
use Rattle.yaml_tree.specs.Written.Written.{nothing, row}
use Rattle.yaml_tree.specs.Said.{Said, Meaning, flow_said, row_behind, said, tree_of}
use Rattle.yaml_tree.specs.Said.Said.{null, text, sequence, mapping, with_item, with_pair}
use Rattle.yaml_merge.specs.Plain.{items_in, pairs_in}
use Rattle.yaml_merge.specs.declared.plain.Pair.{Pair}
use Rattle.shown_config.proofs.words.Words.{Word, says}
use Rattle.shown_config.proofs.forms.Forms.{items_flow, entries_flow}
use Rattle.shown_config.proofs.forms.Cells as cells
use Rattle.shown_config.proofs.forms.Cells.{Cell}
use Rattle.shown_config.proofs.forms.Rows.{value_column}
use Rattle.shown_config.proofs.blocks.Blocks.{Leaf, Item, Block, is_done, after_item, after_items, after_block, cell_written, leaf_written, leaves_written, item_written, items_written, block_written, with_words, with_entries, cell_said, leaves_said, item_said, items_said, block_said, leaves_pairs, block_pairs, pair_at}
use Rattle.shown_config.proofs.blocks.Blocks.Block.{done, leaf_then, block_then, items_then}

-- ---- cells

words_said : (n : ℕ) (none tree : Said) (before : Flow) (ws : List Word) → flow_said n none [] before ≡ (tree, []) → flow_said n none [] (items_flow before ws) ≡ (with_words n tree ws, [])
words_said n none tree before [] e = e
words_said n none tree before (w ∷ ws) e =
    words_said n none (with_item tree (text n (says w))) (flows.item before (flows.word (CellScalar (Some (says w))))) ws (ap (λ (m : Meaning). (with_item m.0 (text n (says w)), m.1)) e)

entries_said : (n : ℕ) (none tree : Said) (before : Flow) (ps : List (Word × Word)) → flow_said n none [] before ≡ (tree, []) → flow_said n none [] (entries_flow before ps) ≡ (with_entries n tree ps, [])
entries_said n none tree before [] e = e
entries_said n none tree before (p ∷ ps) e =
    entries_said n none (with_pair tree n (says p.0) (text n (says p.1))) (flows.pair before (CellKey (says p.0)) (flows.word (CellScalar (Some (says p.1))))) ps (ap (λ (m : Meaning). (with_pair m.0 n (says p.0) (text n (says p.1)), m.1)) e)

cell_said_is : (n column : ℕ) (none : Said) (c : Cell) → said none [] (cell_written n column c) ≡ (cell_said n c, [])
cell_said_is n column none (cells.Cell.word w) = refl
cell_said_is n column none (cells.Cell.items ws) = words_said n (sequence n) (sequence n) flows.absent ws refl
cell_said_is n column none (cells.Cell.entries ps) = entries_said n (mapping n) (mapping n) flows.absent ps refl

-- ---- rows

-- what is written says a tree, whatever no value would say
abbrev Tells : Written → Said → Type 0
Tells written tree = (none : Said) → said none [] written ≡ (tree, [])

key_row : (n column : ℕ) (key : List ℕ) (before value : Written) (b v : Said) → said (mapping n) [] before ≡ (b, []) → said (null n) [] value ≡ (v, []) → Tells (row before (Key n column key) value) (with_pair b n key v)
key_row n column key before value b v e f none =
    ap (λ (m : Meaning). row_behind (Key n column key) m.0 (said (null n) m.1 value)) e
    ∙ ap (λ (m : Meaning). row_behind (Key n column key) b m) f

dash_row : (n column : ℕ) (before value : Written) (b v : Said) → said (sequence n) [] before ≡ (b, []) → said (null n) [] value ≡ (v, []) → Tells (row before (Dash n column) value) (with_item b v)
dash_row n column before value b v e f none =
    ap (λ (m : Meaning). row_behind (Dash n column) m.0 (said (null n) m.1 value)) e
    ∙ ap (λ (m : Meaning). row_behind (Dash n column) b m) f

leaf_tells : (n column : ℕ) (before : Written) (b : Said) (w : Word) (c : Cell) → said (mapping n) [] before ≡ (b, []) → Tells (leaf_written n column before w c) (with_pair b n (says w) (cell_said n c))
leaf_tells n column before b w c e = key_row n column (says w) before (cell_written n (value_column column w) c) b (cell_said n c) e (cell_said_is n (value_column column w) (null n) c)

leaves_tell : (n column : ℕ) (before : Written) (b : Said) (ls : List Leaf) → Tells before b → Tells (leaves_written n column before ls) (leaves_said n b ls)
leaves_tell n column before b [] h = h
leaves_tell n column before b (l ∷ ls) h =
    leaves_tell (1 + n) column (leaf_written n column before l.0 l.1) (with_pair b n (says l.0) (cell_said n l.1)) ls (leaf_tells n column before b l.0 l.1 (h (mapping n)))

item_tells : (n column : ℕ) (i : Item) → Tells (item_written n column i) (item_said n i)
item_tells n column i =
    leaves_tell (1 + n) column (leaf_written n column nothing i.0.0 i.0.1) (with_pair (mapping n) n (says i.0.0) (cell_said n i.0.1)) i.1 (leaf_tells n column nothing (mapping n) i.0.0 i.0.1 refl)

items_tell : (n column : ℕ) (before : Written) (b : Said) (is : List Item) → Tells before b → Tells (items_written n column before is) (items_said n b is)
items_tell n column before b [] h = h
items_tell n column before b (i ∷ is) h =
    items_tell (after_item n i) column (row before (Dash n column) (item_written n (column + 2) i)) (with_item b (item_said n i)) is
    (dash_row n column before (item_written n (column + 2) i) b (item_said n i) (h (sequence n)) (item_tells n (column + 2) i (null n)))

first_items_tell : (n column : ℕ) (i : Item) (is : List Item) → Tells (items_written n column nothing (i ∷ is)) (items_said n (sequence n) (i ∷ is))
first_items_tell n column i is =
    items_tell (after_item n i) column (row nothing (Dash n column) (item_written n (column + 2) i)) (with_item (sequence n) (item_said n i)) is
    (dash_row n column nothing (item_written n (column + 2) i) (sequence n) (item_said n i) refl (item_tells n (column + 2) i (null n)))

-- a block that is another's value has a row
abbrev pub HasRows : Block → Type 0
HasRows done = Unit {0}
HasRows (leaf_then w c rest) = HasRows rest
HasRows (block_then w inner rest) = (is_done inner ≡ false) × HasRows inner × HasRows rest
HasRows (items_then w item items rest) = HasRows rest

mutual
  block_tells : (b : Block) (n column : ℕ) (before : Written) (tree : Said) → HasRows b → Tells before tree → Tells (block_written n column before b) (block_said n tree b)
  block_tells done n column before tree h k = k
  block_tells (leaf_then w c rest) n column before tree h k =
      block_tells rest (1 + n) column (leaf_written n column before w c) (with_pair tree n (says w) (cell_said n c)) h (leaf_tells n column before tree w c (k (mapping n)))
  block_tells (block_then w inner rest) n column before tree h k =
      block_tells rest (after_block (1 + n) inner) column (row before (Key n column (says w)) (block_written (1 + n) (column + 2) nothing inner)) (with_pair tree n (says w) (block_said (1 + n) (mapping (1 + n)) inner)) h.2
      (key_row n column (says w) before (block_written (1 + n) (column + 2) nothing inner) tree (block_said (1 + n) (mapping (1 + n)) inner) (k (mapping n)) (first_tells inner (1 + n) (column + 2) h.0 h.1 (null n)))
  block_tells (items_then w item items rest) n column before tree h k =
      block_tells rest (after_items (1 + n) (item ∷ items)) column (row before (Key n column (says w)) (items_written (1 + n) column nothing (item ∷ items))) (with_pair tree n (says w) (items_said (1 + n) (sequence (1 + n)) (item ∷ items))) h
      (key_row n column (says w) before (items_written (1 + n) column nothing (item ∷ items)) tree (items_said (1 + n) (sequence (1 + n)) (item ∷ items)) (k (mapping n)) (first_items_tell (1 + n) column item items (null n)))

  first_tells : (b : Block) (n column : ℕ) → is_done b ≡ false → HasRows b → Tells (block_written n column nothing b) (block_said n (mapping n) b)
  first_tells done n column d h = absurd (true≢false d)
  first_tells (leaf_then w c rest) n column d h =
      block_tells rest (1 + n) column (leaf_written n column nothing w c) (with_pair (mapping n) n (says w) (cell_said n c)) h (leaf_tells n column nothing (mapping n) w c refl)
  first_tells (block_then w inner rest) n column d h =
      block_tells rest (after_block (1 + n) inner) column (row nothing (Key n column (says w)) (block_written (1 + n) (column + 2) nothing inner)) (with_pair (mapping n) n (says w) (block_said (1 + n) (mapping (1 + n)) inner)) h.2
      (key_row n column (says w) nothing (block_written (1 + n) (column + 2) nothing inner) (mapping n) (block_said (1 + n) (mapping (1 + n)) inner) refl (first_tells inner (1 + n) (column + 2) h.0 h.1 (null n)))
  first_tells (items_then w item items rest) n column d h =
      block_tells rest (after_items (1 + n) (item ∷ items)) column (row nothing (Key n column (says w)) (items_written (1 + n) column nothing (item ∷ items))) (with_pair (mapping n) n (says w) (items_said (1 + n) (sequence (1 + n)) (item ∷ items))) h
      (key_row n column (says w) nothing (items_written (1 + n) column nothing (item ∷ items)) (mapping n) (items_said (1 + n) (sequence (1 + n)) (item ∷ items)) refl (first_items_tell (1 + n) column item items (null n)))

-- the tree of a block
pub block_tree : (b : Block) → is_done b ≡ false → HasRows b → tree_of (block_written 1 0 nothing b) ≡ block_said 1 (mapping 1) b
block_tree b d h = ap (λ (m : Meaning). m.0) (first_tells b 1 0 d h (null 1))

-- ---- pairs and items

abbrev pairs_more : List Pair → Option (List Pair) → Option (List Pair)
pairs_more ps = option_map (λ before. before ++ ps)

pairs_more_nil : (o : Option (List Pair)) → o ≡ pairs_more [] o
pairs_more_nil None = refl
pairs_more_nil (Some ps) = ap Some (sym (append-nil ps))

pairs_more_more : (ps qs : List Pair) (o : Option (List Pair)) → pairs_more qs (pairs_more ps o) ≡ pairs_more (ps ++ qs) o
pairs_more_more ps qs None = refl
pairs_more_more ps qs (Some rs) = ap Some (append_assoc rs ps qs)

leaves_pairs_on : (n : ℕ) (before : Said) (ls : List Leaf) → pairs_in (leaves_said n before ls) ≡ pairs_more (leaves_pairs n ls) (pairs_in before)
leaves_pairs_on n before [] = pairs_more_nil (pairs_in before)
leaves_pairs_on n before (l ∷ ls) =
    leaves_pairs_on (1 + n) (with_pair before n (says l.0) (cell_said n l.1)) ls
    ∙ pairs_more_more (pair_at n l.0 (cell_said n l.1) ∷ []) (leaves_pairs (1 + n) ls) (pairs_in before)

pub item_pairs : (n : ℕ) (i : Item) → pairs_in (item_said n i) ≡ Some (pair_at n i.0.0 (cell_said n i.0.1) ∷ leaves_pairs (1 + n) i.1)
item_pairs n i = leaves_pairs_on (1 + n) (with_pair (mapping n) n (says i.0.0) (cell_said n i.0.1)) i.1

block_pairs_on : (n : ℕ) (before : Said) (b : Block) → pairs_in (block_said n before b) ≡ pairs_more (block_pairs n b) (pairs_in before)
block_pairs_on n before done = pairs_more_nil (pairs_in before)
block_pairs_on n before (leaf_then w c rest) =
    block_pairs_on (1 + n) (with_pair before n (says w) (cell_said n c)) rest
    ∙ pairs_more_more (pair_at n w (cell_said n c) ∷ []) (block_pairs (1 + n) rest) (pairs_in before)
block_pairs_on n before (block_then w inner rest) =
    block_pairs_on (after_block (1 + n) inner) (with_pair before n (says w) (block_said (1 + n) (mapping (1 + n)) inner)) rest
    ∙ pairs_more_more (pair_at n w (block_said (1 + n) (mapping (1 + n)) inner) ∷ []) (block_pairs (after_block (1 + n) inner) rest) (pairs_in before)
block_pairs_on n before (items_then w item items rest) =
    block_pairs_on (after_items (1 + n) (item ∷ items)) (with_pair before n (says w) (items_said (1 + n) (sequence (1 + n)) (item ∷ items))) rest
    ∙ pairs_more_more (pair_at n w (items_said (1 + n) (sequence (1 + n)) (item ∷ items)) ∷ []) (block_pairs (after_items (1 + n) (item ∷ items)) rest) (pairs_in before)

-- the pairs of a block
pub block_pairs_is : (n : ℕ) (b : Block) → pairs_in (block_said n (mapping n) b) ≡ Some (block_pairs n b)
block_pairs_is n b = block_pairs_on n (mapping n) b

-- the pairs of a mapping on one line
abbrev pub entries_pairs : ℕ → List (Word × Word) → List Pair
entries_pairs n [] = []
entries_pairs n (p ∷ ps) = pair_at n p.0 (text n (says p.1)) ∷ entries_pairs n ps

entries_pairs_on : (n : ℕ) (before : Said) (ps : List (Word × Word)) → pairs_in (with_entries n before ps) ≡ pairs_more (entries_pairs n ps) (pairs_in before)
entries_pairs_on n before [] = pairs_more_nil (pairs_in before)
entries_pairs_on n before (p ∷ ps) =
    entries_pairs_on n (with_pair before n (says p.0) (text n (says p.1))) ps
    ∙ pairs_more_more (pair_at n p.0 (text n (says p.1)) ∷ []) (entries_pairs n ps) (pairs_in before)

pub entries_pairs_is : (n : ℕ) (ps : List (Word × Word)) → pairs_in (with_entries n (mapping n) ps) ≡ Some (entries_pairs n ps)
entries_pairs_is n ps = entries_pairs_on n (mapping n) ps

abbrev items_more : List Said → Option (List Said) → Option (List Said)
items_more xs = option_map (λ before. before ++ xs)

items_more_nil : (o : Option (List Said)) → o ≡ items_more [] o
items_more_nil None = refl
items_more_nil (Some xs) = ap Some (sym (append-nil xs))

items_more_more : (xs ys : List Said) (o : Option (List Said)) → items_more ys (items_more xs o) ≡ items_more (xs ++ ys) o
items_more_more xs ys None = refl
items_more_more xs ys (Some zs) = ap Some (append_assoc zs xs ys)

-- the items of a list on one line
abbrev pub words_items : ℕ → List Word → List Said
words_items n [] = []
words_items n (w ∷ ws) = text n (says w) ∷ words_items n ws

words_items_on : (n : ℕ) (before : Said) (ws : List Word) → items_in (with_words n before ws) ≡ items_more (words_items n ws) (items_in before)
words_items_on n before [] = items_more_nil (items_in before)
words_items_on n before (w ∷ ws) =
    words_items_on n (with_item before (text n (says w))) ws
    ∙ items_more_more (text n (says w) ∷ []) (words_items n ws) (items_in before)

pub words_items_is : (n : ℕ) (ws : List Word) → items_in (with_words n (sequence n) ws) ≡ Some (words_items n ws)
words_items_is n ws = words_items_on n (sequence n) ws

-- the items of a sequence of mappings
abbrev pub mappings : ℕ → List Item → List Said
mappings n [] = []
mappings n (i ∷ is) = item_said n i ∷ mappings (after_item n i) is

items_items_on : (n : ℕ) (before : Said) (is : List Item) → items_in (items_said n before is) ≡ items_more (mappings n is) (items_in before)
items_items_on n before [] = items_more_nil (items_in before)
items_items_on n before (i ∷ is) =
    items_items_on (after_item n i) (with_item before (item_said n i)) is
    ∙ items_more_more (item_said n i ∷ []) (mappings (after_item n i) is) (items_in before)

pub items_items : (n : ℕ) (is : List Item) → items_in (items_said n (sequence n) is) ≡ Some (mappings n is)
items_items n is = items_items_on n (sequence n) is
