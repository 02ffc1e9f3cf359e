-- Trees without a repeated key, a copy of an unknown node or a merge key, within some levels.
use Rattle.std.proofs.Common.{◌≡◌, ℕ, suc, ◌+◌, ◌≤◌, Bool, false, ◌||◌, ◌==◌, List, [], ◌∷◌, refl, ap, ◌∙◌, arith}
use Rattle.std.specs.Cmp.Lexicographic.{pointwise}
use Rattle.yaml_tree.specs.Said.{Said, has_key, has_repeat, has_unknown, levels}
use Rattle.yaml_tree.specs.Said.Said.{text, sequence, mapping, with_item, with_pair}
use Rattle.yaml_merge.specs.Merge.{is_merge_key}
use Rattle.yaml_merge.proofs.MergeLaws.{IsFree}
use Rattle.shown_config.proofs.words.Words.{Word, says}
use Rattle.shown_config.proofs.forms.Cells as cells
use Rattle.shown_config.proofs.forms.Cells.{Cell}
use Rattle.shown_config.proofs.blocks.Blocks.{Leaf, Item, Block, after_item, after_items, after_block, with_words, with_entries, cell_said, leaves_said, item_said, items_said, block_said}
use Rattle.shown_config.proofs.blocks.Blocks.Block.{done, leaf_then, block_then, items_then}

pub record IsTidy (k : ℕ) (tree : Said) : Type 0 where
  pub apart : has_repeat tree ≡ false
  pub known : has_unknown tree ≡ false
  pub low : levels tree ≤ k
  pub free : IsFree tree

neither : (a b : Bool) → a ≡ false → b ≡ false → (a || b) ≡ false
neither a b p q = rw (p, q) refl

pub tidy_higher : (j k : ℕ) (tree : Said) → j ≤ k → IsTidy j tree → IsTidy k tree
tidy_higher j k tree le t = record { apart = t.apart; known = t.known; low = omega (arith, t.low); free = t.free }

pub tidy_text : (line : ℕ) (bytes : List ℕ) → IsTidy 0 (text line bytes)
tidy_text line bytes = record { apart = refl; known = refl; low = omega arith; free = tt }

pub tidy_sequence : (line : ℕ) → IsTidy 1 (sequence line)
tidy_sequence line = record { apart = refl; known = refl; low = omega arith; free = tt }

pub tidy_mapping : (line : ℕ) → IsTidy 1 (mapping line)
tidy_mapping line = record { apart = refl; known = refl; low = omega arith; free = tt }

pub tidy_item : (k : ℕ) (before value : Said) → IsTidy (suc k) before → IsTidy k value → IsTidy (suc k) (with_item before value)
tidy_item k before value b v = record {
  apart = neither _ _ b.apart v.apart;
  known = neither _ _ b.known v.known;
  low = omega (arith, b.low, v.low);
  free = (b.free, v.free);
}

pub tidy_pair : (k : ℕ) (before value : Said) (line : ℕ) (key : List ℕ) → has_key key before ≡ false → is_merge_key key ≡ false → IsTidy (suc k) before → IsTidy k value → IsTidy (suc k) (with_pair before line key value)
tidy_pair k before value line key h m b v = record {
  apart = neither _ _ (neither _ _ b.apart h) v.apart;
  known = neither _ _ b.known v.known;
  low = omega (arith, b.low, v.low);
  free = (b.free, m, v.free);
}

-- ---- keys

-- whether a key is among these, the last one first
abbrev pub is_among : List ℕ → List (List ℕ) → Bool
is_among key [] = false
is_among key (k ∷ keys) = is_among key keys || pointwise ◌==◌ key k

-- a new key, and none that merges
pub record IsNew (key : List ℕ) (keys : List (List ℕ)) : Type 0 where
  pub apart : is_among key keys ≡ false
  pub plain : is_merge_key key ≡ false

-- the keys of the rows so far
abbrev HasKeys : Said → List (List ℕ) → Type 0
HasKeys tree keys = (key : List ℕ) → has_key key tree ≡ is_among key keys

pair_keys : (tree value : Said) (line : ℕ) (key : List ℕ) (keys : List (List ℕ)) → HasKeys tree keys → HasKeys (with_pair tree line key value) (key ∷ keys)
pair_keys tree value line key keys h other = ap (λ t. t || pointwise ◌==◌ other key) (h other)

-- rows so far, with these keys
record Rows (k : ℕ) (keys : List (List ℕ)) (tree : Said) : Type 0 where
  tidy : IsTidy (suc k) tree
  has : HasKeys tree keys

no_rows : (k line : ℕ) → Rows k [] (mapping line)
no_rows k line = record { tidy = tidy_higher 1 (suc k) (mapping line) (omega arith) (tidy_mapping line); has = λ key. refl }

row-more : (k : ℕ) (keys : List (List ℕ)) (tree value : Said) (line : ℕ) (key : List ℕ) → IsNew key keys → IsTidy k value → Rows k keys tree → Rows k (key ∷ keys) (with_pair tree line key value)
row-more k keys tree value line key n v r = record {
  tidy = tidy_pair k tree value line key (r.has key ∙ n.apart) n.plain r.tidy v;
  has = pair_keys tree value line key keys r.has;
}

-- ---- cells

abbrev pub AreNewEntries : List (List ℕ) → List (Word × Word) → Type 0
AreNewEntries keys [] = Unit {0}
AreNewEntries keys (p ∷ ps) = IsNew (says p.0) keys × AreNewEntries (says p.0 ∷ keys) ps

abbrev pub HasNewKeys : Cell → Type 0
HasNewKeys (cells.Cell.word w) = Unit {0}
HasNewKeys (cells.Cell.items ws) = Unit {0}
HasNewKeys (cells.Cell.entries ps) = AreNewEntries [] ps

words_tidy : (n : ℕ) (before : Said) (ws : List Word) → IsTidy 1 before → IsTidy 1 (with_words n before ws)
words_tidy n before [] h = h
words_tidy n before (w ∷ ws) h = words_tidy n (with_item before (text n (says w))) ws (tidy_item 0 before (text n (says w)) h (tidy_text n (says w)))

entries_tidy : (n : ℕ) (keys : List (List ℕ)) (before : Said) (ps : List (Word × Word)) → AreNewEntries keys ps → Rows 0 keys before → IsTidy 1 (with_entries n before ps)
entries_tidy n keys before [] h r = r.tidy
entries_tidy n keys before (p ∷ ps) h r =
    entries_tidy n (says p.0 ∷ keys) (with_pair before n (says p.0) (text n (says p.1))) ps h.1
    (row-more 0 keys before (text n (says p.1)) n (says p.0) h.0 (tidy_text n (says p.1)) r)

cell_tidy : (n : ℕ) (c : Cell) → HasNewKeys c → IsTidy 1 (cell_said n c)
cell_tidy n (cells.Cell.word w) h = tidy_higher 0 1 (text n (says w)) (omega arith) (tidy_text n (says w))
cell_tidy n (cells.Cell.items ws) h = words_tidy n (sequence n) ws (tidy_sequence n)
cell_tidy n (cells.Cell.entries ps) h = entries_tidy n [] (mapping n) ps h (no_rows 0 n)

-- ---- blocks

abbrev pub AreNewLeaves : List (List ℕ) → List Leaf → Type 0
AreNewLeaves keys [] = Unit {0}
AreNewLeaves keys (l ∷ ls) = IsNew (says l.0) keys × HasNewKeys l.1 × AreNewLeaves (says l.0 ∷ keys) ls

abbrev pub IsNewItem : Item → Type 0
IsNewItem i = IsNew (says i.0.0) [] × HasNewKeys i.0.1 × AreNewLeaves (says i.0.0 ∷ []) i.1

abbrev pub AreNewItems : List Item → Type 0
AreNewItems [] = Unit {0}
AreNewItems (i ∷ is) = IsNewItem i × AreNewItems is

-- The keys of each mapping are new in it. In the first argument stands how many levels there may be below the block's own, with
-- three for items.
abbrev pub HasNewRows : ℕ → List (List ℕ) → Block → Type 0
HasNewRows k keys done = Unit {0}
HasNewRows k keys (leaf_then w c rest) = IsNew (says w) keys × HasNewKeys c × HasNewRows k (says w ∷ keys) rest
HasNewRows k keys (block_then w inner rest) = IsNew (says w) keys × (j : ℕ) × (suc j ≤ k) × (3 ≤ j) × HasNewRows j [] inner × HasNewRows k (says w ∷ keys) rest
HasNewRows k keys (items_then w item items rest) = IsNew (says w) keys × AreNewItems (item ∷ items) × HasNewRows k (says w ∷ keys) rest

leaves_tidy : (n : ℕ) (keys : List (List ℕ)) (before : Said) (ls : List Leaf) → AreNewLeaves keys ls → Rows 1 keys before → IsTidy 2 (leaves_said n before ls)
leaves_tidy n keys before [] h r = r.tidy
leaves_tidy n keys before (l ∷ ls) h r =
    leaves_tidy (1 + n) (says l.0 ∷ keys) (with_pair before n (says l.0) (cell_said n l.1)) ls h.2 (row-more 1 keys before (cell_said n l.1) n (says l.0) h.0 (cell_tidy n l.1 h.1) r)

item_tidy : (n : ℕ) (i : Item) → IsNewItem i → IsTidy 2 (item_said n i)
item_tidy n i h =
    leaves_tidy (1 + n) (says i.0.0 ∷ []) (with_pair (mapping n) n (says i.0.0) (cell_said n i.0.1)) i.1 h.2 (row-more 1 [] (mapping n) (cell_said n i.0.1) n (says i.0.0) h.0 (cell_tidy n i.0.1 h.1) (no_rows 1 n))

items_tidy : (n : ℕ) (before : Said) (is : List Item) → AreNewItems is → IsTidy 3 before → IsTidy 3 (items_said n before is)
items_tidy n before [] h t = t
items_tidy n before (i ∷ is) h t = items_tidy (after_item n i) (with_item before (item_said n i)) is h.1 (tidy_item 2 before (item_said n i) t (item_tidy n i h.0))

block_tidy_on : (b : Block) (n k : ℕ) (keys : List (List ℕ)) (before : Said) → 3 ≤ k → HasNewRows k keys b → Rows k keys before → IsTidy (suc k) (block_said n before b)
block_tidy_on done n k keys before le h r = r.tidy
block_tidy_on (leaf_then w c rest) n k keys before le h r =
    block_tidy_on rest (1 + n) k (says w ∷ keys) (with_pair before n (says w) (cell_said n c)) le h.2
    (row-more k keys before (cell_said n c) n (says w) h.0 (tidy_higher 1 k (cell_said n c) (omega arith) (cell_tidy n c h.1)) r)
block_tidy_on (block_then w inner rest) n k keys before le h r =
    let value = block_said (1 + n) (mapping (1 + n)) inner in
    block_tidy_on rest (after_block (1 + n) inner) k (says w ∷ keys) (with_pair before n (says w) value) le h.5
    (row-more k keys before value n (says w) h.0 (tidy_higher (suc h.1) k value h.2 (block_tidy_on inner (1 + n) h.1 [] (mapping (1 + n)) h.3 h.4 (no_rows h.1 (1 + n)))) r)
block_tidy_on (items_then w item items rest) n k keys before le h r =
    let value = items_said (1 + n) (sequence (1 + n)) (item ∷ items) in
    block_tidy_on rest (after_items (1 + n) (item ∷ items)) k (says w ∷ keys) (with_pair before n (says w) value) le h.2
    (row-more k keys before value n (says w) h.0 (tidy_higher 3 k value le (items_tidy (1 + n) (sequence (1 + n)) (item ∷ items) h.1 (tidy_higher 1 3 (sequence (1 + n)) (omega arith) (tidy_sequence (1 + n))))) r)

pub block_tidy : (n k : ℕ) (b : Block) → 3 ≤ k → HasNewRows k [] b → IsTidy (suc k) (block_said n (mapping n) b)
block_tidy n k b le h = block_tidy_on b n k [] (mapping n) le h (no_rows k n)
