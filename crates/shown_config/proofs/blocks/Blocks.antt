-- A block mapping of rows: its lines, its tokens and the tree that is written. A row has a key, and behind it on the line a cell,
-- or below it a block or items; an item is a mapping of leaves behind a dash. The first argument is mostly the number of the
-- first line, the second the column.
use Rattle.std.proofs.Common.{ℕ, ◌+◌, Bool, true, false, List, [], ◌∷◌, ◌++◌, map, flat_map}
use Rattle.yaml_tokens.specs.declared.token.Token.{Token}
use Rattle.yaml_tokens.specs.declared.token.Token.TheVariants.{Dash, Key}
use Rattle.yaml_tree.specs.Written.{Written}
use Rattle.yaml_tree.specs.Written.Written.{nothing, leaf, flowing, row}
use Rattle.yaml_tree.specs.Said.{Said}
use Rattle.yaml_tree.specs.Said.Said.{text, sequence, mapping, with_item, with_pair}
use Rattle.yaml_merge.specs.declared.plain.Pair.{Pair}
use Rattle.shown_config.proofs.words.Words.{Word, says}
use Rattle.shown_config.proofs.forms.Forms.{list_flow, map_flow}
use Rattle.shown_config.proofs.forms.Cells as cells
use Rattle.shown_config.proofs.forms.Cells.{Cell, cell_token}
use Rattle.shown_config.proofs.forms.Rows.{spaces, pair_text, head_text, dash_text, value_column, pair_tokens_of}

-- a key with its cell
abbrev pub Leaf : Type 0
Leaf = Word × Cell

-- the first leaf, behind the dash, and the others
abbrev pub Item : Type 0
Item = Leaf × List Leaf

pub data Block : Type 0 where
  done : Block
  leaf_then : Word → Cell → Block → Block
  block_then : Word → Block → Block → Block
  items_then : Word → Item → List Item → Block → Block

abbrev pub is_done : Block → Bool
is_done done = true
is_done _ = false

-- ---- lines

abbrev pub leaf_lines : ℕ → List Leaf → List (List ℕ)
leaf_lines column leaves = map (λ l. spaces column ++ pair_text l.0 l.1) leaves

abbrev pub item_lines : ℕ → Item → List (List ℕ)
item_lines column i = (spaces column ++ dash_text i.0.0 i.0.1) ∷ leaf_lines (column + 2) i.1

abbrev pub block_lines : ℕ → Block → List (List ℕ)
block_lines column done = []
block_lines column (leaf_then w c rest) = (spaces column ++ pair_text w c) ∷ block_lines column rest
block_lines column (block_then w inner rest) = (spaces column ++ head_text w) ∷ (block_lines (column + 2) inner ++ block_lines column rest)
block_lines column (items_then w item items rest) = (spaces column ++ head_text w) ∷ (flat_map (item_lines column) (item ∷ items) ++ block_lines column rest)

-- ---- the number of the line behind

abbrev pub after_leaves : ℕ → List Leaf → ℕ
after_leaves n [] = n
after_leaves n (l ∷ ls) = after_leaves (1 + n) ls

abbrev pub after_item : ℕ → Item → ℕ
after_item n i = after_leaves (1 + n) i.1

abbrev pub after_items : ℕ → List Item → ℕ
after_items n [] = n
after_items n (i ∷ is) = after_items (after_item n i) is

abbrev pub after_block : ℕ → Block → ℕ
after_block n done = n
after_block n (leaf_then w c rest) = after_block (1 + n) rest
after_block n (block_then w inner rest) = after_block (after_block (1 + n) inner) rest
after_block n (items_then w item items rest) = after_block (after_items (1 + n) (item ∷ items)) rest

-- ---- tokens

abbrev pub leaves_tokens : ℕ → ℕ → List Leaf → List Token
leaves_tokens n column [] = []
leaves_tokens n column (l ∷ ls) = pair_tokens_of n column l.0 l.1 ++ leaves_tokens (1 + n) column ls

abbrev pub item_tokens : ℕ → ℕ → Item → List Token
item_tokens n column i = Dash n column ∷ (pair_tokens_of n (column + 2) i.0.0 i.0.1 ++ leaves_tokens (1 + n) (column + 2) i.1)

abbrev pub items_tokens : ℕ → ℕ → List Item → List Token
items_tokens n column [] = []
items_tokens n column (i ∷ is) = item_tokens n column i ++ items_tokens (after_item n i) column is

abbrev pub block_tokens : ℕ → ℕ → Block → List Token
block_tokens n column done = []
block_tokens n column (leaf_then w c rest) = pair_tokens_of n column w c ++ block_tokens (1 + n) column rest
block_tokens n column (block_then w inner rest) = Key n column (says w) ∷ (block_tokens (1 + n) (column + 2) inner ++ block_tokens (after_block (1 + n) inner) column rest)
block_tokens n column (items_then w item items rest) = Key n column (says w) ∷ (items_tokens (1 + n) column (item ∷ items) ++ block_tokens (after_items (1 + n) (item ∷ items)) column rest)

-- ---- the tree as it is written, behind earlier rows

abbrev pub cell_written : ℕ → ℕ → Cell → Written
cell_written n column (cells.Cell.word w) = leaf (cell_token (cells.Cell.word w) n column)
cell_written n column (cells.Cell.items ws) = flowing (cell_token (cells.Cell.items ws) n column) (list_flow ws)
cell_written n column (cells.Cell.entries ps) = flowing (cell_token (cells.Cell.entries ps) n column) (map_flow ps)

abbrev pub leaf_written : ℕ → ℕ → Written → Word → Cell → Written
leaf_written n column before w c = row before (Key n column (says w)) (cell_written n (value_column column w) c)

abbrev pub leaves_written : ℕ → ℕ → Written → List Leaf → Written
leaves_written n column before [] = before
leaves_written n column before (l ∷ ls) = leaves_written (1 + n) column (leaf_written n column before l.0 l.1) ls

abbrev pub item_written : ℕ → ℕ → Item → Written
item_written n column i = leaves_written (1 + n) column (leaf_written n column nothing i.0.0 i.0.1) i.1

abbrev pub items_written : ℕ → ℕ → Written → List Item → Written
items_written n column before [] = before
items_written n column before (i ∷ is) = items_written (after_item n i) column (row before (Dash n column) (item_written n (column + 2) i)) is

abbrev pub block_written : ℕ → ℕ → Written → Block → Written
block_written n column before done = before
block_written n column before (leaf_then w c rest) = block_written (1 + n) column (leaf_written n column before w c) rest
block_written n column before (block_then w inner rest) =
    block_written (after_block (1 + n) inner) column (row before (Key n column (says w)) (block_written (1 + n) (column + 2) nothing inner)) rest
block_written n column before (items_then w item items rest) =
    block_written (after_items (1 + n) (item ∷ items)) column (row before (Key n column (says w)) (items_written (1 + n) column nothing (item ∷ items))) rest

-- ---- what it says, behind earlier rows

abbrev pub with_words : ℕ → Said → List Word → Said
with_words n before [] = before
with_words n before (w ∷ ws) = with_words n (with_item before (text n (says w))) ws

abbrev pub with_entries : ℕ → Said → List (Word × Word) → Said
with_entries n before [] = before
with_entries n before (p ∷ ps) = with_entries n (with_pair before n (says p.0) (text n (says p.1))) ps

abbrev pub cell_said : ℕ → Cell → Said
cell_said n (cells.Cell.word w) = text n (says w)
cell_said n (cells.Cell.items ws) = with_words n (sequence n) ws
cell_said n (cells.Cell.entries ps) = with_entries n (mapping n) ps

abbrev pub leaves_said : ℕ → Said → List Leaf → Said
leaves_said n before [] = before
leaves_said n before (l ∷ ls) = leaves_said (1 + n) (with_pair before n (says l.0) (cell_said n l.1)) ls

abbrev pub item_said : ℕ → Item → Said
item_said n i = leaves_said (1 + n) (with_pair (mapping n) n (says i.0.0) (cell_said n i.0.1)) i.1

abbrev pub items_said : ℕ → Said → List Item → Said
items_said n before [] = before
items_said n before (i ∷ is) = items_said (after_item n i) (with_item before (item_said n i)) is

abbrev pub block_said : ℕ → Said → Block → Said
block_said n before done = before
block_said n before (leaf_then w c rest) = block_said (1 + n) (with_pair before n (says w) (cell_said n c)) rest
block_said n before (block_then w inner rest) =
    block_said (after_block (1 + n) inner) (with_pair before n (says w) (block_said (1 + n) (mapping (1 + n)) inner)) rest
block_said n before (items_then w item items rest) =
    block_said (after_items (1 + n) (item ∷ items)) (with_pair before n (says w) (items_said (1 + n) (sequence (1 + n)) (item ∷ items))) rest

-- ---- pairs

abbrev pub pair_at : ℕ → Word → Said → Pair
pair_at n w value = record { line = n; key = says w; value = value }

abbrev pub leaves_pairs : ℕ → List Leaf → List Pair
leaves_pairs n [] = []
leaves_pairs n (l ∷ ls) = pair_at n l.0 (cell_said n l.1) ∷ leaves_pairs (1 + n) ls

abbrev pub block_pairs : ℕ → Block → List Pair
block_pairs n done = []
block_pairs n (leaf_then w c rest) = pair_at n w (cell_said n c) ∷ block_pairs (1 + n) rest
block_pairs n (block_then w inner rest) = pair_at n w (block_said (1 + n) (mapping (1 + n)) inner) ∷ block_pairs (after_block (1 + n) inner) rest
block_pairs n (items_then w item items rest) = pair_at n w (items_said (1 + n) (sequence (1 + n)) (item ∷ items)) ∷ block_pairs (after_items (1 + n) (item ∷ items)) rest
