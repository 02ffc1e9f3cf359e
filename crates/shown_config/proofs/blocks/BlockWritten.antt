-- A block as it is written has the tokens of its lines, each where its rule admits it.
use Rattle.std.proofs.Common.{◌≡◌, ℕ, ◌+◌, ◌*◌, ◌<◌, true, List, [], ◌∷◌, ◌++◌, refl, sym, ap, ◌∙◌, append_assoc, append-nil, arith}
use Rattle.yaml_tokens.specs.declared.token.Token.{Token}
use Rattle.yaml_tokens.specs.declared.token.Token.TheVariants.{Dash, Key}
use Rattle.yaml_tree.specs.Written.{Written, tokens, depth, is_head, SameRows, StandsBelow, Spells}
use Rattle.yaml_tree.specs.Written.Written.{nothing, leaf, literal, flowing, named, row}
use Rattle.shown_config.proofs.words.Words.{Word, says}
use Rattle.shown_config.proofs.forms.FormTexts.{list_spells, map_spells}
use Rattle.shown_config.proofs.forms.Cells as cells
use Rattle.shown_config.proofs.forms.Cells.{Cell, cell_token}
use Rattle.shown_config.proofs.forms.Rows.{value_column, pair_tokens_of}
use Rattle.shown_config.proofs.blocks.Blocks.{Leaf, Item, Block, after_item, after_items, after_block, leaves_tokens, item_tokens, items_tokens, block_tokens, cell_written, leaf_written, leaves_written, item_written, items_written, block_written}
use Rattle.shown_config.proofs.blocks.Blocks.Block.{done, leaf_then, block_then, items_then}

-- ---- tokens

cell_tokens : (n column : ℕ) (c : Cell) → tokens (cell_written n column c) ≡ cell_token c n column ∷ []
cell_tokens n column (cells.Cell.word w) = refl
cell_tokens n column (cells.Cell.items ws) = refl
cell_tokens n column (cells.Cell.entries ps) = refl

leaf_tokens : (n column : ℕ) (before : Written) (w : Word) (c : Cell) → tokens (leaf_written n column before w c) ≡ tokens before ++ pair_tokens_of n column w c
leaf_tokens n column before w c = ap (λ ms. tokens before ++ (Key n column (says w) ∷ ms)) (cell_tokens n (value_column column w) c)

leaves_tokens_is : (n column : ℕ) (before : Written) (ls : List Leaf) → tokens (leaves_written n column before ls) ≡ tokens before ++ leaves_tokens n column ls
leaves_tokens_is n column before [] = sym (append-nil (tokens before))
leaves_tokens_is n column before (l ∷ ls) =
    leaves_tokens_is (1 + n) column (leaf_written n column before l.0 l.1) ls
    ∙ ap (λ ms. ms ++ leaves_tokens (1 + n) column ls) (leaf_tokens n column before l.0 l.1)
    ∙ append_assoc (tokens before) (pair_tokens_of n column l.0 l.1) (leaves_tokens (1 + n) column ls)

item_tokens_is : (n column : ℕ) (i : Item) → Dash n column ∷ tokens (item_written n (column + 2) i) ≡ item_tokens n column i
item_tokens_is n column i =
    ap (λ ms. Dash n column ∷ ms)
    (leaves_tokens_is (1 + n) (column + 2) (leaf_written n (column + 2) nothing i.0.0 i.0.1) i.1
    ∙ ap (λ ms. ms ++ leaves_tokens (1 + n) (column + 2) i.1) (leaf_tokens n (column + 2) nothing i.0.0 i.0.1))

items_tokens_is : (n column : ℕ) (before : Written) (is : List Item) → tokens (items_written n column before is) ≡ tokens before ++ items_tokens n column is
items_tokens_is n column before [] = sym (append-nil (tokens before))
items_tokens_is n column before (i ∷ is) =
    items_tokens_is (after_item n i) column (row before (Dash n column) (item_written n (column + 2) i)) is
    ∙ ap (λ ms. (tokens before ++ ms) ++ items_tokens (after_item n i) column is) (item_tokens_is n column i)
    ∙ append_assoc (tokens before) (item_tokens n column i) (items_tokens (after_item n i) column is)

-- a row of a key before the other rows
headed : (before head value rest : List Token) (token : Token) (inner : List Token) → value ≡ inner → (before ++ (token ∷ value)) ++ rest ≡ before ++ (token ∷ (inner ++ rest))
headed before head value rest token inner e = append_assoc before (token ∷ value) rest ∙ ap (λ ms. before ++ (token ∷ (ms ++ rest))) e

pub block_tokens_is : (n column : ℕ) (before : Written) (b : Block) → tokens (block_written n column before b) ≡ tokens before ++ block_tokens n column b
block_tokens_is n column before done = sym (append-nil (tokens before))
block_tokens_is n column before (leaf_then w c rest) =
    block_tokens_is (1 + n) column (leaf_written n column before w c) rest
    ∙ ap (λ ms. ms ++ block_tokens (1 + n) column rest) (leaf_tokens n column before w c)
    ∙ append_assoc (tokens before) (pair_tokens_of n column w c) (block_tokens (1 + n) column rest)
block_tokens_is n column before (block_then w inner rest) =
    block_tokens_is (after_block (1 + n) inner) column (row before (Key n column (says w)) (block_written (1 + n) (column + 2) nothing inner)) rest
    ∙ headed (tokens before) [] (tokens (block_written (1 + n) (column + 2) nothing inner)) (block_tokens (after_block (1 + n) inner) column rest) (Key n column (says w)) (block_tokens (1 + n) (column + 2) inner) (block_tokens_is (1 + n) (column + 2) nothing inner)
block_tokens_is n column before (items_then w item items rest) =
    block_tokens_is (after_items (1 + n) (item ∷ items)) column (row before (Key n column (says w)) (items_written (1 + n) column nothing (item ∷ items))) rest
    ∙ headed (tokens before) [] (tokens (items_written (1 + n) column nothing (item ∷ items))) (block_tokens (after_items (1 + n) (item ∷ items)) column rest) (Key n column (says w)) (items_tokens (1 + n) column (item ∷ items)) (items_tokens_is (1 + n) column nothing (item ∷ items))

-- ---- columns

-- the earlier rows begin at the column of such a head
record Before (outer : ℕ) (head : Token) (before : Written) : Type 0 where
  same : SameRows before head
  stands : StandsBelow outer before

before_nothing : (outer : ℕ) (head : Token) → Before outer head nothing
before_nothing outer head = record { same = tt; stands = tt }

same_rows : (before : Written) (head other : Token) → depth head ≡ depth other → SameRows before head → SameRows before other
same_rows nothing head other e h = tt
same_rows (leaf token) head other e h = h
same_rows (literal token lines) head other e h = h
same_rows (flowing token value) head other e h = h
same_rows (named token value) head other e h = h
same_rows (row before first value) head other e h = h ∙ e

row_before : (outer : ℕ) (head next : Token) (before value : Written) → is_head head ≡ true → depth head ≡ depth next → outer < depth head → StandsBelow (depth head) value → Before outer head before → Before outer next (row before head value)
row_before outer head next before value i e lt v b = record { same = e; stands = (i, lt, b.same, b.stands, v) }

cell_stands : (n column : ℕ) (w : Word) (c : Cell) → StandsBelow (1 + 2 * column) (cell_written n (value_column column w) c)
cell_stands n column w (cells.Cell.word v) = (refl, omega arith)
cell_stands n column w (cells.Cell.items ws) = (omega arith, list_spells ws)
cell_stands n column w (cells.Cell.entries ps) = (omega arith, map_spells ps)

leaf_before : (outer n next column : ℕ) (key : List ℕ) (before : Written) (w : Word) (c : Cell) → outer < 1 + 2 * column → Before outer (Key n column (says w)) before → Before outer (Key next column key) (leaf_written n column before w c)
leaf_before outer n next column key before w c lt b = row_before outer (Key n column (says w)) (Key next column key) before (cell_written n (value_column column w) c) refl refl lt (cell_stands n column w c) b

other_key : (outer n column : ℕ) (key : List ℕ) (before : Written) → Before outer (Key 0 column []) before → Before outer (Key n column key) before
other_key outer n column key before b = record { same = same_rows before (Key 0 column []) (Key n column key) refl b.same; stands = b.stands }

leaf_stands : (outer n column : ℕ) (before : Written) (w : Word) (c : Cell) → outer < 1 + 2 * column → Before outer (Key 0 column []) before → Before outer (Key 0 column []) (leaf_written n column before w c)
leaf_stands outer n column before w c lt b = leaf_before outer n 0 column [] before w c lt (other_key outer n column (says w) before b)

leaves_stand : (outer n column : ℕ) (before : Written) (ls : List Leaf) → outer < 1 + 2 * column → Before outer (Key 0 column []) before → Before outer (Key 0 column []) (leaves_written n column before ls)
leaves_stand outer n column before [] lt b = b
leaves_stand outer n column before (l ∷ ls) lt b = leaves_stand outer (1 + n) column (leaf_written n column before l.0 l.1) ls lt (leaf_stands outer n column before l.0 l.1 lt b)

item_stands : (n column : ℕ) (i : Item) → StandsBelow (2 + 2 * column) (item_written n (column + 2) i)
item_stands n column i =
    let deep : 2 + 2 * column < 1 + 2 * (column + 2) = omega arith in
    (leaves_stand (2 + 2 * column) (1 + n) (column + 2) (leaf_written n (column + 2) nothing i.0.0 i.0.1) i.1 deep
    (leaf_stands (2 + 2 * column) n (column + 2) nothing i.0.0 i.0.1 deep (before_nothing (2 + 2 * column) (Key 0 (column + 2) [])))).stands

items_stand : (outer n column : ℕ) (before : Written) (is : List Item) → outer < 2 + 2 * column → Before outer (Dash 0 column) before → Before outer (Dash 0 column) (items_written n column before is)
items_stand outer n column before [] lt b = b
items_stand outer n column before (i ∷ is) lt b =
    items_stand outer (after_item n i) column (row before (Dash n column) (item_written n (column + 2) i)) is lt
    (row_before outer (Dash n column) (Dash 0 column) before (item_written n (column + 2) i) refl refl lt (item_stands n column i)
    (record { same = same_rows before (Dash 0 column) (Dash n column) refl b.same; stands = b.stands }))

block_stands : (outer n column : ℕ) (before : Written) (b : Block) → outer < 1 + 2 * column → Before outer (Key 0 column []) before → Before outer (Key 0 column []) (block_written n column before b)
block_stands outer n column before done lt h = h
block_stands outer n column before (leaf_then w c rest) lt h = block_stands outer (1 + n) column (leaf_written n column before w c) rest lt (leaf_stands outer n column before w c lt h)
block_stands outer n column before (block_then w inner rest) lt h =
    block_stands outer (after_block (1 + n) inner) column (row before (Key n column (says w)) (block_written (1 + n) (column + 2) nothing inner)) rest lt
    (row_before outer (Key n column (says w)) (Key 0 column []) before (block_written (1 + n) (column + 2) nothing inner) refl refl lt
    (block_stands (1 + 2 * column) (1 + n) (column + 2) nothing inner (omega arith) (before_nothing (1 + 2 * column) (Key 0 (column + 2) []))).stands
    (other_key outer n column (says w) before h))
block_stands outer n column before (items_then w item items rest) lt h =
    block_stands outer (after_items (1 + n) (item ∷ items)) column (row before (Key n column (says w)) (items_written (1 + n) column nothing (item ∷ items))) rest lt
    (row_before outer (Key n column (says w)) (Key 0 column []) before (items_written (1 + n) column nothing (item ∷ items)) refl refl lt
    (items_stand (1 + 2 * column) (1 + n) column nothing (item ∷ items) (omega arith) (before_nothing (1 + 2 * column) (Dash 0 column))).stands
    (other_key outer n column (says w) before h))

-- the tokens of a block spell it
pub block_spells : (n : ℕ) (b : Block) → Spells (block_tokens n 0 b) (block_written n 0 nothing b)
block_spells n b = (block_tokens_is n 0 nothing b, (block_stands 0 n 0 nothing b (omega arith) (before_nothing 0 (Key 0 0 []))).stands)
