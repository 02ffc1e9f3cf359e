-- The tokens of the lines of a block.
use Rattle.std.proofs.Common.{◌≡◌, ℕ, ◌+◌, Bool, ◌||◌, List, [], ◌∷◌, ◌++◌, flat_map, Option, Some, refl, sym, ap, ◌∙◌, append_assoc, append-nil}
use Rattle.yaml_tokens.specs.Tokens.{has_content, place_behind, place_after, line_tokens, tokens_from}
use Rattle.yaml_tokens.specs.declared.token.Token.{Token}
use Rattle.yaml_tokens.specs.declared.token.Token.TheVariants.{Dash, Key}
use Rattle.yaml_tokens.specs.declared.place.LinePlace.TheVariants.{Outside}
use Rattle.shown_config.proofs.words.Words.{Word, says, IsWord}
use Rattle.shown_config.proofs.forms.Cells as cells
use Rattle.shown_config.proofs.forms.Cells.{Cell, IsCell}
use Rattle.shown_config.proofs.forms.Rows.{spaces, pair_text, head_text, dash_text, pair_tokens_of, pair_line, head_line, dash_line}
use Rattle.shown_config.proofs.blocks.Blocks.{Leaf, Item, Block, leaf_lines, item_lines, block_lines, after_leaves, after_item, after_items, after_block, leaves_tokens, item_tokens, items_tokens, block_tokens}
use Rattle.shown_config.proofs.blocks.Blocks.Block.{done, leaf_then, block_then, items_then}

-- the words and the cells are such
abbrev pub AreLeaves : List Leaf → Type 0
AreLeaves [] = Unit {0}
AreLeaves (l ∷ ls) = IsWord l.0 × IsCell l.1 × AreLeaves ls

abbrev pub IsItem : Item → Type 0
IsItem i = IsWord i.0.0 × IsCell i.0.1 × AreLeaves i.1

abbrev pub AreItems : List Item → Type 0
AreItems [] = Unit {0}
AreItems (i ∷ is) = IsItem i × AreItems is

abbrev pub IsSpelled : Block → Type 0
IsSpelled done = Unit {0}
IsSpelled (leaf_then w c rest) = IsWord w × IsCell c × IsSpelled rest
IsSpelled (block_then w inner rest) = IsWord w × IsSpelled inner × IsSpelled rest
IsSpelled (items_then w item items rest) = IsWord w × IsItem item × AreItems items × IsSpelled rest

-- lines from this number on have these tokens, wherever they stand outside of literal blocks
abbrev Have : ℕ → List (List ℕ) → List Token → Type 0
Have n lines ms = (begun : Bool) (head : Option ℕ) → tokens_from begun (Outside head) n lines ≡ ms

line_then : (n column : ℕ) (line : List ℕ) (ms : List Token) (lines : List (List ℕ)) (more : List Token)
    → ((begun : Bool) (head : Option ℕ) → line_tokens begun (Outside head) n line ≡ ms)
    → ((head : Option ℕ) → place_behind (Outside head) ms ≡ Outside (Some column))
    → Have (1 + n) lines more → Have n (line ∷ lines) (ms ++ more)
unfolding tokens_from place_after
line_then n column line ms lines more h p k begun head =
    ap (λ found. found ++ tokens_from (begun || has_content line) (place_behind (Outside head) found) (1 + n) lines) (h begun head)
    ∙ ap (λ place. ms ++ tokens_from (begun || has_content line) place (1 + n) lines) (p head)
    ∙ ap (λ l. ms ++ l) (k (begun || has_content line) (Some column))

pair_place : (n column : ℕ) (w : Word) (c : Cell) (head : Option ℕ) → place_behind (Outside head) (pair_tokens_of n column w c) ≡ Outside (Some column)
pair_place n column w (cells.Cell.word v) head = refl
pair_place n column w (cells.Cell.items ws) head = refl
pair_place n column w (cells.Cell.entries ps) head = refl

dash_place : (n column : ℕ) (w : Word) (c : Cell) (head : Option ℕ) → place_behind (Outside head) (Dash n column ∷ pair_tokens_of n (column + 2) w c) ≡ Outside (Some (column + 2))
dash_place n column w c head = pair_place n (column + 2) w c (Some column)

leaves_have : (n column : ℕ) (ls : List Leaf) (lines : List (List ℕ)) (more : List Token) → AreLeaves ls → Have (after_leaves n ls) lines more → Have n (leaf_lines column ls ++ lines) (leaves_tokens n column ls ++ more)
leaves_have n column [] lines more h k = k
leaves_have n column (l ∷ ls) lines more h k =
    line_then n column (spaces column ++ pair_text l.0 l.1) (pair_tokens_of n column l.0 l.1) (leaf_lines column ls ++ lines) (leaves_tokens (1 + n) column ls ++ more)
    (λ begun head. pair_line begun head n column l.0 l.1 h.0 h.1) (pair_place n column l.0 l.1)
    (leaves_have (1 + n) column ls lines more h.2 k)

item_have : (n column : ℕ) (i : Item) (lines : List (List ℕ)) (more : List Token) → IsItem i → Have (after_item n i) lines more → Have n (item_lines column i ++ lines) (item_tokens n column i ++ more)
item_have n column i lines more h k =
    line_then n (column + 2) (spaces column ++ dash_text i.0.0 i.0.1) (Dash n column ∷ pair_tokens_of n (column + 2) i.0.0 i.0.1) (leaf_lines (column + 2) i.1 ++ lines) (leaves_tokens (1 + n) (column + 2) i.1 ++ more)
    (λ begun head. dash_line begun head n column i.0.0 i.0.1 h.0 h.1) (dash_place n column i.0.0 i.0.1)
    (leaves_have (1 + n) (column + 2) i.1 lines more h.2 k)

-- the same of two parts
regrouped : (n : ℕ) (a b c : List (List ℕ)) (x y z : List Token) → Have n (a ++ (b ++ c)) (x ++ (y ++ z)) → Have n ((a ++ b) ++ c) ((x ++ y) ++ z)
regrouped n a b c x y z h = λ begun head. ap (tokens_from begun (Outside head) n) (append_assoc a b c) ∙ h begun head ∙ sym (append_assoc x y z)

items_have : (n column : ℕ) (is : List Item) (lines : List (List ℕ)) (more : List Token) → AreItems is → Have (after_items n is) lines more → Have n (flat_map (item_lines column) is ++ lines) (items_tokens n column is ++ more)
items_have n column [] lines more h k = k
items_have n column (i ∷ is) lines more h k =
    regrouped n (item_lines column i) (flat_map (item_lines column) is) lines (item_tokens n column i) (items_tokens (after_item n i) column is) more
    (item_have n column i (flat_map (item_lines column) is ++ lines) (items_tokens (after_item n i) column is ++ more) h.0 (items_have (after_item n i) column is lines more h.1 k))

block_have : (n column : ℕ) (b : Block) (lines : List (List ℕ)) (more : List Token) → IsSpelled b → Have (after_block n b) lines more → Have n (block_lines column b ++ lines) (block_tokens n column b ++ more)
block_have n column done lines more h k = k
block_have n column (leaf_then w c rest) lines more h k =
    line_then n column (spaces column ++ pair_text w c) (pair_tokens_of n column w c) (block_lines column rest ++ lines) (block_tokens (1 + n) column rest ++ more)
    (λ begun head. pair_line begun head n column w c h.0 h.1) (pair_place n column w c)
    (block_have (1 + n) column rest lines more h.2 k)
block_have n column (block_then w inner rest) lines more h k =
    line_then n column (spaces column ++ head_text w) (Key n column (says w) ∷ []) ((block_lines (column + 2) inner ++ block_lines column rest) ++ lines) ((block_tokens (1 + n) (column + 2) inner ++ block_tokens (after_block (1 + n) inner) column rest) ++ more)
    (λ begun head. head_line begun head n column w h.0) (λ head. refl)
    (regrouped (1 + n) (block_lines (column + 2) inner) (block_lines column rest) lines (block_tokens (1 + n) (column + 2) inner) (block_tokens (after_block (1 + n) inner) column rest) more
    (block_have (1 + n) (column + 2) inner (block_lines column rest ++ lines) (block_tokens (after_block (1 + n) inner) column rest ++ more) h.1
    (block_have (after_block (1 + n) inner) column rest lines more h.2 k)))
block_have n column (items_then w item items rest) lines more h k =
    line_then n column (spaces column ++ head_text w) (Key n column (says w) ∷ []) ((flat_map (item_lines column) (item ∷ items) ++ block_lines column rest) ++ lines) ((items_tokens (1 + n) column (item ∷ items) ++ block_tokens (after_items (1 + n) (item ∷ items)) column rest) ++ more)
    (λ begun head. head_line begun head n column w h.0) (λ head. refl)
    (regrouped (1 + n) (flat_map (item_lines column) (item ∷ items)) (block_lines column rest) lines (items_tokens (1 + n) column (item ∷ items)) (block_tokens (after_items (1 + n) (item ∷ items)) column rest) more
    (items_have (1 + n) column (item ∷ items) (block_lines column rest ++ lines) (block_tokens (after_items (1 + n) (item ∷ items)) column rest ++ more) (h.1, h.2)
    (block_have (after_items (1 + n) (item ∷ items)) column rest lines more h.3 k)))

none_have : (n : ℕ) → Have n [] []
unfolding tokens_from
none_have n begun head = refl

-- the tokens of a block's lines
pub block_has_tokens : (begun : Bool) (head : Option ℕ) (n column : ℕ) (b : Block) → IsSpelled b → tokens_from begun (Outside head) n (block_lines column b) ≡ block_tokens n column b
block_has_tokens begun head n column b h =
    ap (tokens_from begun (Outside head) n) (sym (append-nil (block_lines column b)))
    ∙ block_have n column b [] [] h (none_have (after_block n b)) begun head
    ∙ append-nil (block_tokens n column b)
