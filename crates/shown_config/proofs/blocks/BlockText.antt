-- The text of a block: its lines, and its tree.
use Rattle.std.proofs.Common.{◌≡◌, ℕ, ◌+◌, ◌≤◌, true, false, not, ◌==◌, List, [], ◌∷◌, ◌++◌, flat_map, nat_eq, IsUtf8, None, refl, sym, ap, ◌∙◌, subst, append_assoc, arith}
use Rattle.std.specs.List.{list_all, starts_with}
use Rattle.std.proofs.lemmas.Bool.{and_parts}
use Rattle.std.proofs.lemmas.Str.{IsUtf8-append, IsUtf8-nil, IsUtf8-from_ascii}
use Rattle.std.proofs.lemmas.Str.Ascii.{IsAscii-nil, IsAscii-cons}
use Rattle.yaml_tokens.specs.Lines.{byte_before, split_lines, byte_order_mark, lines_of}
use Rattle.yaml_tokens.specs.Tokens.{tokens_of}
use Rattle.yaml_tree.specs.Written.{Spells}
use Rattle.yaml_tree.specs.Written.Written.{nothing}
use Rattle.yaml_tree.specs.Said.{Said, size}
use Rattle.yaml_tree.specs.Said.Said.{mapping}
use Rattle.yaml_tree.specs.Tree.{Says, IsTreeOf}
use Rattle.text_trees.proofs.Bytes.{is_inner, are_inner, not_same, IsText, IsText_append}
use Rattle.shown_config.proofs.forms.Rows.{spaces, pair_text, head_text, dash_text, spaces_text, pair_text_is, head_text_is, dash_text_is}
use Rattle.shown_config.proofs.blocks.Blocks.{Leaf, Item, Block, is_done, leaf_lines, item_lines, block_lines, block_written, block_said}
use Rattle.shown_config.proofs.blocks.Blocks.Block.{done, leaf_then, block_then, items_then}
use Rattle.shown_config.proofs.blocks.BlockTokens.{AreLeaves, IsItem, AreItems, IsSpelled, block_has_tokens}
use Rattle.shown_config.proofs.blocks.BlockWritten.{block_spells}
use Rattle.shown_config.proofs.blocks.BlockSaid.{HasRows, block_tree}
use Rattle.shown_config.proofs.blocks.Tidy.{IsTidy, HasNewRows, block_tidy}

-- lines, each with its end
abbrev pub ended : List (List ℕ) → List ℕ
ended [] = []
ended (line ∷ lines) = line ++ (10 ∷ ended lines)

pub ended_append : (xs ys : List (List ℕ)) → ended (xs ++ ys) ≡ ended xs ++ ended ys
ended_append [] ys = refl
ended_append (x ∷ xs) ys = ap (λ l. x ++ (10 ∷ l)) (ended_append xs ys) ∙ sym (append_assoc x (10 ∷ ended xs) (ended ys))

abbrev pub AreTexts : List (List ℕ) → Type 0
AreTexts [] = Unit {0}
AreTexts (line ∷ lines) = IsText line × AreTexts lines

texts_append : (xs ys : List (List ℕ)) → AreTexts xs → AreTexts ys → AreTexts (xs ++ ys)
texts_append [] ys h k = k
texts_append (x ∷ xs) ys h k = (h.0, texts_append xs ys h.1 k)

-- ---- lines

split_line : (line rest : List ℕ) → are_inner line ≡ true → split_lines (line ++ (10 ∷ rest)) ≡ line ∷ split_lines rest
unfolding split_lines
split_line [] rest h = refl
split_line (b ∷ bytes) rest h =
    let k = and_parts (is_inner b) (list_all is_inner bytes) h in
    let inner = and_parts (not (b == 10)) (not (b == 13)) k.0 in
    rw (not_same b 10 inner.0, not_same b 13 inner.1) (ap (byte_before b) (split_line bytes rest k.1))

split_ended : (lines : List (List ℕ)) → AreTexts lines → split_lines (ended lines) ≡ lines
unfolding split_lines
split_ended [] h = refl
split_ended (line ∷ lines) h = split_line line (ended lines) h.0.inner ∙ ap (λ l. line ∷ l) (split_ended lines h.1)

feed : IsUtf8 (10 ∷ [])
feed = IsUtf8-from_ascii (10 ∷ []) (IsAscii-cons 10 [] (omega arith) IsAscii-nil)

ended_utf8 : (lines : List (List ℕ)) → AreTexts lines → IsUtf8 (ended lines)
ended_utf8 [] h = IsUtf8-nil
ended_utf8 (line ∷ lines) h = IsUtf8-append line (10 ∷ ended lines) h.0.valid (IsUtf8-append (10 ∷ []) (ended lines) feed (ended_utf8 lines h.1))

-- ---- the lines of a block

leaves_texts : (column : ℕ) (ls : List Leaf) → AreLeaves ls → AreTexts (leaf_lines column ls)
leaves_texts column [] h = tt
leaves_texts column (l ∷ ls) h = (IsText_append (spaces column) (pair_text l.0 l.1) (spaces_text column) (pair_text_is l.0 l.1 h.0 h.1), leaves_texts column ls h.2)

item_texts : (column : ℕ) (i : Item) → IsItem i → AreTexts (item_lines column i)
item_texts column i h = (IsText_append (spaces column) (dash_text i.0.0 i.0.1) (spaces_text column) (dash_text_is i.0.0 i.0.1 h.0 h.1), leaves_texts (column + 2) i.1 h.2)

items_texts : (column : ℕ) (is : List Item) → AreItems is → AreTexts (flat_map (item_lines column) is)
items_texts column [] h = tt
items_texts column (i ∷ is) h = texts_append (item_lines column i) (flat_map (item_lines column) is) (item_texts column i h.0) (items_texts column is h.1)

block_texts : (column : ℕ) (b : Block) → IsSpelled b → AreTexts (block_lines column b)
block_texts column done h = tt
block_texts column (leaf_then w c rest) h = (IsText_append (spaces column) (pair_text w c) (spaces_text column) (pair_text_is w c h.0 h.1), block_texts column rest h.2)
block_texts column (block_then w inner rest) h = (
  IsText_append (spaces column) (head_text w) (spaces_text column) (head_text_is w h.0),
  texts_append (block_lines (column + 2) inner) (block_lines column rest) (block_texts (column + 2) inner h.1) (block_texts column rest h.2),
)
block_texts column (items_then w item items rest) h = (
  IsText_append (spaces column) (head_text w) (spaces_text column) (head_text_is w h.0),
  texts_append (flat_map (item_lines column) (item ∷ items)) (block_lines column rest) (items_texts column (item ∷ items) (h.1, h.2)) (block_texts column rest h.3),
)

-- ---- the tree of a text

-- A block of a whole text: its words are such, it has a row, no mapping has a key twice, and it is low.
pub record IsBlock (b : Block) : Type 0 where
  pub spelled : IsSpelled b
  pub some : is_done b ≡ false
  pub rows : HasRows b
  pub apart : HasNewRows 60 [] b

abbrev pub tree_of_block : Block → Said
tree_of_block b = block_said 1 (mapping 1) b

pub block_is_tidy : (b : Block) → IsBlock b → IsTidy 61 (tree_of_block b)
block_is_tidy b h = block_tidy 1 60 b (omega arith) h.apart

module _ (text : List ℕ) (b : Block) (h : IsBlock b) (e : text ≡ ended (block_lines 0 b)) (m : starts_with nat_eq text byte_order_mark ≡ false) where
  pub block_utf8 : IsUtf8 text
  block_utf8 = subst IsUtf8 (sym e) (ended_utf8 (block_lines 0 b) (block_texts 0 b h.spelled))

  pub block_lines_is : lines_of text ≡ block_lines 0 b
  block_lines_is = rw m (ap split_lines e ∙ split_ended (block_lines 0 b) (block_texts 0 b h.spelled))

  pub block_says : Says (lines_of text) (tree_of_block b)
  block_says = record {
    written = block_written 1 0 nothing b;
    spelled = subst (λ ms. Spells ms (block_written 1 0 nothing b)) (sym (ap tokens_of block_lines_is ∙ block_has_tokens false None 1 0 b h.spelled)) (block_spells 1 b);
    said = block_tree b h.some h.rows;
  }

  -- a block's text has the block's tree, where that isn't too large
  pub block_is_tree : size (tree_of_block b) ≤ 1_000_000 → IsTreeOf text (tree_of_block b)
  block_is_tree small =
      let t = block_is_tidy b h in
      (block_utf8, record { says = block_says; distinct = t.apart; known = t.known; shallow = omega (arith, t.low); small = small })
