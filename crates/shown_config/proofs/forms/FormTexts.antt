-- Lists and mappings of words on one line are spelled by their pieces, and are UTF-8 inside of a line.
use Rattle.std.proofs.Common.{◌≡◌, ℕ, false, List, [], ◌∷◌, ◌++◌, codes, flat_map, refl, sym, ap, ◌∙◌, append_assoc, append-nil, true≢false}
use Rattle.std.proofs.lemmas.Str.{IsUtf8-nil}
use Rattle.yaml_tokens.specs.declared.piece.Bracket.TheVariants.{Square, Curly}
use Rattle.yaml_tokens.specs.declared.piece.Piece.TheVariants.{Opening, Closing, Comma, CellKey}
use Rattle.yaml_tree.specs.Flows.{Flow, spelling, is_absent, AreCells, SpellsFlow}
use Rattle.yaml_tree.specs.Flows.Flow.{absent, word, item, pair}
use Rattle.config_lines.specs.Shown.{listed}
use Rattle.text_trees.proofs.Bytes.{IsText, IsText_append, IsText_known}
use Rattle.shown_config.proofs.words.Words.{Word, text_of, says, word_text}
use Rattle.shown_config.proofs.forms.Forms.{AreEntries, AreWords, comma_before, entries_flow, entry_text, item_piece, items_flow, list_flow, list_pieces, list_text, map_flow, map_pieces, map_text, more_entries, more_items}

-- ---- spelling

items_spelled : (before : Flow) (ws : List Word) → is_absent before ≡ false → spelling (items_flow before ws) ≡ spelling before ++ more_items ws
items_spelled before [] a = sym (append-nil (spelling before))
items_spelled before (w ∷ ws) a =
    items_spelled (item before (word (item_piece w))) ws refl
    ∙ rw a (append_assoc (spelling before) (Comma ∷ item_piece w ∷ []) (more_items ws))

pub list_spelled : (ws : List Word) → spelling (list_flow ws) ≡ list_pieces ws
list_spelled [] = refl
list_spelled (w ∷ ws) = ap (λ l. Opening Square ∷ (l ++ (Closing Square ∷ []))) (items_spelled (item absent (word (item_piece w))) ws refl)

entries_spelled : (before : Flow) (ps : List (Word × Word)) → is_absent before ≡ false → spelling (entries_flow before ps) ≡ spelling before ++ more_entries ps
entries_spelled before [] a = sym (append-nil (spelling before))
entries_spelled before (p ∷ ps) a =
    entries_spelled (pair before (CellKey (says p.0)) (word (item_piece p.1))) ps refl
    ∙ rw a (append_assoc (spelling before) (Comma ∷ CellKey (says p.0) ∷ item_piece p.1 ∷ []) (more_entries ps))

pub map_spelled : (ps : List (Word × Word)) → spelling (map_flow ps) ≡ map_pieces ps
map_spelled [] = refl
map_spelled (p ∷ ps) = ap (λ l. Opening Curly ∷ (l ++ (Closing Curly ∷ []))) (entries_spelled (pair absent (CellKey (says p.0)) (word (item_piece p.1))) ps refl)

items_cells : (before : Flow) (ws : List Word) → AreCells Square before → AreCells Square (items_flow before ws)
items_cells before [] h = h
items_cells before (w ∷ ws) h = items_cells (item before (word (item_piece w))) ws (refl, h, refl)

entries_cells : (before : Flow) (ps : List (Word × Word)) → AreCells Curly before → AreCells Curly (entries_flow before ps)
entries_cells before [] h = h
entries_cells before (p ∷ ps) h = entries_cells (pair before (CellKey (says p.0)) (word (item_piece p.1))) ps (refl, refl, h, refl)

pub list_spells : (ws : List Word) → SpellsFlow (list_pieces ws) (list_flow ws)
list_spells ws = (list_spelled ws, (items_cells absent ws tt, λ e. absurd (true≢false (sym e))))

pub map_spells : (ps : List (Word × Word)) → SpellsFlow (map_pieces ps) (map_flow ps)
map_spells ps = (map_spelled ps, (entries_cells absent ps tt, λ e. absurd (true≢false (sym e))))

-- ---- bytes of a form

abbrev AreTexts : {A : Type 0} → (A → List ℕ) → List A → Type 0
AreTexts show [] = Unit {0}
AreTexts show (x ∷ xs) = IsText (show x) × AreTexts show xs

comma_text : IsText (codes ", ")
comma_text = IsText_known (codes ", ") refl

more_text : {A : Type 0} (show : A → List ℕ) (xs : List A) → AreTexts show xs → IsText (flat_map (comma_before show) xs)
more_text show [] h = record { inner = refl; valid = IsUtf8-nil }
more_text show (x ∷ xs) h = IsText_append (comma_before show x) _ (IsText_append (codes ", ") (show x) comma_text h.0) (more_text show xs h.1)

listed_text : {A : Type 0} (show : A → List ℕ) (xs : List A) → AreTexts show xs → IsText (listed show xs)
listed_text show [] h = record { inner = refl; valid = IsUtf8-nil }
listed_text show (x ∷ xs) h = IsText_append (show x) _ h.0 (more_text show xs h.1)

words_texts : (ws : List Word) → AreWords ws → AreTexts text_of ws
words_texts [] h = tt
words_texts (w ∷ ws) h = (word_text w h.0, words_texts ws h.1)

colon_text : IsText (codes ": ")
colon_text = IsText_known (codes ": ") refl

entries_texts : (ps : List (Word × Word)) → AreEntries ps → AreTexts entry_text ps
entries_texts [] h = tt
entries_texts (p ∷ ps) h = (IsText_append (text_of p.0) _ (word_text p.0 h.0) (IsText_append (codes ": ") (text_of p.1) colon_text (word_text p.1 h.1)), entries_texts ps h.2)

pub list_text_is : (ws : List Word) → AreWords ws → IsText (list_text ws)
list_text_is ws h =
    IsText_append (codes "[") _ (IsText_known (codes "[") refl)
    (IsText_append (listed text_of ws) (codes "]") (listed_text text_of ws (words_texts ws h)) (IsText_known (codes "]") refl))

pub map_text_is : (ps : List (Word × Word)) → AreEntries ps → IsText (map_text ps)
map_text_is ps h =
    IsText_append (codes "{") _ (IsText_known (codes "{") refl)
    (IsText_append (listed entry_text ps) (codes "}") (listed_text entry_text ps (entries_texts ps h)) (IsText_known (codes "}") refl))
