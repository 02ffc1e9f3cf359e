-- Lists and mappings of words on one line, between brackets, and the pieces that are found in them.
use Rattle.std.proofs.Common.{◌≡◌, ℕ, suc, ◌+◌, ◌-◌, false, List, [], ◌∷◌, ◌++◌, length, drop, Some, codes, flat_map, refl, sym, ap, ◌∙◌, append_assoc, arith, length-append, drop_at, subst, if◌then◌else◌}
use Rattle.std.specs.List.{prefix_len}
use Rattle.yaml_tokens.specs.Lines.{begins_with}
use Rattle.yaml_tokens.specs.Scalars.{is_space, at_colon}
use Rattle.yaml_tokens.specs.Pieces.{cell_len, word_step, scan_step, CellStep, step_at, open_after, Found, found_at, with_step, flow_at}
use Rattle.yaml_tokens.specs.declared.piece.Bracket.TheVariants.{Square, Curly}
use Rattle.yaml_tokens.specs.declared.piece.Piece.{Piece}
use Rattle.yaml_tokens.specs.declared.piece.Piece.TheVariants.{Opening, Closing, Comma, CellKey, CellScalar}
use Rattle.yaml_tree.specs.Flows.{Flow}
use Rattle.yaml_tree.specs.Flows.Flow.{absent, word, item, pair, form}
use Rattle.config_lines.specs.Shown.{listed}
use Rattle.shown_config.proofs.words.Words.{Word, text_of, says, IsWord, StopsCell, Opened, opened, scan_of_word, cell_scan_word}
use Rattle.shown_config.proofs.words.Words.Word.{bare, quote}

-- ---- what is found

-- the pieces of these bytes, all of them, where so many brackets are open
record Finds (n : ℕ) (bytes : List ℕ) (pieces : List Piece) : Type 0 where
  are : (found_at 0 n bytes).pieces ≡ pieces
  whole : (found_at 0 n bytes).len ≡ length bytes

skipped : (n : ℕ) (bytes rest : List ℕ) → (found_at (length bytes) n (bytes ++ rest)).pieces ≡ (found_at 0 n rest).pieces
unfolding found_at
skipped n [] rest = refl
skipped n (b ∷ bytes) rest = skipped n bytes rest

skipped_len : (n : ℕ) (bytes rest : List ℕ) → (found_at (length bytes) n (bytes ++ rest)).len ≡ length bytes + (found_at 0 n rest).len
unfolding found_at
skipped_len n [] rest = omega arith
skipped_len n (b ∷ bytes) rest = let more = skipped_len n bytes rest in omega (arith, more)

-- the step over a word
step_scan : (w : Word) → IsWord w → (b : ℕ) (bytes : List ℕ) → scan_step b bytes (scan_of_word w) ≡ word_step (says w) (Some (says w)) (b ∷ bytes) (length (text_of w))
step_scan (bare text) h b bytes = rw h.other refl
step_scan (quote text) h b bytes = refl

step_word : (w : Word) (rest : List ℕ) (h : IsWord w) → StopsCell rest → (o : Opened (text_of w)) → step_at o.first (o.rest ++ rest) ≡ word_step (says w) (Some (says w)) (o.first ∷ (o.rest ++ rest)) (length (text_of w))
step_word w rest h s o =
    rw (o.other 32 refl, o.other 91 refl, o.other 93 refl, o.other 123 refl, o.other 125 refl, o.other 44 refl, o.other 38 refl, o.other 42 refl)
    (ap (scan_step o.first (o.rest ++ rest)) (cell_scan_word w rest o.first o.rest h s o.parts) ∙ step_scan w h o.first (o.rest ++ rest))

behind_word : (w : Word) (rest : List ℕ) (o : Opened (text_of w)) → drop (length (text_of w)) (o.first ∷ (o.rest ++ rest)) ≡ rest
behind_word w rest o = ap (λ l. drop (length (text_of w)) (l ++ rest)) (sym o.parts) ∙ drop_at (text_of w) rest (length (text_of w)) refl

length_rest : (w : Word) (o : Opened (text_of w)) → length (text_of w) ≡ suc (length o.rest)
length_rest w o = ap length o.parts

-- the step over a word before these bytes
abbrev stepped : List ℕ → ℕ → List ℕ → CellStep
stepped text len rest = record { piece = Some (if at_colon rest then CellKey text else CellScalar (Some text)); skip = (if at_colon rest then len + (prefix_len is_space rest + 1) else len) - 1 }

abbrev after_step : CellStep → ℕ → List ℕ → Found
after_step step n bytes = with_step step n (found_at step.skip (open_after step.piece n) bytes)

found_at_word : (w : Word) (rest : List ℕ) (n : ℕ) → IsWord w → StopsCell rest → (o : Opened (text_of w)) → found_at 0 n (text_of w ++ rest) ≡ after_step (stepped (says w) (length (text_of w)) rest) n (o.rest ++ rest)
unfolding found_at
found_at_word w rest n h s o =
    ap (λ l. found_at 0 n (l ++ rest)) o.parts
    ∙ ap (λ step. after_step step n (o.rest ++ rest)) (step_word w rest h s o ∙ ap (stepped (says w) (length (text_of w))) (behind_word w rest o))

-- a scalar
scalar_finds : (w : Word) (rest : List ℕ) (n : ℕ) (pieces : List Piece) → IsWord w → StopsCell rest → at_colon rest ≡ false → Finds n rest pieces → Finds n (text_of w ++ rest) (CellScalar (Some (says w)) ∷ pieces)
scalar_finds w rest n pieces h s c f = record {
  are = ap (λ found. found.pieces) step ∙ ap (λ l. CellScalar (Some (says w)) ∷ l) (skipped n o.rest rest ∙ f.are);
  whole = ap (λ found. found.len) step ∙ (let a = skipped_len n o.rest rest in let b = length-append (text_of w) rest in let d = length_rest w o in omega (arith, a, b, d, f.whole));
}
  where
    o : Opened (text_of w)
    o = opened w h

    skip : length (text_of w) - 1 ≡ length o.rest
    skip = let e = length_rest w o in omega (arith, e)

    step : found_at 0 n (text_of w ++ rest) ≡ after_step (record { piece = Some (CellScalar (Some (says w))); skip = length o.rest }) n (o.rest ++ rest)
    step = found_at_word w rest n h s o ∙ rw c (ap (λ k. after_step (record { piece = Some (CellScalar (Some (says w))); skip = k }) n (o.rest ++ rest)) skip)

-- a key
key_finds : (w : Word) (rest : List ℕ) (n : ℕ) (pieces : List Piece) → IsWord w → Finds n (32 ∷ rest) pieces → Finds n (text_of w ++ (58 ∷ (32 ∷ rest))) (CellKey (says w) ∷ pieces)
unfolding cell_len
key_finds w rest n pieces h f = record {
  are = ap (λ found. found.pieces) step ∙ ap (λ l. CellKey (says w) ∷ l) (skipped n (o.rest ++ (58 ∷ [])) (32 ∷ rest) ∙ f.are);
  whole = ap (λ found. found.len) step ∙ (let a = skipped_len n (o.rest ++ (58 ∷ [])) (32 ∷ rest) in let b = length-append (text_of w) (58 ∷ (32 ∷ rest)) in let d = length_rest w o in let e = length-append o.rest (58 ∷ []) in omega (arith, a, b, d, e, f.whole));
}
  where
    o : Opened (text_of w)
    o = opened w h

    skip : (length (text_of w) + 1) - 1 ≡ length (o.rest ++ (58 ∷ []))
    skip = let e = length_rest w o in let a = length-append o.rest (58 ∷ []) in omega (arith, e, a)

    step : found_at 0 n (text_of w ++ (58 ∷ (32 ∷ rest))) ≡ after_step (record { piece = Some (CellKey (says w)); skip = length (o.rest ++ (58 ∷ [])) }) n ((o.rest ++ (58 ∷ [])) ++ (32 ∷ rest))
    step =
        found_at_word w (58 ∷ (32 ∷ rest)) n h (refl, refl) o
        ∙ ap (λ k. after_step (record { piece = Some (CellKey (says w)); skip = k }) n (o.rest ++ (58 ∷ (32 ∷ rest)))) skip
        ∙ ap (after_step (record { piece = Some (CellKey (says w)); skip = length (o.rest ++ (58 ∷ [])) }) n) (sym (append_assoc o.rest (58 ∷ []) (32 ∷ rest)))

space_finds : (rest : List ℕ) (n : ℕ) (pieces : List Piece) → begins_with 35 rest ≡ false → Finds n rest pieces → Finds n (32 ∷ rest) pieces
unfolding found_at
space_finds rest n pieces c f = record {
  are = rw c f.are;
  whole = rw c (omega (arith, f.whole));
}

comma_finds : (rest : List ℕ) (n : ℕ) (pieces : List Piece) → Finds n rest pieces → Finds n (44 ∷ rest) (Comma ∷ pieces)
unfolding found_at
comma_finds rest n pieces f = record { are = ap (λ l. Comma ∷ l) f.are; whole = omega (arith, f.whole) }

no_comment : (w : Word) (rest : List ℕ) → IsWord w → begins_with 35 (text_of w ++ rest) ≡ false
no_comment w rest h = let o = opened w h in ap (λ l. begins_with 35 (l ++ rest)) o.parts ∙ o.other 35 refl

-- ---- lists

abbrev pub AreWords : List Word → Type 0
AreWords [] = Unit {0}
AreWords (w ∷ ws) = IsWord w × AreWords ws

abbrev pub list_text : List Word → List ℕ
list_text ws = codes "[" ++ (listed text_of ws ++ codes "]")

abbrev pub comma_before : {A : Type 0} → (A → List ℕ) → A → List ℕ
comma_before show x = codes ", " ++ show x

abbrev pub item_piece : Word → Piece
item_piece w = CellScalar (Some (says w))

abbrev pub more_items : List Word → List Piece
more_items ws = flat_map (λ w. Comma ∷ item_piece w ∷ []) ws

abbrev pub item_pieces : List Word → List Piece
item_pieces [] = []
item_pieces (w ∷ ws) = item_piece w ∷ more_items ws

abbrev Ends : List ℕ → Type 0
Ends rest = StopsCell rest × (at_colon rest ≡ false)

square_ends : (ws : List Word) → Ends (flat_map (comma_before text_of) ws ++ (93 ∷ []))
unfolding cell_len
square_ends [] = ((refl, refl), refl)
square_ends (w ∷ ws) = ((refl, refl), refl)

item_finds : (w : Word) (ws : List Word) (pieces : List Piece) → IsWord w → Finds 1 (flat_map (comma_before text_of) ws ++ (93 ∷ [])) pieces → Finds 1 ((text_of w ++ flat_map (comma_before text_of) ws) ++ (93 ∷ [])) (item_piece w ∷ pieces)
item_finds w ws pieces h f =
    let e = square_ends ws in
    subst (λ (l : List ℕ). Finds 1 l (item_piece w ∷ pieces)) (sym (append_assoc (text_of w) (flat_map (comma_before text_of) ws) (93 ∷ [])))
    (scalar_finds w (flat_map (comma_before text_of) ws ++ (93 ∷ [])) 1 pieces h e.0 e.1 f)

more_items_find : (ws : List Word) → AreWords ws → Finds 1 (flat_map (comma_before text_of) ws ++ (93 ∷ [])) (more_items ws ++ (Closing Square ∷ []))
unfolding found_at
more_items_find [] h = record { are = refl; whole = refl }
more_items_find (w ∷ ws) h =
    let rest = (text_of w ++ flat_map (comma_before text_of) ws) ++ (93 ∷ []) in
    let found = item_finds w ws (more_items ws ++ (Closing Square ∷ [])) h.0 (more_items_find ws h.1) in
    let open_text = subst (λ (l : List ℕ). begins_with 35 l ≡ false) (sym (append_assoc (text_of w) (flat_map (comma_before text_of) ws) (93 ∷ []))) (no_comment w (flat_map (comma_before text_of) ws ++ (93 ∷ [])) h.0) in
    comma_finds (32 ∷ rest) 1 _ (space_finds rest 1 _ open_text found)

items_find : (ws : List Word) → AreWords ws → Finds 1 (listed text_of ws ++ (93 ∷ [])) (item_pieces ws ++ (Closing Square ∷ []))
unfolding found_at
items_find [] h = record { are = refl; whole = refl }
items_find (w ∷ ws) h = item_finds w ws (more_items ws ++ (Closing Square ∷ [])) h.0 (more_items_find ws h.1)

-- the flow form of items behind those before
abbrev pub items_flow : Flow → List Word → Flow
items_flow before [] = before
items_flow before (w ∷ ws) = items_flow (item before (word (item_piece w))) ws

abbrev pub list_flow : List Word → Flow
list_flow ws = form Square (items_flow absent ws) false

abbrev pub list_pieces : List Word → List Piece
list_pieces ws = Opening Square ∷ (item_pieces ws ++ (Closing Square ∷ []))

-- ---- mappings

abbrev pub AreEntries : List (Word × Word) → Type 0
AreEntries [] = Unit {0}
AreEntries (p ∷ ps) = IsWord p.0 × IsWord p.1 × AreEntries ps

abbrev pub entry_text : Word × Word → List ℕ
entry_text p = text_of p.0 ++ (codes ": " ++ text_of p.1)

abbrev pub map_text : List (Word × Word) → List ℕ
map_text ps = codes "{" ++ (listed entry_text ps ++ codes "}")

abbrev pub more_entries : List (Word × Word) → List Piece
more_entries ps = flat_map (λ p. Comma ∷ CellKey (says p.0) ∷ item_piece p.1 ∷ []) ps

abbrev pub entry_pieces : List (Word × Word) → List Piece
entry_pieces [] = []
entry_pieces (p ∷ ps) = CellKey (says p.0) ∷ item_piece p.1 ∷ more_entries ps

curly_ends : (ps : List (Word × Word)) → Ends (flat_map (comma_before entry_text) ps ++ (125 ∷ []))
unfolding cell_len
curly_ends [] = ((refl, refl), refl)
curly_ends (p ∷ ps) = ((refl, refl), refl)

-- a text in two parts before a third
entry_parts : (p : Word × Word) (rest end : List ℕ) → (entry_text p ++ rest) ++ end ≡ text_of p.0 ++ (58 ∷ (32 ∷ (text_of p.1 ++ (rest ++ end))))
entry_parts p rest end =
    append_assoc (entry_text p) rest end
    ∙ append_assoc (text_of p.0) (codes ": " ++ text_of p.1) (rest ++ end)

entry_finds : (p : Word × Word) (ps : List (Word × Word)) (pieces : List Piece) → IsWord p.0 → IsWord p.1 → Finds 1 (flat_map (comma_before entry_text) ps ++ (125 ∷ [])) pieces
    → Finds 1 ((entry_text p ++ flat_map (comma_before entry_text) ps) ++ (125 ∷ [])) (CellKey (says p.0) ∷ item_piece p.1 ∷ pieces)
entry_finds p ps pieces h k f =
    let e = curly_ends ps in
    let rest = flat_map (comma_before entry_text) ps ++ (125 ∷ []) in
    subst (λ (l : List ℕ). Finds 1 l (CellKey (says p.0) ∷ item_piece p.1 ∷ pieces)) (sym (entry_parts p (flat_map (comma_before entry_text) ps) (125 ∷ [])))
    (key_finds p.0 (text_of p.1 ++ rest) 1 _ h (space_finds (text_of p.1 ++ rest) 1 _ (no_comment p.1 rest k) (scalar_finds p.1 rest 1 pieces k e.0 e.1 f)))

more_entries_find : (ps : List (Word × Word)) → AreEntries ps → Finds 1 (flat_map (comma_before entry_text) ps ++ (125 ∷ [])) (more_entries ps ++ (Closing Curly ∷ []))
unfolding found_at
more_entries_find [] h = record { are = refl; whole = refl }
more_entries_find (p ∷ ps) h =
    let rest = (entry_text p ++ flat_map (comma_before entry_text) ps) ++ (125 ∷ []) in
    let found = entry_finds p ps (more_entries ps ++ (Closing Curly ∷ [])) h.0 h.1 (more_entries_find ps h.2) in
    let open_text = subst (λ (l : List ℕ). begins_with 35 l ≡ false) (sym (entry_parts p (flat_map (comma_before entry_text) ps) (125 ∷ []))) (no_comment p.0 (58 ∷ (32 ∷ (text_of p.1 ++ (flat_map (comma_before entry_text) ps ++ (125 ∷ []))))) h.0) in
    comma_finds (32 ∷ rest) 1 _ (space_finds rest 1 _ open_text found)

entries_find : (ps : List (Word × Word)) → AreEntries ps → Finds 1 (listed entry_text ps ++ (125 ∷ [])) (entry_pieces ps ++ (Closing Curly ∷ []))
unfolding found_at
entries_find [] h = record { are = refl; whole = refl }
entries_find (p ∷ ps) h = entry_finds p ps (more_entries ps ++ (Closing Curly ∷ [])) h.0 h.1 (more_entries_find ps h.2)

abbrev pub entries_flow : Flow → List (Word × Word) → Flow
entries_flow before [] = before
entries_flow before (p ∷ ps) = entries_flow (pair before (CellKey (says p.0)) (word (item_piece p.1))) ps

abbrev pub map_flow : List (Word × Word) → Flow
map_flow ps = form Curly (entries_flow absent ps) false

abbrev pub map_pieces : List (Word × Word) → List Piece
map_pieces ps = Opening Curly ∷ (entry_pieces ps ++ (Closing Curly ∷ []))

-- ---- whole forms

-- these bytes are a flow form of these pieces
pub record IsFlowText (bytes : List ℕ) (pieces : List Piece) : Type 0 where
  pub are : (flow_at bytes).pieces ≡ pieces
  pub whole : (flow_at bytes).len ≡ length bytes

pub list_flow_is : (ws : List Word) → AreWords ws → IsFlowText (list_text ws) (list_pieces ws)
unfolding found_at
list_flow_is ws h = let f = items_find ws h in record { are = ap (λ l. Opening Square ∷ l) f.are; whole = omega (arith, f.whole) }

pub map_flow_is : (ps : List (Word × Word)) → AreEntries ps → IsFlowText (map_text ps) (map_pieces ps)
unfolding found_at
map_flow_is ps h = let f = entries_find ps h in record { are = ap (λ l. Opening Curly ∷ l) f.are; whole = omega (arith, f.whole) }
