-- The lines of rows and their tokens.
use Rattle.std.proofs.Common.{◌≡◌, ℕ, zero, suc, ◌+◌, Bool, true, false, List, [], ◌∷◌, ◌++◌, length, drop, replicate, Option, Some, codes, refl, sym, ap, ◌∙◌, subst, arith, drop_at, zero-add}
use Rattle.std.proofs.lemmas.Str.{IsUtf8-nil}
use Rattle.yaml_tokens.specs.Lines.{begins_with}
use Rattle.yaml_tokens.specs.Scalars.{at_gap, plain_len, scalar_at, plain_value}
use Rattle.yaml_tokens.specs.Tokens.{row_tokens, row_tokens_of, node_tokens, value_tokens, line_tokens}
use Rattle.yaml_tokens.specs.declared.token.Token.{Token}
use Rattle.yaml_tokens.specs.declared.token.Token.TheVariants.{Dash, Key}
use Rattle.yaml_tokens.specs.declared.place.LinePlace.TheVariants.{Outside}
use Rattle.text_trees.proofs.Bytes.{IsText, IsText_append, IsText_known}
use Rattle.shown_config.proofs.words.Words.{Word, text_of, says, IsWord, StopsWord, Opened, opened, scan_of_word, scalar_at_word, word_text}
use Rattle.shown_config.proofs.words.Words.Word.{bare, quote}
use Rattle.shown_config.proofs.forms.Cells.{Cell, IsCell, cell_text, cell_token, cell_text_is, cell_value}

-- ---- lines

abbrev pub spaces : ℕ → List ℕ
spaces n = replicate n 32

-- a key with its value
abbrev pub pair_text : Word → Cell → List ℕ
pair_text w c = text_of w ++ (codes ": " ++ cell_text c)

-- a key alone
abbrev pub head_text : Word → List ℕ
head_text w = text_of w ++ codes ":"

-- a key with its value behind a dash
abbrev pub dash_text : Word → Cell → List ℕ
dash_text w c = codes "- " ++ pair_text w c

-- ---- the tokens of a key

colon_stops : (rest : List ℕ) → at_gap rest ≡ true → StopsWord (58 ∷ rest)
unfolding plain_len
colon_stops rest h = (rw h refl, refl)

-- a key before what stands behind its colon
row_key : (line column len : ℕ) (text : List ℕ) (value : Option (List ℕ)) (bytes rest : List ℕ) → drop len bytes ≡ 58 ∷ rest → at_gap rest ≡ true
    → row_tokens line column text value bytes len ≡ Key line column text ∷ value_tokens line (column + (len + 1)) rest
row_key line column len text value bytes rest e h = rw (e, h) refl

scanned_key : (line column : ℕ) (w : Word) (bytes rest : List ℕ) → bytes ≡ text_of w ++ (58 ∷ rest) → at_gap rest ≡ true
    → row_tokens_of line column bytes (scan_of_word w) ≡ Key line column (says w) ∷ value_tokens line (column + (length (text_of w) + 1)) rest
scanned_key line column (bare text) bytes rest e h = row_key line column (length text) text (plain_value text) bytes rest (ap (drop (length text)) e ∙ drop_at text (58 ∷ rest) (length text) refl) h
scanned_key line column (quote text) bytes rest e h =
    let len = length (text_of (quote text)) in
    row_key line column len text (Some text) bytes rest (ap (drop len) e ∙ drop_at (text_of (quote text)) (58 ∷ rest) len refl) h

key_tokens : (line column : ℕ) (w : Word) (rest : List ℕ) → IsWord w → at_gap rest ≡ true
    → node_tokens line column (text_of w ++ (58 ∷ rest)) ≡ Key line column (says w) ∷ value_tokens line (column + (length (text_of w) + 1)) rest
unfolding node_tokens
key_tokens line column w rest h g =
    let o : Opened (text_of w) = opened w h in
    let bytes = o.rest ++ (58 ∷ rest) in
    let parts : text_of w ++ (58 ∷ rest) ≡ o.first ∷ bytes = ap (λ l. l ++ (58 ∷ rest)) o.parts in
    let scan : scalar_at (o.first ∷ bytes) ≡ scan_of_word w = ap scalar_at (sym parts) ∙ scalar_at_word w (58 ∷ rest) h (colon_stops rest g) in
    ap (node_tokens line column) parts
    ∙ rw (o.other 32 refl, o.other 45 refl, o.other 38 refl, o.other 35 refl, o.other 91 refl, o.other 123 refl, o.other 42 refl, o.other 124 refl)
    (ap (row_tokens_of line column (o.first ∷ bytes)) scan ∙ scanned_key line column w (o.first ∷ bytes) rest (sym parts) g)

-- where a value behind a key stands
abbrev pub value_column : ℕ → Word → ℕ
value_column column w = column + (length (text_of w) + 1) + 1

abbrev pub pair_tokens_of : ℕ → ℕ → Word → Cell → List Token
pair_tokens_of line column w c = Key line column (says w) ∷ cell_token c line (value_column column w) ∷ []

pair_tokens : (line column : ℕ) (w : Word) (c : Cell) → IsWord w → IsCell c → node_tokens line column (pair_text w c) ≡ pair_tokens_of line column w c
pair_tokens line column w c h k =
    key_tokens line column w (32 ∷ cell_text c) h refl
    ∙ ap (λ ms. Key line column (says w) ∷ ms) (cell_value c line (column + (length (text_of w) + 1)) k)

head_tokens : (line column : ℕ) (w : Word) → IsWord w → node_tokens line column (head_text w) ≡ Key line column (says w) ∷ []
head_tokens line column w h = key_tokens line column w [] h refl

dash_tokens : (line column : ℕ) (w : Word) (c : Cell) → IsWord w → IsCell c → node_tokens line column (dash_text w c) ≡ Dash line column ∷ pair_tokens_of line (column + 2) w c
unfolding node_tokens
dash_tokens line column w c h k =
    let e : 1 + (1 + column) ≡ column + 2 = omega arith in
    ap (λ ms. Dash line column ∷ ms) (ap (λ n. node_tokens line n (pair_text w c)) e ∙ pair_tokens line (column + 2) w c h k)

-- ---- the tokens of a line

spaced_tokens : (line column n : ℕ) (bytes : List ℕ) → node_tokens line column (spaces n ++ bytes) ≡ node_tokens line (column + n) bytes
unfolding node_tokens
spaced_tokens line column zero bytes = ap (λ k. node_tokens line k bytes) (let e : column ≡ column + 0 = omega arith in e)
spaced_tokens line column (suc n) bytes = spaced_tokens line (1 + column) n bytes ∙ ap (λ k. node_tokens line k bytes) (let e : (1 + column) + n ≡ column + suc n = omega arith in e)

-- what begins a line of a row: a space, or what begins a word
abbrev IsPlainStart : List ℕ → Type 0
IsPlainStart bytes = (begins_with 45 bytes ≡ false) × (begins_with 46 bytes ≡ false) × (begins_with 37 bytes ≡ false)

line_tokens_is : (begun : Bool) (head : Option ℕ) (line : ℕ) (bytes : List ℕ) → IsPlainStart bytes → line_tokens begun (Outside head) line bytes ≡ node_tokens line 0 bytes
unfolding line_tokens
line_tokens_is begun head line bytes h = rw (h.0, h.1, h.2) refl

word_start : (w : Word) (rest : List ℕ) → IsWord w → IsPlainStart (text_of w ++ rest)
word_start w rest h =
    let o : Opened (text_of w) = opened w h in
    subst (λ (l : List ℕ). IsPlainStart (l ++ rest)) (sym o.parts) (o.other 45 refl, o.other 46 refl, o.other 37 refl)

spaced_start : (n : ℕ) (w : Word) (rest : List ℕ) → IsWord w → IsPlainStart (spaces n ++ (text_of w ++ rest))
spaced_start zero w rest h = word_start w rest h
spaced_start (suc n) w rest h = (refl, refl, refl)

-- a line of a key with its value, of a key alone, and of a key with its value behind a dash, each from a column on
pub pair_line : (begun : Bool) (head : Option ℕ) (line column : ℕ) (w : Word) (c : Cell) → IsWord w → IsCell c
    → line_tokens begun (Outside head) line (spaces column ++ pair_text w c) ≡ pair_tokens_of line column w c
pair_line begun head line column w c h k =
    line_tokens_is begun head line (spaces column ++ pair_text w c) (spaced_start column w _ h)
    ∙ spaced_tokens line 0 column (pair_text w c)
    ∙ ap (λ n. node_tokens line n (pair_text w c)) (zero-add column)
    ∙ pair_tokens line column w c h k

pub head_line : (begun : Bool) (head : Option ℕ) (line column : ℕ) (w : Word) → IsWord w
    → line_tokens begun (Outside head) line (spaces column ++ head_text w) ≡ Key line column (says w) ∷ []
head_line begun head line column w h =
    line_tokens_is begun head line (spaces column ++ head_text w) (spaced_start column w _ h)
    ∙ spaced_tokens line 0 column (head_text w)
    ∙ ap (λ n. node_tokens line n (head_text w)) (zero-add column)
    ∙ head_tokens line column w h

dash_start : (begun : Bool) (head : Option ℕ) (line column : ℕ) (w : Word) (c : Cell) → line_tokens begun (Outside head) line (spaces column ++ dash_text w c) ≡ node_tokens line 0 (spaces column ++ dash_text w c)
unfolding line_tokens
dash_start begun head line zero w c = refl
dash_start begun head line (suc column) w c = refl

pub dash_line : (begun : Bool) (head : Option ℕ) (line column : ℕ) (w : Word) (c : Cell) → IsWord w → IsCell c
    → line_tokens begun (Outside head) line (spaces column ++ dash_text w c) ≡ Dash line column ∷ pair_tokens_of line (column + 2) w c
dash_line begun head line column w c h k =
    dash_start begun head line column w c
    ∙ spaced_tokens line 0 column (dash_text w c)
    ∙ ap (λ n. node_tokens line n (dash_text w c)) (zero-add column)
    ∙ dash_tokens line column w c h k

-- ---- bytes of a line

pub spaces_text : (n : ℕ) → IsText (spaces n)
spaces_text zero = record { inner = refl; valid = IsUtf8-nil }
spaces_text (suc n) = IsText_append (32 ∷ []) (spaces n) (IsText_known (32 ∷ []) refl) (spaces_text n)

pub pair_text_is : (w : Word) (c : Cell) → IsWord w → IsCell c → IsText (pair_text w c)
pair_text_is w c h k = IsText_append (text_of w) _ (word_text w h) (IsText_append (codes ": ") (cell_text c) (IsText_known (codes ": ") refl) (cell_text_is c k))

pub head_text_is : (w : Word) → IsWord w → IsText (head_text w)
head_text_is w h = IsText_append (text_of w) (codes ":") (word_text w h) (IsText_known (codes ":") refl)

pub dash_text_is : (w : Word) (c : Cell) → IsWord w → IsCell c → IsText (dash_text w c)
dash_text_is w c h k = IsText_append (codes "- ") (pair_text w c) (IsText_known (codes "- ") refl) (pair_text_is w c h k)
