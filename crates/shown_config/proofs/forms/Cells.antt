-- What stands behind a key on its line: a word, a list of words or a mapping of words.
use Rattle.std.proofs.Common.{◌≡◌, ℕ, ◌+◌, false, ◌==◌, List, [], ◌∷◌, length, drop, Some, refl, sym, ap, ◌∙◌, arith, append-nil, drop_of_length-le}
use Rattle.yaml_tokens.specs.Scalars.{plain_len, scalar_at}
use Rattle.yaml_tokens.specs.Pieces.{flow_at}
use Rattle.yaml_tokens.specs.Tokens.{behind_value, flow_tokens, value_tokens_of, named_value, value_tokens}
use Rattle.yaml_tokens.specs.declared.piece.Piece.{Piece}
use Rattle.yaml_tokens.specs.declared.token.Token.{Token}
use Rattle.yaml_tokens.specs.declared.token.Token.TheVariants.{Scalar, Form}
use Rattle.text_trees.proofs.Bytes.{IsText}
use Rattle.shown_config.proofs.words.Words.{Word, text_of, says, IsWord, Opened, opened, scan_of_word, scalar_at_word, word_text}
use Rattle.shown_config.proofs.words.Words.Word.{bare, quote}
use Rattle.shown_config.proofs.forms.Forms.{AreWords, list_text, list_pieces, AreEntries, map_text, map_pieces, IsFlowText, list_flow_is, map_flow_is}
use Rattle.shown_config.proofs.forms.FormTexts.{list_text_is, map_text_is}

pub data Cell : Type 0 where
  word : Word → Cell
  items : List Word → Cell
  entries : List (Word × Word) → Cell

abbrev pub IsCell : Cell → Type 0
IsCell (word w) = IsWord w
IsCell (items ws) = AreWords ws
IsCell (entries ps) = AreEntries ps

-- as it is written
abbrev pub cell_text : Cell → List ℕ
cell_text (word w) = text_of w
cell_text (items ws) = list_text ws
cell_text (entries ps) = map_text ps

-- its token
abbrev pub cell_token : Cell → ℕ → ℕ → Token
cell_token (word w) line column = Scalar line column (Some (says w))
cell_token (items ws) line column = Form line column (list_pieces ws)
cell_token (entries ps) line column = Form line column (map_pieces ps)

pub cell_text_is : (c : Cell) → IsCell c → IsText (cell_text c)
cell_text_is (word w) h = word_text w h
cell_text_is (items ws) h = list_text_is ws h
cell_text_is (entries ps) h = map_text_is ps h

-- ---- the tokens of a value

-- what stands behind a space and no other is read from there on
value_tokens_from : (line column b : ℕ) (bytes : List ℕ) → (b == 32) ≡ false → value_tokens line column (32 ∷ (b ∷ bytes)) ≡ named_value line (column + 1) (b ∷ bytes)
value_tokens_from line column b bytes h = rw h refl

drop_whole : (bytes : List ℕ) (n : ℕ) → n ≡ length bytes → drop n bytes ≡ []
drop_whole bytes n e = drop_of_length-le bytes {i = n} (omega (arith, e))

flow_tokens_whole : (line column : ℕ) (bytes : List ℕ) (pieces : List Piece) → IsFlowText bytes pieces → flow_tokens line column bytes ≡ Form line column pieces ∷ []
flow_tokens_whole line column bytes pieces f =
    ap (λ l. Form line column (flow_at bytes).pieces ∷ behind_value line l) (drop_whole bytes (flow_at bytes).len f.whole)
    ∙ ap (λ ps. Form line column ps ∷ []) f.are

value_of_word : (line column : ℕ) (w : Word) (bytes : List ℕ) → IsWord w → bytes ≡ text_of w → value_tokens_of line column bytes (scan_of_word w) ≡ Scalar line column (Some (says w)) ∷ []
value_of_word line column (bare text) bytes h e = rw (h.other, drop_whole bytes (length text) (sym (ap length e))) refl
value_of_word line column (quote text) bytes h e = rw (drop_whole bytes (length (text_of (quote text))) (sym (ap length e))) refl

word_value : (w : Word) (line column : ℕ) → IsWord w → value_tokens line column (32 ∷ text_of w) ≡ Scalar line (column + 1) (Some (says w)) ∷ []
unfolding plain_len
word_value w line column h =
    let o : Opened (text_of w) = opened w h in
    let scan : scalar_at (o.first ∷ o.rest) ≡ scan_of_word w = ap scalar_at (sym o.parts ∙ sym (append-nil (text_of w))) ∙ scalar_at_word w [] h (refl, refl) in
    ap (λ l. value_tokens line column (32 ∷ l)) o.parts
    ∙ value_tokens_from line column o.first o.rest (o.other 32 refl)
    ∙ rw (o.other 38 refl, o.other 35 refl, o.other 91 refl, o.other 123 refl, o.other 42 refl, o.other 124 refl)
    (ap (value_tokens_of line (column + 1) (o.first ∷ o.rest)) scan ∙ value_of_word line (column + 1) w (o.first ∷ o.rest) h (sym o.parts))

-- the tokens of a value behind a space
pub cell_value : (c : Cell) (line column : ℕ) → IsCell c → value_tokens line column (32 ∷ cell_text c) ≡ cell_token c line (column + 1) ∷ []
cell_value (word w) line column h = word_value w line column h
cell_value (items ws) line column h = flow_tokens_whole line (column + 1) (list_text ws) (list_pieces ws) (list_flow_is ws h)
cell_value (entries ps) line column h = flow_tokens_whole line (column + 1) (map_text ps) (map_pieces ps) (map_flow_is ps h)
