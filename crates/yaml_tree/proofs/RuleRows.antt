-- Small texts of each rule, with the tree that they say, and their nearest neighbours that no rule admits.
use Rattle.std.proofs.Common.{◌≡◌, ℕ, true, false, List, [], ◌∷◌, Some, None, codes, refl, arith}
use Rattle.yaml_tokens.specs.Lines.{lines_of, split_lines}
use Rattle.yaml_tokens.specs.Scalars.{plain_len, single_quoted, double_len, unescaped, bare_scan, scan_of, scalar_at}
use Rattle.yaml_tokens.specs.declared.chomp.Chomp.TheVariants.{Clip, Strip, Keep}
use Rattle.yaml_tokens.specs.Pieces.{cell_len, bare_cell, cell_scan, found_at, why_bracket}
use Rattle.yaml_tokens.specs.declared.piece.Bracket.TheVariants.{Square, Curly}
use Rattle.yaml_tokens.specs.declared.piece.Piece.TheVariants.{Opening, Closing, Comma, CellKey, CellScalar, CellAnchor, CellAlias, OddPiece}
use Rattle.yaml_tree.specs.Flows.Flow.{absent, word, called, item, pair, form}
use Rattle.yaml_tokens.specs.declared.token.Token.{Token}
use Rattle.yaml_tokens.specs.Tokens.{tokens_of, tokens_from, line_tokens, place_after, node_tokens}
use Rattle.yaml_tokens.specs.declared.token.Token.TheVariants.{Dash, Key, Scalar, Anchor, Alias, Bar, Body, Form, OddToken}
use Rattle.yaml_tree.specs.Written.{Written, Spells}
use Rattle.yaml_tree.specs.Written.Written.{nothing, leaf, literal, flowing, named, row}
use Rattle.yaml_tree.specs.Said.{Said, tree_of, has_repeat, has_unknown, levels, size}
use Rattle.yaml_tree.specs.Said.Said.{null, text, unknown, sequence, mapping, with_item, with_pair}
use Rattle.yaml_tokens.specs.declared.odd.Odd.TheVariants as odd

-- the tokens of a text
abbrev tokens_in : List ℕ → List Token
tokens_in bytes = tokens_of (lines_of bytes)

-- the bytes are spelled so, and say this tree
abbrev Reads : List ℕ → Written → Said → Type 0
Reads bytes written tree = Spells (tokens_in bytes) written × (tree_of written ≡ tree)

-- ---- rules 1 to 3: blocks and scalars

-- a sequence at its key's column, and plain null
sequence_at_its_key : Reads (codes "a:\n- b\nc: ~")
    (row (row (nothing) (Key 1 0 (codes "a")) (row (nothing) (Dash 2 0) (leaf (Scalar 2 2 (Some (codes "b")))))) (Key 3 0 (codes "c")) (leaf (Scalar 3 3 None)))
    (with_pair (with_pair (mapping 1) 1 (codes "a") (with_item (sequence 2) (text 2 (codes "b")))) 3 (codes "c") (null 3))
unfolding split_lines tokens_from line_tokens place_after node_tokens scalar_at scan_of bare_scan plain_len single_quoted double_len unescaped bare_cell cell_scan cell_len found_at
sequence_at_its_key = ((refl, (refl, omega arith, refl, (refl, omega arith, tt, tt, (refl, omega arith, tt, tt, (refl, omega arith))), (refl, omega arith))), refl)

-- a mapping behind a dash, at its own column
rows_in_a_dash : Reads (codes "- a: 1\n  b:")
    (row (nothing) (Dash 1 0) (row (row (nothing) (Key 1 2 (codes "a")) (leaf (Scalar 1 5 (Some (codes "1"))))) (Key 2 2 (codes "b")) (nothing)))
    (with_item (sequence 1) (with_pair (with_pair (mapping 1) 1 (codes "a") (text 1 (codes "1"))) 2 (codes "b") (null 2)))
unfolding split_lines tokens_from line_tokens place_after node_tokens scalar_at scan_of bare_scan plain_len single_quoted double_len unescaped bare_cell cell_scan cell_len found_at
rows_in_a_dash = ((refl, (refl, omega arith, tt, tt, (refl, omega arith, refl, (refl, omega arith, tt, tt, (refl, omega arith)), tt))), refl)

-- ---- rule 4: literal blocks

-- two lines, with one line end kept
block_of_two_lines : Reads (codes "a: |\n  b\n  c\n\n")
    (row (nothing) (Key 1 0 (codes "a")) (literal (Bar 1 3 Clip) (Body 2 3 (codes "  b") ∷ Body 3 3 (codes "  c") ∷ Body 4 3 [] ∷ [])))
    (with_pair (mapping 1) 1 (codes "a") (text 1 (codes "b\nc\n")))
unfolding split_lines tokens_from line_tokens place_after node_tokens scalar_at scan_of bare_scan plain_len single_quoted double_len unescaped bare_cell cell_scan cell_len found_at
block_of_two_lines = ((refl, (refl, omega arith, tt, tt, (refl, omega arith, (refl, refl, (refl, refl, (refl, refl, tt)))))), refl)

-- `|-`: no line end is kept
block_without_an_end : Reads (codes "a: |-\n  b\n\n")
    (row (nothing) (Key 1 0 (codes "a")) (literal (Bar 1 3 Strip) (Body 2 3 (codes "  b") ∷ Body 3 3 [] ∷ [])))
    (with_pair (mapping 1) 1 (codes "a") (text 1 (codes "b")))
unfolding split_lines tokens_from line_tokens place_after node_tokens scalar_at scan_of bare_scan plain_len single_quoted double_len unescaped bare_cell cell_scan cell_len found_at
block_without_an_end = ((refl, (refl, omega arith, tt, tt, (refl, omega arith, (refl, refl, (refl, refl, tt))))), refl)

-- `|+`: all are kept, and the last line counts as a whole one
block_with_all_ends : Reads (codes "a: |+\n  b\n\n  ")
    (row (nothing) (Key 1 0 (codes "a")) (literal (Bar 1 3 Keep) (Body 2 3 (codes "  b") ∷ Body 3 3 [] ∷ Body 4 3 (codes "  ") ∷ [])))
    (with_pair (mapping 1) 1 (codes "a") (text 1 (codes "b\n\n\n")))
unfolding split_lines tokens_from line_tokens place_after node_tokens scalar_at scan_of bare_scan plain_len single_quoted double_len unescaped bare_cell cell_scan cell_len found_at
block_with_all_ends = ((refl, (refl, omega arith, tt, tt, (refl, omega arith, (refl, refl, (refl, refl, (refl, refl, tt)))))), refl)

-- blank lines alone
block_of_blanks : Reads (codes "- |\n   \n- |+\n   \n")
    (row (row (nothing) (Dash 1 0) (literal (Bar 1 2 Clip) (Body 2 2 (codes "   ") ∷ []))) (Dash 3 0) (literal (Bar 3 2 Keep) (Body 4 2 (codes "   ") ∷ [])))
    (with_item (with_item (sequence 1) (text 1 [])) (text 3 (codes "\n")))
unfolding split_lines tokens_from line_tokens place_after node_tokens scalar_at scan_of bare_scan plain_len single_quoted double_len unescaped bare_cell cell_scan cell_len found_at
block_of_blanks = ((refl, (refl, omega arith, refl, (refl, omega arith, tt, tt, (refl, omega arith, (refl, refl, tt))), (refl, omega arith, (refl, refl, tt)))), refl)

-- spaces past the block's column are kept, and what isn't a comment there
spaces_past_the_column : Reads (codes "- |\n b\n   \n #c\n")
    (row (nothing) (Dash 1 0) (literal (Bar 1 2 Clip) (Body 2 2 (codes " b") ∷ Body 3 2 (codes "   ") ∷ Body 4 2 (codes " #c") ∷ [])))
    (with_item (sequence 1) (text 1 (codes "b\n  \n#c\n")))
unfolding split_lines tokens_from line_tokens place_after node_tokens scalar_at scan_of bare_scan plain_len single_quoted double_len unescaped bare_cell cell_scan cell_len found_at
spaces_past_the_column = ((refl, (refl, omega arith, tt, tt, (refl, omega arith, (refl, refl, (refl, refl, (refl, refl, tt)))))), refl)

-- a block at the root, at column 0
block_at_the_root : Reads (codes "|\nb")
    (literal (Bar 1 0 Clip) (Body 2 0 (codes "b") ∷ []))
    (text 1 (codes "b\n"))
unfolding split_lines tokens_from line_tokens place_after node_tokens scalar_at scan_of bare_scan plain_len single_quoted double_len unescaped bare_cell cell_scan cell_len found_at
block_at_the_root = ((refl, (refl, omega arith, (refl, refl, tt))), refl)

-- a digit behind the bar is unsupported
digit_behind_a_bar : tokens_in (codes "a: |2") ≡ Key 1 0 (codes "a") ∷ Bar 1 3 Clip ∷ OddToken 1 0 odd.Unsupported ∷ []
unfolding split_lines tokens_from line_tokens place_after node_tokens scalar_at scan_of bare_scan plain_len single_quoted double_len unescaped bare_cell cell_scan cell_len found_at
digit_behind_a_bar = refl

-- anything else there is a fault of syntax
text_behind_a_bar : tokens_in (codes "a: |- b") ≡ Key 1 0 (codes "a") ∷ Bar 1 3 Strip ∷ OddToken 1 0 odd.Syntax ∷ []
unfolding split_lines tokens_from line_tokens place_after node_tokens scalar_at scan_of bare_scan plain_len single_quoted double_len unescaped bare_cell cell_scan cell_len found_at
text_behind_a_bar = refl

-- a line left of the block ends it, and so does a comment
left_of_the_block : tokens_in (codes "- |\n  b\n c\n  d") ≡ Dash 1 0 ∷ Bar 1 2 Clip ∷ Body 2 2 (codes "  b") ∷ Scalar 3 1 (Some (codes "c")) ∷ Scalar 4 2 (Some (codes "d")) ∷ []
unfolding split_lines tokens_from line_tokens place_after node_tokens scalar_at scan_of bare_scan plain_len single_quoted double_len unescaped bare_cell cell_scan cell_len found_at
left_of_the_block = refl

-- a comment left of the block ends it
comment_ends_a_block : tokens_in (codes "- |\n  b\n# c\n  d") ≡ Dash 1 0 ∷ Bar 1 2 Clip ∷ Body 2 2 (codes "  b") ∷ Scalar 4 2 (Some (codes "d")) ∷ []
unfolding split_lines tokens_from line_tokens place_after node_tokens scalar_at scan_of bare_scan plain_len single_quoted double_len unescaped bare_cell cell_scan cell_len found_at
comment_ends_a_block = refl

-- the block's lines stand deeper than its key
not_deeper_than_its_key : tokens_in (codes "a: |\nb") ≡ Key 1 0 (codes "a") ∷ Bar 1 3 Clip ∷ Scalar 2 0 (Some (codes "b")) ∷ []
unfolding split_lines tokens_from line_tokens place_after node_tokens scalar_at scan_of bare_scan plain_len single_quoted double_len unescaped bare_cell cell_scan cell_len found_at
not_deeper_than_its_key = refl

-- a marker at column 0 is unsupported in a block at the root too
marker_in_a_block : tokens_in (codes "|\n---") ≡ Bar 1 0 Clip ∷ OddToken 2 0 odd.Unsupported ∷ []
unfolding split_lines tokens_from line_tokens place_after node_tokens scalar_at scan_of bare_scan plain_len single_quoted double_len unescaped bare_cell cell_scan cell_len found_at
marker_in_a_block = refl

-- and so is `...`
end_marker_in_a_block : tokens_in (codes "|\na\n... # b") ≡ Bar 1 0 Clip ∷ Body 2 0 (codes "a") ∷ OddToken 3 0 odd.Unsupported ∷ []
unfolding split_lines tokens_from line_tokens place_after node_tokens scalar_at scan_of bare_scan plain_len single_quoted double_len unescaped bare_cell cell_scan cell_len found_at
end_marker_in_a_block = refl

-- further right neither is a marker
dots_in_a_block : Reads (codes "|\n ---\n ...")
    (literal (Bar 1 0 Clip) (Body 2 0 (codes " ---") ∷ Body 3 0 (codes " ...") ∷ []))
    (text 1 (codes "---\n...\n"))
unfolding split_lines tokens_from line_tokens place_after node_tokens scalar_at scan_of bare_scan plain_len single_quoted double_len unescaped bare_cell cell_scan cell_len found_at
dots_in_a_block = ((refl, (refl, omega arith, (refl, refl, (refl, refl, tt)))), refl)

-- ---- rule 5: flow forms

-- two items
two_items : Reads (codes "a: [b, c]")
    (row (nothing) (Key 1 0 (codes "a")) (flowing (Form 1 3 (Opening Square ∷ CellScalar (Some (codes "b")) ∷ Comma ∷ CellScalar (Some (codes "c")) ∷ Closing Square ∷ [])) (form Square (item (item (absent) (word (CellScalar (Some (codes "b"))))) (word (CellScalar (Some (codes "c"))))) false)))
    (with_pair (mapping 1) 1 (codes "a") (with_item (with_item (sequence 1) (text 1 (codes "b"))) (text 1 (codes "c"))))
unfolding split_lines tokens_from line_tokens place_after node_tokens scalar_at scan_of bare_scan plain_len single_quoted double_len unescaped bare_cell cell_scan cell_len found_at
two_items = ((refl, (refl, omega arith, tt, tt, (omega arith, (refl, ((refl, (refl, tt, refl), refl), λ e. refl))))), refl)

-- empty forms, and a comma at the end
empty_forms : Reads (codes "{a: [], b: {}, }")
    (flowing (Form 1 0 (Opening Curly ∷ CellKey (codes "a") ∷ Opening Square ∷ Closing Square ∷ Comma ∷ CellKey (codes "b") ∷ Opening Curly ∷ Closing Curly ∷ Comma ∷ Closing Curly ∷ [])) (form Curly (pair (pair (absent) (CellKey (codes "a")) (form Square (absent) false)) (CellKey (codes "b")) (form Curly (absent) false)) true))
    (with_pair (with_pair (mapping 1) 1 (codes "a") (sequence 1)) 1 (codes "b") (mapping 1))
unfolding split_lines tokens_from line_tokens place_after node_tokens scalar_at scan_of bare_scan plain_len single_quoted double_len unescaped bare_cell cell_scan cell_len found_at
empty_forms = ((refl, (omega arith, (refl, ((refl, refl, (refl, refl, tt, (tt, λ e. e)), (tt, λ e. e)), λ e. refl)))), refl)

-- quotes, a key with spaces before its colon, and null
quotes_in_a_form : Reads (codes "- {'a' : ~, b: 'c, ]'} # d")
    (row (nothing) (Dash 1 0) (flowing (Form 1 2 (Opening Curly ∷ CellKey (codes "a") ∷ CellScalar None ∷ Comma ∷ CellKey (codes "b") ∷ CellScalar (Some (codes "c, ]")) ∷ Closing Curly ∷ [])) (form Curly (pair (pair (absent) (CellKey (codes "a")) (word (CellScalar None))) (CellKey (codes "b")) (word (CellScalar (Some (codes "c, ]"))))) false)))
    (with_item (sequence 1) (with_pair (with_pair (mapping 1) 1 (codes "a") (null 1)) 1 (codes "b") (text 1 (codes "c, ]"))))
unfolding split_lines tokens_from line_tokens place_after node_tokens scalar_at scan_of bare_scan plain_len single_quoted double_len unescaped bare_cell cell_scan cell_len found_at
quotes_in_a_form = ((refl, (refl, omega arith, tt, tt, (omega arith, (refl, ((refl, refl, (refl, refl, tt, refl), refl), λ e. refl))))), refl)

-- `-` before a bracket begins a plain scalar
dash_before_a_bracket : Reads (codes "[-]")
    (flowing (Form 1 0 (Opening Square ∷ CellScalar (Some (codes "-")) ∷ Closing Square ∷ [])) (form Square (item (absent) (word (CellScalar (Some (codes "-"))))) false))
    (with_item (sequence 1) (text 1 (codes "-")))
unfolding split_lines tokens_from line_tokens place_after node_tokens scalar_at scan_of bare_scan plain_len single_quoted double_len unescaped bare_cell cell_scan cell_len found_at
dash_before_a_bracket = ((refl, (omega arith, (refl, ((refl, tt, refl), λ e. refl)))), refl)

-- and so does `?` before anything but a space
question_before_text : Reads (codes "[?x]")
    (flowing (Form 1 0 (Opening Square ∷ CellScalar (Some (codes "?x")) ∷ Closing Square ∷ [])) (form Square (item (absent) (word (CellScalar (Some (codes "?x"))))) false))
    (with_item (sequence 1) (text 1 (codes "?x")))
unfolding split_lines tokens_from line_tokens place_after node_tokens scalar_at scan_of bare_scan plain_len single_quoted double_len unescaped bare_cell cell_scan cell_len found_at
question_before_text = ((refl, (omega arith, (refl, ((refl, tt, refl), λ e. refl)))), refl)

-- the line's end inside a bracket
bracket_that_stays_open : tokens_in (codes "a: [b, #c") ≡ Key 1 0 (codes "a") ∷ Form 1 3 (Opening Square ∷ CellScalar (Some (codes "b")) ∷ Comma ∷ []) ∷ []
unfolding split_lines tokens_from line_tokens place_after node_tokens scalar_at scan_of bare_scan plain_len single_quoted double_len unescaped bare_cell cell_scan cell_len found_at
bracket_that_stays_open = refl

-- a comma where an item is wanted
two_commas : tokens_in (codes "[a,, b]") ≡ Form 1 0 (Opening Square ∷ CellScalar (Some (codes "a")) ∷ Comma ∷ Comma ∷ CellScalar (Some (codes "b")) ∷ Closing Square ∷ []) ∷ []
unfolding split_lines tokens_from line_tokens place_after node_tokens scalar_at scan_of bare_scan plain_len single_quoted double_len unescaped bare_cell cell_scan cell_len found_at
two_commas = refl

-- a colon needs its space
colon_without_a_space : tokens_in (codes "{\"a\":1}") ≡ Form 1 0 (Opening Curly ∷ CellScalar (Some (codes "a")) ∷ CellScalar (Some (codes ":1")) ∷ Closing Curly ∷ []) ∷ []
unfolding split_lines tokens_from line_tokens place_after node_tokens scalar_at scan_of bare_scan plain_len single_quoted double_len unescaped bare_cell cell_scan cell_len found_at
colon_without_a_space = refl

-- a key of a form needs its value
key_without_a_value : tokens_in (codes "{a: }") ≡ Form 1 0 (Opening Curly ∷ CellKey (codes "a") ∷ Closing Curly ∷ []) ∷ []
unfolding split_lines tokens_from line_tokens place_after node_tokens scalar_at scan_of bare_scan plain_len single_quoted double_len unescaped bare_cell cell_scan cell_len found_at
key_without_a_value = refl

-- a key between square brackets
pair_between_square_brackets : tokens_in (codes "[a: b]") ≡ Form 1 0 (Opening Square ∷ CellKey (codes "a") ∷ CellScalar (Some (codes "b")) ∷ Closing Square ∷ []) ∷ []
unfolding split_lines tokens_from line_tokens place_after node_tokens scalar_at scan_of bare_scan plain_len single_quoted double_len unescaped bare_cell cell_scan cell_len found_at
pair_between_square_brackets = refl

-- an indicator beyond the profile
indicator_in_a_form : tokens_in (codes "[!a]") ≡ Form 1 0 (Opening Square ∷ OddPiece odd.Indicator ∷ CellScalar (Some (codes "a")) ∷ Closing Square ∷ []) ∷ []
unfolding split_lines tokens_from line_tokens place_after node_tokens scalar_at scan_of bare_scan plain_len single_quoted double_len unescaped bare_cell cell_scan cell_len found_at
indicator_in_a_form = refl

-- a form is no key
form_as_a_key : tokens_in (codes "[a]: b") ≡ Form 1 0 (Opening Square ∷ CellScalar (Some (codes "a")) ∷ Closing Square ∷ []) ∷ OddToken 1 0 odd.Syntax ∷ []
unfolding split_lines tokens_from line_tokens place_after node_tokens scalar_at scan_of bare_scan plain_len single_quoted double_len unescaped bare_cell cell_scan cell_len found_at
form_as_a_key = refl

-- nothing stands behind a form
text_behind_a_form : tokens_in (codes "[a] b") ≡ Form 1 0 (Opening Square ∷ CellScalar (Some (codes "a")) ∷ Closing Square ∷ []) ∷ OddToken 1 0 odd.Syntax ∷ []
unfolding split_lines tokens_from line_tokens place_after node_tokens scalar_at scan_of bare_scan plain_len single_quoted double_len unescaped bare_cell cell_scan cell_len found_at
text_behind_a_form = refl

-- a form behind a scalar
form_behind_a_scalar : tokens_in (codes "\"a\" [b]") ≡ OddToken 1 0 odd.Syntax ∷ []
unfolding split_lines tokens_from line_tokens place_after node_tokens scalar_at scan_of bare_scan plain_len single_quoted double_len unescaped bare_cell cell_scan cell_len found_at
form_behind_a_scalar = refl

-- one that isn't closed there
open_bracket_behind_a_scalar : tokens_in (codes "\"a\" [b") ≡ OddToken 1 0 odd.Unkeyed ∷ []
unfolding split_lines tokens_from line_tokens place_after node_tokens scalar_at scan_of bare_scan plain_len single_quoted double_len unescaped bare_cell cell_scan cell_len found_at
open_bracket_behind_a_scalar = refl

-- a bracket where no value may begin: a fault of syntax, since it is closed on its line
closed_bracket_behind_a_value : (tokens_in (codes "a: 1\n [b]") ≡ Key 1 0 (codes "a") ∷ Scalar 1 3 (Some (codes "1")) ∷ Form 2 1 (Opening Square ∷ CellScalar (Some (codes "b")) ∷ Closing Square ∷ []) ∷ [])
    × (why_bracket (Opening Square ∷ CellScalar (Some (codes "b")) ∷ Closing Square ∷ []) ≡ odd.Syntax)
unfolding split_lines tokens_from line_tokens place_after node_tokens scalar_at scan_of bare_scan plain_len single_quoted double_len unescaped bare_cell cell_scan cell_len found_at
closed_bracket_behind_a_value = (refl, refl)

-- unsupported, since it is not
open_bracket_behind_a_value : (tokens_in (codes "a: 1\n [b") ≡ Key 1 0 (codes "a") ∷ Scalar 1 3 (Some (codes "1")) ∷ Form 2 1 (Opening Square ∷ CellScalar (Some (codes "b")) ∷ []) ∷ [])
    × (why_bracket (Opening Square ∷ CellScalar (Some (codes "b")) ∷ []) ≡ odd.Unsupported)
unfolding split_lines tokens_from line_tokens place_after node_tokens scalar_at scan_of bare_scan plain_len single_quoted double_len unescaped bare_cell cell_scan cell_len found_at
open_bracket_behind_a_value = (refl, refl)

-- ---- rule 6: anchors and aliases

-- an alias of a scalar
alias_of_a_scalar : Reads (codes "a: &x 1\nb: *x")
    (row (row (nothing) (Key 1 0 (codes "a")) (named (Anchor 1 3 (codes "x")) (leaf (Scalar 1 6 (Some (codes "1")))))) (Key 2 0 (codes "b")) (leaf (Alias 2 3 (codes "x"))))
    (with_pair (with_pair (mapping 1) 1 (codes "a") (text 1 (codes "1"))) 2 (codes "b") (text 1 (codes "1")))
unfolding split_lines tokens_from line_tokens place_after node_tokens scalar_at scan_of bare_scan plain_len single_quoted double_len unescaped bare_cell cell_scan cell_len found_at
alias_of_a_scalar = ((refl, (refl, omega arith, refl, (refl, omega arith, tt, tt, (refl, omega arith, refl, (refl, omega arith))), (refl, omega arith))), refl)

-- a name with nothing behind it names null, and an alias keeps its line
name_with_nothing_behind_it : Reads (codes "a: &x\nb: *x")
    (row (row (nothing) (Key 1 0 (codes "a")) (named (Anchor 1 3 (codes "x")) (nothing))) (Key 2 0 (codes "b")) (leaf (Alias 2 3 (codes "x"))))
    (with_pair (with_pair (mapping 1) 1 (codes "a") (null 1)) 2 (codes "b") (null 1))
unfolding split_lines tokens_from line_tokens place_after node_tokens scalar_at scan_of bare_scan plain_len single_quoted double_len unescaped bare_cell cell_scan cell_len found_at
name_with_nothing_behind_it = ((refl, (refl, omega arith, refl, (refl, omega arith, tt, tt, (refl, omega arith, tt, tt)), (refl, omega arith))), refl)

-- the name belongs to the mapping
name_of_a_mapping : Reads (codes "- &x a: 1\n- *x")
    (row (row (nothing) (Dash 1 0) (named (Anchor 1 2 (codes "x")) (row (nothing) (Key 1 5 (codes "a")) (leaf (Scalar 1 8 (Some (codes "1"))))))) (Dash 2 0) (leaf (Alias 2 2 (codes "x"))))
    (with_item (with_item (sequence 1) (with_pair (mapping 1) 1 (codes "a") (text 1 (codes "1")))) (with_pair (mapping 1) 1 (codes "a") (text 1 (codes "1"))))
unfolding split_lines tokens_from line_tokens place_after node_tokens scalar_at scan_of bare_scan plain_len single_quoted double_len unescaped bare_cell cell_scan cell_len found_at
name_of_a_mapping = ((refl, (refl, omega arith, refl, (refl, omega arith, tt, tt, (refl, omega arith, tt, (refl, omega arith, tt, tt, (refl, omega arith)))), (refl, omega arith))), refl)

-- at the root too; the mapping stands at its key's column
name_of_the_root : Reads (codes "&x a: 1\n   b: 2")
    (named (Anchor 1 0 (codes "x")) (row (row (nothing) (Key 1 3 (codes "a")) (leaf (Scalar 1 6 (Some (codes "1"))))) (Key 2 3 (codes "b")) (leaf (Scalar 2 6 (Some (codes "2"))))))
    (with_pair (with_pair (mapping 1) 1 (codes "a") (text 1 (codes "1"))) 2 (codes "b") (text 2 (codes "2")))
unfolding split_lines tokens_from line_tokens place_after node_tokens scalar_at scan_of bare_scan plain_len single_quoted double_len unescaped bare_cell cell_scan cell_len found_at
name_of_the_root = ((refl, (refl, omega arith, tt, (refl, omega arith, refl, (refl, omega arith, tt, tt, (refl, omega arith)), (refl, omega arith)))), refl)

-- a name on a line of its own, left of its value, which begins on the name's line
name_left_of_its_value : Reads (codes "a:\n &x\n   b\nc: *x")
    (row (row (nothing) (Key 1 0 (codes "a")) (named (Anchor 2 1 (codes "x")) (leaf (Scalar 3 3 (Some (codes "b")))))) (Key 4 0 (codes "c")) (leaf (Alias 4 3 (codes "x"))))
    (with_pair (with_pair (mapping 1) 1 (codes "a") (text 2 (codes "b"))) 4 (codes "c") (text 2 (codes "b")))
unfolding split_lines tokens_from line_tokens place_after node_tokens scalar_at scan_of bare_scan plain_len single_quoted double_len unescaped bare_cell cell_scan cell_len found_at
name_left_of_its_value = ((refl, (refl, omega arith, refl, (refl, omega arith, tt, tt, (refl, omega arith, refl, (refl, omega arith))), (refl, omega arith))), refl)

-- and right of it
name_right_of_its_value : Reads (codes "a:\n   &x\n - b\nc: *x")
    (row (row (nothing) (Key 1 0 (codes "a")) (named (Anchor 2 3 (codes "x")) (row (nothing) (Dash 3 1) (leaf (Scalar 3 3 (Some (codes "b"))))))) (Key 4 0 (codes "c")) (leaf (Alias 4 3 (codes "x"))))
    (with_pair (with_pair (mapping 1) 1 (codes "a") (with_item (sequence 2) (text 3 (codes "b")))) 4 (codes "c") (with_item (sequence 2) (text 3 (codes "b"))))
unfolding split_lines tokens_from line_tokens place_after node_tokens scalar_at scan_of bare_scan plain_len single_quoted double_len unescaped bare_cell cell_scan cell_len found_at
name_right_of_its_value = ((refl, (refl, omega arith, refl, (refl, omega arith, tt, tt, (refl, omega arith, tt, (refl, omega arith, tt, tt, (refl, omega arith)))), (refl, omega arith))), refl)

-- a null that has a name begins on the name's line
name_behind_a_blank_line : Reads (codes "\n&x")
    (named (Anchor 2 0 (codes "x")) (nothing))
    (null 2)
unfolding split_lines tokens_from line_tokens place_after node_tokens scalar_at scan_of bare_scan plain_len single_quoted double_len unescaped bare_cell cell_scan cell_len found_at
name_behind_a_blank_line = ((refl, (refl, omega arith, tt, tt)), refl)

-- also below its dash
name_below_its_dash : Reads (codes "-\n  &x")
    (row (nothing) (Dash 1 0) (named (Anchor 2 2 (codes "x")) (nothing)))
    (with_item (sequence 1) (null 2))
unfolding split_lines tokens_from line_tokens place_after node_tokens scalar_at scan_of bare_scan plain_len single_quoted double_len unescaped bare_cell cell_scan cell_len found_at
name_below_its_dash = ((refl, (refl, omega arith, tt, tt, (refl, omega arith, tt, tt))), refl)

-- a node is not known inside itself
alias_inside_its_node : Reads (codes "a: &x\n  b: *x")
    (row (nothing) (Key 1 0 (codes "a")) (named (Anchor 1 3 (codes "x")) (row (nothing) (Key 2 2 (codes "b")) (leaf (Alias 2 5 (codes "x"))))))
    (with_pair (mapping 1) 1 (codes "a") (with_pair (mapping 1) 2 (codes "b") (unknown 2)))
unfolding split_lines tokens_from line_tokens place_after node_tokens scalar_at scan_of bare_scan plain_len single_quoted double_len unescaped bare_cell cell_scan cell_len found_at
alias_inside_its_node = ((refl, (refl, omega arith, tt, tt, (refl, omega arith, tt, (refl, omega arith, tt, tt, (refl, omega arith))))), refl)

-- of nodes of one name the one completed last counts
last_complete_node : Reads (codes "- &x [&x 1]\n- *x")
    (row (row (nothing) (Dash 1 0) (named (Anchor 1 2 (codes "x")) (flowing (Form 1 5 (Opening Square ∷ CellAnchor (codes "x") ∷ CellScalar (Some (codes "1")) ∷ Closing Square ∷ [])) (form Square (item (absent) (called (CellAnchor (codes "x")) (word (CellScalar (Some (codes "1")))))) false)))) (Dash 2 0) (leaf (Alias 2 2 (codes "x"))))
    (with_item (with_item (sequence 1) (with_item (sequence 1) (text 1 (codes "1")))) (with_item (sequence 1) (text 1 (codes "1"))))
unfolding split_lines tokens_from line_tokens place_after node_tokens scalar_at scan_of bare_scan plain_len single_quoted double_len unescaped bare_cell cell_scan cell_len found_at
last_complete_node = ((refl, (refl, omega arith, refl, (refl, omega arith, tt, tt, (refl, omega arith, tt, (omega arith, (refl, ((refl, tt, (refl, refl, refl)), λ e. refl))))), (refl, omega arith))), refl)

-- anchors and aliases in a form
names_in_a_form : Reads (codes "[&x, *x, &y {a: *x}]")
    (flowing (Form 1 0 (Opening Square ∷ CellAnchor (codes "x") ∷ Comma ∷ CellAlias (codes "x") ∷ Comma ∷ CellAnchor (codes "y") ∷ Opening Curly ∷ CellKey (codes "a") ∷ CellAlias (codes "x") ∷ Closing Curly ∷ Closing Square ∷ [])) (form Square (item (item (item (absent) (called (CellAnchor (codes "x")) (absent))) (word (CellAlias (codes "x")))) (called (CellAnchor (codes "y")) (form Curly (pair (absent) (CellKey (codes "a")) (word (CellAlias (codes "x")))) false))) false))
    (with_item (with_item (with_item (sequence 1) (null 1)) (null 1)) (with_pair (mapping 1) 1 (codes "a") (null 1)))
unfolding split_lines tokens_from line_tokens place_after node_tokens scalar_at scan_of bare_scan plain_len single_quoted double_len unescaped bare_cell cell_scan cell_len found_at
names_in_a_form = ((refl, (omega arith, (refl, ((refl, (refl, (refl, tt, refl), refl), (refl, refl, ((refl, refl, tt, refl), λ e. refl))), λ e. refl)))), refl)

-- a sequence begins on a line of its own, also behind a name
dash_behind_a_name : tokens_in (codes "&x - b") ≡ Anchor 1 0 (codes "x") ∷ OddToken 1 3 odd.Syntax ∷ []
unfolding split_lines tokens_from line_tokens place_after node_tokens scalar_at scan_of bare_scan plain_len single_quoted double_len unescaped bare_cell cell_scan cell_len found_at
dash_behind_a_name = refl

-- one name a value
two_names : tokens_in (codes "a: &x &y 1") ≡ Key 1 0 (codes "a") ∷ Anchor 1 3 (codes "x") ∷ OddToken 1 6 odd.Syntax ∷ []
unfolding split_lines tokens_from line_tokens place_after node_tokens scalar_at scan_of bare_scan plain_len single_quoted double_len unescaped bare_cell cell_scan cell_len found_at
two_names = refl

-- an alias has no name
name_of_a_alias : tokens_in (codes "a: &x *y") ≡ Key 1 0 (codes "a") ∷ Anchor 1 3 (codes "x") ∷ Alias 1 6 (codes "y") ∷ []
unfolding split_lines tokens_from line_tokens place_after node_tokens scalar_at scan_of bare_scan plain_len single_quoted double_len unescaped bare_cell cell_scan cell_len found_at
name_of_a_alias = refl

-- an alias is a whole value
text_behind_a_alias : tokens_in (codes "a: *x y") ≡ Key 1 0 (codes "a") ∷ Alias 1 3 (codes "x") ∷ OddToken 1 0 odd.Syntax ∷ []
unfolding split_lines tokens_from line_tokens place_after node_tokens scalar_at scan_of bare_scan plain_len single_quoted double_len unescaped bare_cell cell_scan cell_len found_at
text_behind_a_alias = refl

-- another byte behind a name
byte_behind_a_name : tokens_in (codes "a: &x# 1") ≡ Key 1 0 (codes "a") ∷ OddToken 1 3 odd.Syntax ∷ []
unfolding split_lines tokens_from line_tokens place_after node_tokens scalar_at scan_of bare_scan plain_len single_quoted double_len unescaped bare_cell cell_scan cell_len found_at
byte_behind_a_name = refl

-- no name
indicator_without_a_name : tokens_in (codes "- * x") ≡ Dash 1 0 ∷ OddToken 1 2 odd.Syntax ∷ []
unfolding split_lines tokens_from line_tokens place_after node_tokens scalar_at scan_of bare_scan plain_len single_quoted double_len unescaped bare_cell cell_scan cell_len found_at
indicator_without_a_name = refl

-- ---- limits

-- a key twice
repeated_key : has_repeat (with_pair (with_pair (mapping 1) 1 (codes "a") (text 1 (codes "1"))) 1 (codes "a") (text 1 (codes "2"))) ≡ true
repeated_key = refl

-- a key once in each of two mappings
same_key_deeper : has_repeat (with_pair (mapping 1) 1 (codes "a") (with_pair (mapping 1) 1 (codes "a") (text 1 (codes "2")))) ≡ false
same_key_deeper = refl

-- `a: &x [1, 1]` and `b: [*x, *x]`: aliases count in full
aliases_count : size (with_pair (with_pair (mapping 1) 1 (codes "a") (with_item (with_item (sequence 1) (text 1 (codes "1"))) (text 1 (codes "1")))) 2 (codes "b") (with_item (with_item (sequence 2) (with_item (with_item (sequence 1) (text 1 (codes "1"))) (text 1 (codes "1")))) (with_item (with_item (sequence 1) (text 1 (codes "1"))) (text 1 (codes "1"))))) ≡ 11
aliases_count = refl

-- and so do their levels
aliases_have_levels : levels (with_pair (with_pair (mapping 1) 1 (codes "a") (with_item (with_item (sequence 1) (text 1 (codes "1"))) (text 1 (codes "1")))) 2 (codes "b") (with_item (with_item (sequence 2) (with_item (with_item (sequence 1) (text 1 (codes "1"))) (text 1 (codes "1")))) (with_item (with_item (sequence 1) (text 1 (codes "1"))) (text 1 (codes "1"))))) ≡ 3
aliases_have_levels = refl

-- an alias that is not known
unknown_alias : has_unknown (with_item (sequence 1) (unknown 1)) ≡ true
unknown_alias = refl
