-- Small texts that have no tree, each with the line and the kind of its fault.
use Rattle.std.proofs.Common.{ℕ, List, codes}
use Rattle.std.specs.declared.alloc.Global.{Global}
use Rattle.yaml_tokens.specs.Lines.{lines_of, split_lines}
use Rattle.yaml_tokens.specs.Scalars.{plain_len, single_quoted, double_len, unescaped, bare_scan, scan_of, scalar_at}
use Rattle.yaml_tokens.specs.Pieces.{cell_len, bare_cell, cell_scan, found_at}
use Rattle.yaml_tree.specs.inside.Outline.{fault_from}
use Rattle.yaml_tokens.specs.Tokens.{tokens_from, line_tokens, place_after, node_tokens}
use Rattle.yaml_tree.specs.inside.Builder.{begun, cell_closed, cell_alias, cell_key, cell_node, cell_opened, closed, ended, flushed, headed, judged, next_row, put_known, put_node, read_line, read_lines, closed_deeper_on, take_token, take_tokens, take_piece, take_pieces, valued, with_bar, with_alias, with_form, with_line, with_name, with_node, with_scalar}
use Rattle.yaml_tree.specs.Tree.{IsFirstRefused}
use Rattle.yaml_tree.specs.declared.fault.FaultKind.{FaultKind}
use Rattle.yaml_tree.specs.declared.fault.FaultKind.TheVariants.{Syntax, Unsupported, Duplicate, Alias}
use Rattle.yaml_tree.proofs.ReadingLaws.{read_means}

-- the first line that is refused, and why; the proof reads the text, which takes an allocator
abbrev IsRefusedAt : List ℕ → ℕ → FaultKind → Type 0
IsRefusedAt bytes line kind = Global → IsFirstRefused (lines_of bytes) line kind

-- ---- blocks and scalars

-- a second row left of the first
row_between_two : IsRefusedAt (codes "a:\n  b: 1\n c: 2") 3 Syntax
unfolding split_lines tokens_from line_tokens place_after node_tokens scalar_at scan_of bare_scan plain_len single_quoted double_len unescaped bare_cell cell_scan cell_len found_at fault_from begun cell_closed cell_alias cell_key cell_node cell_opened closed ended flushed headed judged next_row put_known put_node read_line read_lines closed_deeper_on take_token take_tokens take_piece take_pieces valued with_bar with_alias with_form with_line with_name with_node with_scalar
row_between_two = read_means (lines_of (codes "a:\n  b: 1\n c: 2"))

-- a sequence behind a key
dash_behind_a_key : IsRefusedAt (codes "a: - b") 1 Syntax
unfolding split_lines tokens_from line_tokens place_after node_tokens scalar_at scan_of bare_scan plain_len single_quoted double_len unescaped bare_cell cell_scan cell_len found_at fault_from begun cell_closed cell_alias cell_key cell_node cell_opened closed ended flushed headed judged next_row put_known put_node read_line read_lines closed_deeper_on take_token take_tokens take_piece take_pieces valued with_bar with_alias with_form with_line with_name with_node with_scalar
dash_behind_a_key = read_means (lines_of (codes "a: - b"))

-- an indicator beyond the profile where a value may begin
indicator_of_a_value : IsRefusedAt (codes "a: !x") 1 Unsupported
unfolding split_lines tokens_from line_tokens place_after node_tokens scalar_at scan_of bare_scan plain_len single_quoted double_len unescaped bare_cell cell_scan cell_len found_at fault_from begun cell_closed cell_alias cell_key cell_node cell_opened closed ended flushed headed judged next_row put_known put_node read_line read_lines closed_deeper_on take_token take_tokens take_piece take_pieces valued with_bar with_alias with_form with_line with_name with_node with_scalar
indicator_of_a_value = read_means (lines_of (codes "a: !x"))

-- and where none may
indicator_behind_a_value : IsRefusedAt (codes "a: 1\n  !x") 2 Syntax
unfolding split_lines tokens_from line_tokens place_after node_tokens scalar_at scan_of bare_scan plain_len single_quoted double_len unescaped bare_cell cell_scan cell_len found_at fault_from begun cell_closed cell_alias cell_key cell_node cell_opened closed ended flushed headed judged next_row put_known put_node read_line read_lines closed_deeper_on take_token take_tokens take_piece take_pieces valued with_bar with_alias with_form with_line with_name with_node with_scalar
indicator_behind_a_value = read_means (lines_of (codes "a: 1\n  !x"))

-- ---- literal blocks

-- a digit behind the bar
digit_behind_a_bar : IsRefusedAt (codes "a: |2") 1 Unsupported
unfolding split_lines tokens_from line_tokens place_after node_tokens scalar_at scan_of bare_scan plain_len single_quoted double_len unescaped bare_cell cell_scan cell_len found_at fault_from begun cell_closed cell_alias cell_key cell_node cell_opened closed ended flushed headed judged next_row put_known put_node read_line read_lines closed_deeper_on take_token take_tokens take_piece take_pieces valued with_bar with_alias with_form with_line with_name with_node with_scalar
digit_behind_a_bar = read_means (lines_of (codes "a: |2"))

-- anything else there
text_behind_a_bar : IsRefusedAt (codes "a: |- b") 1 Syntax
unfolding split_lines tokens_from line_tokens place_after node_tokens scalar_at scan_of bare_scan plain_len single_quoted double_len unescaped bare_cell cell_scan cell_len found_at fault_from begun cell_closed cell_alias cell_key cell_node cell_opened closed ended flushed headed judged next_row put_known put_node read_line read_lines closed_deeper_on take_token take_tokens take_piece take_pieces valued with_bar with_alias with_form with_line with_name with_node with_scalar
text_behind_a_bar = read_means (lines_of (codes "a: |- b"))

-- a line that is left of the block and no deeper than its key
line_left_of_a_block : IsRefusedAt (codes "- |\n  b\n c") 3 Syntax
unfolding split_lines tokens_from line_tokens place_after node_tokens scalar_at scan_of bare_scan plain_len single_quoted double_len unescaped bare_cell cell_scan cell_len found_at fault_from begun cell_closed cell_alias cell_key cell_node cell_opened closed ended flushed headed judged next_row put_known put_node read_line read_lines closed_deeper_on take_token take_tokens take_piece take_pieces valued with_bar with_alias with_form with_line with_name with_node with_scalar
line_left_of_a_block = read_means (lines_of (codes "- |\n  b\n c"))

-- the block's lines stand deeper than its key
not_deeper_than_its_key : IsRefusedAt (codes "a: |\nb") 2 Syntax
unfolding split_lines tokens_from line_tokens place_after node_tokens scalar_at scan_of bare_scan plain_len single_quoted double_len unescaped bare_cell cell_scan cell_len found_at fault_from begun cell_closed cell_alias cell_key cell_node cell_opened closed ended flushed headed judged next_row put_known put_node read_line read_lines closed_deeper_on take_token take_tokens take_piece take_pieces valued with_bar with_alias with_form with_line with_name with_node with_scalar
not_deeper_than_its_key = read_means (lines_of (codes "a: |\nb"))

-- a marker in a block at the root
marker_in_a_block : IsRefusedAt (codes "|\n---") 2 Unsupported
unfolding split_lines tokens_from line_tokens place_after node_tokens scalar_at scan_of bare_scan plain_len single_quoted double_len unescaped bare_cell cell_scan cell_len found_at fault_from begun cell_closed cell_alias cell_key cell_node cell_opened closed ended flushed headed judged next_row put_known put_node read_line read_lines closed_deeper_on take_token take_tokens take_piece take_pieces valued with_bar with_alias with_form with_line with_name with_node with_scalar
marker_in_a_block = read_means (lines_of (codes "|\n---"))

-- and the other marker
end_marker_in_a_block : IsRefusedAt (codes "|\na\n...") 3 Unsupported
unfolding split_lines tokens_from line_tokens place_after node_tokens scalar_at scan_of bare_scan plain_len single_quoted double_len unescaped bare_cell cell_scan cell_len found_at fault_from begun cell_closed cell_alias cell_key cell_node cell_opened closed ended flushed headed judged next_row put_known put_node read_line read_lines closed_deeper_on take_token take_tokens take_piece take_pieces valued with_bar with_alias with_form with_line with_name with_node with_scalar
end_marker_in_a_block = read_means (lines_of (codes "|\na\n..."))

-- a marker before text, of which the first is a scalar
marker_before_text : IsRefusedAt (codes "--- x\n--- y") 2 Unsupported
unfolding split_lines tokens_from line_tokens place_after node_tokens scalar_at scan_of bare_scan plain_len single_quoted double_len unescaped bare_cell cell_scan cell_len found_at fault_from begun cell_closed cell_alias cell_key cell_node cell_opened closed ended flushed headed judged next_row put_known put_node read_line read_lines closed_deeper_on take_token take_tokens take_piece take_pieces valued with_bar with_alias with_form with_line with_name with_node with_scalar
marker_before_text = read_means (lines_of (codes "--- x\n--- y"))

-- ---- flow forms

-- the line's end inside a bracket
bracket_that_stays_open : IsRefusedAt (codes "a: [b, #c") 1 Unsupported
unfolding split_lines tokens_from line_tokens place_after node_tokens scalar_at scan_of bare_scan plain_len single_quoted double_len unescaped bare_cell cell_scan cell_len found_at fault_from begun cell_closed cell_alias cell_key cell_node cell_opened closed ended flushed headed judged next_row put_known put_node read_line read_lines closed_deeper_on take_token take_tokens take_piece take_pieces valued with_bar with_alias with_form with_line with_name with_node with_scalar
bracket_that_stays_open = read_means (lines_of (codes "a: [b, #c"))

-- a bracket that another one closes
other_bracket : IsRefusedAt (codes "[a}") 1 Syntax
unfolding split_lines tokens_from line_tokens place_after node_tokens scalar_at scan_of bare_scan plain_len single_quoted double_len unescaped bare_cell cell_scan cell_len found_at fault_from begun cell_closed cell_alias cell_key cell_node cell_opened closed ended flushed headed judged next_row put_known put_node read_line read_lines closed_deeper_on take_token take_tokens take_piece take_pieces valued with_bar with_alias with_form with_line with_name with_node with_scalar
other_bracket = read_means (lines_of (codes "[a}"))

-- a comma where an item is wanted
two_commas : IsRefusedAt (codes "[a,, b]") 1 Syntax
unfolding split_lines tokens_from line_tokens place_after node_tokens scalar_at scan_of bare_scan plain_len single_quoted double_len unescaped bare_cell cell_scan cell_len found_at fault_from begun cell_closed cell_alias cell_key cell_node cell_opened closed ended flushed headed judged next_row put_known put_node read_line read_lines closed_deeper_on take_token take_tokens take_piece take_pieces valued with_bar with_alias with_form with_line with_name with_node with_scalar
two_commas = read_means (lines_of (codes "[a,, b]"))

-- a comma before the first item
comma_first : IsRefusedAt (codes "[, a]") 1 Syntax
unfolding split_lines tokens_from line_tokens place_after node_tokens scalar_at scan_of bare_scan plain_len single_quoted double_len unescaped bare_cell cell_scan cell_len found_at fault_from begun cell_closed cell_alias cell_key cell_node cell_opened closed ended flushed headed judged next_row put_known put_node read_line read_lines closed_deeper_on take_token take_tokens take_piece take_pieces valued with_bar with_alias with_form with_line with_name with_node with_scalar
comma_first = read_means (lines_of (codes "[, a]"))

-- a colon needs its space
colon_without_a_space : IsRefusedAt (codes "{\"a\":1}") 1 Syntax
unfolding split_lines tokens_from line_tokens place_after node_tokens scalar_at scan_of bare_scan plain_len single_quoted double_len unescaped bare_cell cell_scan cell_len found_at fault_from begun cell_closed cell_alias cell_key cell_node cell_opened closed ended flushed headed judged next_row put_known put_node read_line read_lines closed_deeper_on take_token take_tokens take_piece take_pieces valued with_bar with_alias with_form with_line with_name with_node with_scalar
colon_without_a_space = read_means (lines_of (codes "{\"a\":1}"))

-- a key of a form needs its value
key_without_a_value : IsRefusedAt (codes "{a: }") 1 Syntax
unfolding split_lines tokens_from line_tokens place_after node_tokens scalar_at scan_of bare_scan plain_len single_quoted double_len unescaped bare_cell cell_scan cell_len found_at fault_from begun cell_closed cell_alias cell_key cell_node cell_opened closed ended flushed headed judged next_row put_known put_node read_line read_lines closed_deeper_on take_token take_tokens take_piece take_pieces valued with_bar with_alias with_form with_line with_name with_node with_scalar
key_without_a_value = read_means (lines_of (codes "{a: }"))

-- an item needs its key
item_between_curly_brackets : IsRefusedAt (codes "{a, b: c}") 1 Syntax
unfolding split_lines tokens_from line_tokens place_after node_tokens scalar_at scan_of bare_scan plain_len single_quoted double_len unescaped bare_cell cell_scan cell_len found_at fault_from begun cell_closed cell_alias cell_key cell_node cell_opened closed ended flushed headed judged next_row put_known put_node read_line read_lines closed_deeper_on take_token take_tokens take_piece take_pieces valued with_bar with_alias with_form with_line with_name with_node with_scalar
item_between_curly_brackets = read_means (lines_of (codes "{a, b: c}"))

-- a key between square brackets
pair_between_square_brackets : IsRefusedAt (codes "[a: b]") 1 Syntax
unfolding split_lines tokens_from line_tokens place_after node_tokens scalar_at scan_of bare_scan plain_len single_quoted double_len unescaped bare_cell cell_scan cell_len found_at fault_from begun cell_closed cell_alias cell_key cell_node cell_opened closed ended flushed headed judged next_row put_known put_node read_line read_lines closed_deeper_on take_token take_tokens take_piece take_pieces valued with_bar with_alias with_form with_line with_name with_node with_scalar
pair_between_square_brackets = read_means (lines_of (codes "[a: b]"))

-- an indicator beyond the profile where an item may begin
indicator_in_a_form : IsRefusedAt (codes "[!a]") 1 Unsupported
unfolding split_lines tokens_from line_tokens place_after node_tokens scalar_at scan_of bare_scan plain_len single_quoted double_len unescaped bare_cell cell_scan cell_len found_at fault_from begun cell_closed cell_alias cell_key cell_node cell_opened closed ended flushed headed judged next_row put_known put_node read_line read_lines closed_deeper_on take_token take_tokens take_piece take_pieces valued with_bar with_alias with_form with_line with_name with_node with_scalar
indicator_in_a_form = read_means (lines_of (codes "[!a]"))

-- and where none may
indicator_behind_an_item : IsRefusedAt (codes "[a, \"b\" !c]") 1 Syntax
unfolding split_lines tokens_from line_tokens place_after node_tokens scalar_at scan_of bare_scan plain_len single_quoted double_len unescaped bare_cell cell_scan cell_len found_at fault_from begun cell_closed cell_alias cell_key cell_node cell_opened closed ended flushed headed judged next_row put_known put_node read_line read_lines closed_deeper_on take_token take_tokens take_piece take_pieces valued with_bar with_alias with_form with_line with_name with_node with_scalar
indicator_behind_an_item = read_means (lines_of (codes "[a, \"b\" !c]"))

-- a quote that isn't closed on its line
open_quote_in_a_form : IsRefusedAt (codes "[a, 'b]") 1 Unsupported
unfolding split_lines tokens_from line_tokens place_after node_tokens scalar_at scan_of bare_scan plain_len single_quoted double_len unescaped bare_cell cell_scan cell_len found_at fault_from begun cell_closed cell_alias cell_key cell_node cell_opened closed ended flushed headed judged next_row put_known put_node read_line read_lines closed_deeper_on take_token take_tokens take_piece take_pieces valued with_bar with_alias with_form with_line with_name with_node with_scalar
open_quote_in_a_form = read_means (lines_of (codes "[a, 'b]"))

-- a form is no key
form_as_a_key : IsRefusedAt (codes "[a]: b") 1 Syntax
unfolding split_lines tokens_from line_tokens place_after node_tokens scalar_at scan_of bare_scan plain_len single_quoted double_len unescaped bare_cell cell_scan cell_len found_at fault_from begun cell_closed cell_alias cell_key cell_node cell_opened closed ended flushed headed judged next_row put_known put_node read_line read_lines closed_deeper_on take_token take_tokens take_piece take_pieces valued with_bar with_alias with_form with_line with_name with_node with_scalar
form_as_a_key = read_means (lines_of (codes "[a]: b"))

-- a bracket behind a value, closed on its line
form_behind_a_scalar : IsRefusedAt (codes "\"a\" [b]") 1 Syntax
unfolding split_lines tokens_from line_tokens place_after node_tokens scalar_at scan_of bare_scan plain_len single_quoted double_len unescaped bare_cell cell_scan cell_len found_at fault_from begun cell_closed cell_alias cell_key cell_node cell_opened closed ended flushed headed judged next_row put_known put_node read_line read_lines closed_deeper_on take_token take_tokens take_piece take_pieces valued with_bar with_alias with_form with_line with_name with_node with_scalar
form_behind_a_scalar = read_means (lines_of (codes "\"a\" [b]"))

-- and not closed on its line
open_bracket_behind_a_scalar : IsRefusedAt (codes "\"a\" [b") 1 Unsupported
unfolding split_lines tokens_from line_tokens place_after node_tokens scalar_at scan_of bare_scan plain_len single_quoted double_len unescaped bare_cell cell_scan cell_len found_at fault_from begun cell_closed cell_alias cell_key cell_node cell_opened closed ended flushed headed judged next_row put_known put_node read_line read_lines closed_deeper_on take_token take_tokens take_piece take_pieces valued with_bar with_alias with_form with_line with_name with_node with_scalar
open_bracket_behind_a_scalar = read_means (lines_of (codes "\"a\" [b"))

-- a bracket on the next line, closed there
closed_bracket_behind_a_value : IsRefusedAt (codes "a: 1\n [b]") 2 Syntax
unfolding split_lines tokens_from line_tokens place_after node_tokens scalar_at scan_of bare_scan plain_len single_quoted double_len unescaped bare_cell cell_scan cell_len found_at fault_from begun cell_closed cell_alias cell_key cell_node cell_opened closed ended flushed headed judged next_row put_known put_node read_line read_lines closed_deeper_on take_token take_tokens take_piece take_pieces valued with_bar with_alias with_form with_line with_name with_node with_scalar
closed_bracket_behind_a_value = read_means (lines_of (codes "a: 1\n [b]"))

-- and not closed there
open_bracket_behind_a_value : IsRefusedAt (codes "a: 1\n [b") 2 Unsupported
unfolding split_lines tokens_from line_tokens place_after node_tokens scalar_at scan_of bare_scan plain_len single_quoted double_len unescaped bare_cell cell_scan cell_len found_at fault_from begun cell_closed cell_alias cell_key cell_node cell_opened closed ended flushed headed judged next_row put_known put_node read_line read_lines closed_deeper_on take_token take_tokens take_piece take_pieces valued with_bar with_alias with_form with_line with_name with_node with_scalar
open_bracket_behind_a_value = read_means (lines_of (codes "a: 1\n [b"))

-- ---- anchors and aliases

-- one name a value
two_names : IsRefusedAt (codes "a: &x &y 1") 1 Syntax
unfolding split_lines tokens_from line_tokens place_after node_tokens scalar_at scan_of bare_scan plain_len single_quoted double_len unescaped bare_cell cell_scan cell_len found_at fault_from begun cell_closed cell_alias cell_key cell_node cell_opened closed ended flushed headed judged next_row put_known put_node read_line read_lines closed_deeper_on take_token take_tokens take_piece take_pieces valued with_bar with_alias with_form with_line with_name with_node with_scalar
two_names = read_means (lines_of (codes "a: &x &y 1"))

-- an alias has no name
name_of_a_alias : IsRefusedAt (codes "a: &x *y") 1 Syntax
unfolding split_lines tokens_from line_tokens place_after node_tokens scalar_at scan_of bare_scan plain_len single_quoted double_len unescaped bare_cell cell_scan cell_len found_at fault_from begun cell_closed cell_alias cell_key cell_node cell_opened closed ended flushed headed judged next_row put_known put_node read_line read_lines closed_deeper_on take_token take_tokens take_piece take_pieces valued with_bar with_alias with_form with_line with_name with_node with_scalar
name_of_a_alias = read_means (lines_of (codes "a: &x *y"))

-- nor one on the line before
name_above_a_alias : IsRefusedAt (codes "a: &x\n  *y") 2 Syntax
unfolding split_lines tokens_from line_tokens place_after node_tokens scalar_at scan_of bare_scan plain_len single_quoted double_len unescaped bare_cell cell_scan cell_len found_at fault_from begun cell_closed cell_alias cell_key cell_node cell_opened closed ended flushed headed judged next_row put_known put_node read_line read_lines closed_deeper_on take_token take_tokens take_piece take_pieces valued with_bar with_alias with_form with_line with_name with_node with_scalar
name_above_a_alias = read_means (lines_of (codes "a: &x\n  *y"))

-- a sequence behind a name
dash_behind_a_name : IsRefusedAt (codes "&x - b") 1 Syntax
unfolding split_lines tokens_from line_tokens place_after node_tokens scalar_at scan_of bare_scan plain_len single_quoted double_len unescaped bare_cell cell_scan cell_len found_at fault_from begun cell_closed cell_alias cell_key cell_node cell_opened closed ended flushed headed judged next_row put_known put_node read_line read_lines closed_deeper_on take_token take_tokens take_piece take_pieces valued with_bar with_alias with_form with_line with_name with_node with_scalar
dash_behind_a_name = read_means (lines_of (codes "&x - b"))

-- an alias is a whole value
text_behind_a_alias : IsRefusedAt (codes "a: *x y") 1 Syntax
unfolding split_lines tokens_from line_tokens place_after node_tokens scalar_at scan_of bare_scan plain_len single_quoted double_len unescaped bare_cell cell_scan cell_len found_at fault_from begun cell_closed cell_alias cell_key cell_node cell_opened closed ended flushed headed judged next_row put_known put_node read_line read_lines closed_deeper_on take_token take_tokens take_piece take_pieces valued with_bar with_alias with_form with_line with_name with_node with_scalar
text_behind_a_alias = read_means (lines_of (codes "a: *x y"))

-- another byte behind a name
byte_behind_a_name : IsRefusedAt (codes "a: &x# 1") 1 Syntax
unfolding split_lines tokens_from line_tokens place_after node_tokens scalar_at scan_of bare_scan plain_len single_quoted double_len unescaped bare_cell cell_scan cell_len found_at fault_from begun cell_closed cell_alias cell_key cell_node cell_opened closed ended flushed headed judged next_row put_known put_node read_line read_lines closed_deeper_on take_token take_tokens take_piece take_pieces valued with_bar with_alias with_form with_line with_name with_node with_scalar
byte_behind_a_name = read_means (lines_of (codes "a: &x# 1"))

-- no name
indicator_without_a_name : IsRefusedAt (codes "- * x") 1 Syntax
unfolding split_lines tokens_from line_tokens place_after node_tokens scalar_at scan_of bare_scan plain_len single_quoted double_len unescaped bare_cell cell_scan cell_len found_at fault_from begun cell_closed cell_alias cell_key cell_node cell_opened closed ended flushed headed judged next_row put_known put_node read_line read_lines closed_deeper_on take_token take_tokens take_piece take_pieces valued with_bar with_alias with_form with_line with_name with_node with_scalar
indicator_without_a_name = read_means (lines_of (codes "- * x"))

-- two names in a form
two_names_in_a_form : IsRefusedAt (codes "[&x &y 1]") 1 Syntax
unfolding split_lines tokens_from line_tokens place_after node_tokens scalar_at scan_of bare_scan plain_len single_quoted double_len unescaped bare_cell cell_scan cell_len found_at fault_from begun cell_closed cell_alias cell_key cell_node cell_opened closed ended flushed headed judged next_row put_known put_node read_line read_lines closed_deeper_on take_token take_tokens take_piece take_pieces valued with_bar with_alias with_form with_line with_name with_node with_scalar
two_names_in_a_form = read_means (lines_of (codes "[&x &y 1]"))

-- an alias of an unknown node
unknown_alias : IsRefusedAt (codes "- 1\n- *x") 2 Alias
unfolding split_lines tokens_from line_tokens place_after node_tokens scalar_at scan_of bare_scan plain_len single_quoted double_len unescaped bare_cell cell_scan cell_len found_at fault_from begun cell_closed cell_alias cell_key cell_node cell_opened closed ended flushed headed judged next_row put_known put_node read_line read_lines closed_deeper_on take_token take_tokens take_piece take_pieces valued with_bar with_alias with_form with_line with_name with_node with_scalar
unknown_alias = read_means (lines_of (codes "- 1\n- *x"))

-- of a node that isn't complete yet
alias_inside_its_node : IsRefusedAt (codes "a: &x\n  b: *x") 2 Alias
unfolding split_lines tokens_from line_tokens place_after node_tokens scalar_at scan_of bare_scan plain_len single_quoted double_len unescaped bare_cell cell_scan cell_len found_at fault_from begun cell_closed cell_alias cell_key cell_node cell_opened closed ended flushed headed judged next_row put_known put_node read_line read_lines closed_deeper_on take_token take_tokens take_piece take_pieces valued with_bar with_alias with_form with_line with_name with_node with_scalar
alias_inside_its_node = read_means (lines_of (codes "a: &x\n  b: *x"))

-- ---- keys

-- a key twice
repeated_key : IsRefusedAt (codes "a: 1\n'a': 2") 2 Duplicate
unfolding split_lines tokens_from line_tokens place_after node_tokens scalar_at scan_of bare_scan plain_len single_quoted double_len unescaped bare_cell cell_scan cell_len found_at fault_from begun cell_closed cell_alias cell_key cell_node cell_opened closed ended flushed headed judged next_row put_known put_node read_line read_lines closed_deeper_on take_token take_tokens take_piece take_pieces valued with_bar with_alias with_form with_line with_name with_node with_scalar
repeated_key = read_means (lines_of (codes "a: 1\n'a': 2"))

-- in a form too
repeated_key_in_a_form : IsRefusedAt (codes "- {a: 1, a: 2}") 1 Duplicate
unfolding split_lines tokens_from line_tokens place_after node_tokens scalar_at scan_of bare_scan plain_len single_quoted double_len unescaped bare_cell cell_scan cell_len found_at fault_from begun cell_closed cell_alias cell_key cell_node cell_opened closed ended flushed headed judged next_row put_known put_node read_line read_lines closed_deeper_on take_token take_tokens take_piece take_pieces valued with_bar with_alias with_form with_line with_name with_node with_scalar
repeated_key_in_a_form = read_means (lines_of (codes "- {a: 1, a: 2}"))

-- it comes before an unknown alias
repeated_key_and_unknown_alias : IsRefusedAt (codes "- {a: *x, a: 2}") 1 Duplicate
unfolding split_lines tokens_from line_tokens place_after node_tokens scalar_at scan_of bare_scan plain_len single_quoted double_len unescaped bare_cell cell_scan cell_len found_at fault_from begun cell_closed cell_alias cell_key cell_node cell_opened closed ended flushed headed judged next_row put_known put_node read_line read_lines closed_deeper_on take_token take_tokens take_piece take_pieces valued with_bar with_alias with_form with_line with_name with_node with_scalar
repeated_key_and_unknown_alias = read_means (lines_of (codes "- {a: *x, a: 2}"))

-- a fault of syntax comes first
repeated_key_and_syntax : IsRefusedAt (codes "- {a: 1, a: 2} b") 1 Syntax
unfolding split_lines tokens_from line_tokens place_after node_tokens scalar_at scan_of bare_scan plain_len single_quoted double_len unescaped bare_cell cell_scan cell_len found_at fault_from begun cell_closed cell_alias cell_key cell_node cell_opened closed ended flushed headed judged next_row put_known put_node read_line read_lines closed_deeper_on take_token take_tokens take_piece take_pieces valued with_bar with_alias with_form with_line with_name with_node with_scalar
repeated_key_and_syntax = read_means (lines_of (codes "- {a: 1, a: 2} b"))

-- ---- keys without their colon

-- a key whose colon doesn't come before the line's end
key_before_the_lines_end : IsRefusedAt (codes "{a") 1 Unsupported
unfolding split_lines tokens_from line_tokens place_after node_tokens scalar_at scan_of bare_scan plain_len single_quoted double_len unescaped bare_cell cell_scan cell_len found_at fault_from begun cell_closed cell_alias cell_key cell_node cell_opened closed ended flushed headed judged next_row put_known put_node read_line read_lines closed_deeper_on take_token take_tokens take_piece take_pieces valued with_bar with_alias with_form with_line with_name with_node with_scalar
key_before_the_lines_end = read_means (lines_of (codes "{a"))

-- or before a quote that isn't closed
key_before_an_open_quote : IsRefusedAt (codes "{'' '") 1 Unsupported
unfolding split_lines tokens_from line_tokens place_after node_tokens scalar_at scan_of bare_scan plain_len single_quoted double_len unescaped bare_cell cell_scan cell_len found_at fault_from begun cell_closed cell_alias cell_key cell_node cell_opened closed ended flushed headed judged next_row put_known put_node read_line read_lines closed_deeper_on take_token take_tokens take_piece take_pieces valued with_bar with_alias with_form with_line with_name with_node with_scalar
key_before_an_open_quote = read_means (lines_of (codes "{'' '"))

-- the same in a block mapping
row_before_an_open_quote : IsRefusedAt (codes "a: 1\n'' '") 2 Unsupported
unfolding split_lines tokens_from line_tokens place_after node_tokens scalar_at scan_of bare_scan plain_len single_quoted double_len unescaped bare_cell cell_scan cell_len found_at fault_from begun cell_closed cell_alias cell_key cell_node cell_opened closed ended flushed headed judged next_row put_known put_node read_line read_lines closed_deeper_on take_token take_tokens take_piece take_pieces valued with_bar with_alias with_form with_line with_name with_node with_scalar
row_before_an_open_quote = read_means (lines_of (codes "a: 1\n'' '"))

-- also before a bracket
row_before_an_open_bracket : IsRefusedAt (codes "k: 1\n'b' [") 2 Unsupported
unfolding split_lines tokens_from line_tokens place_after node_tokens scalar_at scan_of bare_scan plain_len single_quoted double_len unescaped bare_cell cell_scan cell_len found_at fault_from begun cell_closed cell_alias cell_key cell_node cell_opened closed ended flushed headed judged next_row put_known put_node read_line read_lines closed_deeper_on take_token take_tokens take_piece take_pieces valued with_bar with_alias with_form with_line with_name with_node with_scalar
row_before_an_open_bracket = read_means (lines_of (codes "k: 1\n'b' ["))

-- which is a fault of syntax where it is closed
row_before_a_closed_bracket : IsRefusedAt (codes "k: 1\n'b' []") 2 Syntax
unfolding split_lines tokens_from line_tokens place_after node_tokens scalar_at scan_of bare_scan plain_len single_quoted double_len unescaped bare_cell cell_scan cell_len found_at fault_from begun cell_closed cell_alias cell_key cell_node cell_opened closed ended flushed headed judged next_row put_known put_node read_line read_lines closed_deeper_on take_token take_tokens take_piece take_pieces valued with_bar with_alias with_form with_line with_name with_node with_scalar
row_before_a_closed_bracket = read_means (lines_of (codes "k: 1\n'b' []"))

-- and so is the scalar where no key may stand
scalar_where_no_key_may_stand : IsRefusedAt (codes "k: 1\n 'b' [") 2 Syntax
unfolding split_lines tokens_from line_tokens place_after node_tokens scalar_at scan_of bare_scan plain_len single_quoted double_len unescaped bare_cell cell_scan cell_len found_at fault_from begun cell_closed cell_alias cell_key cell_node cell_opened closed ended flushed headed judged next_row put_known put_node read_line read_lines closed_deeper_on take_token take_tokens take_piece take_pieces valued with_bar with_alias with_form with_line with_name with_node with_scalar
scalar_where_no_key_may_stand = read_means (lines_of (codes "k: 1\n 'b' ["))
