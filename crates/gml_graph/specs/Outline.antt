-- The outline of a text: a row for each pair, with its depth.
use Rattle.std.specs.Prelude.{ℕ, ◌+◌, ◌-◌, ◌&&◌, if◌then◌else◌, ◌==◌, nat_le, List, [], ◌∷◌, ◌++◌, length, take, fold, Option, Some, None, Result, Ok}
use Rattle.std.specs.Option.{is_none}
use Rattle.gml_graph.specs.declared.fault.GmlFault.{GmlFault}
use Rattle.gml_graph.specs.declared.fault.GmlKind.TheVariants.{Syntax}
use Rattle.gml_graph.specs.declared.token.Token.{Token}
use Rattle.gml_graph.specs.declared.token.Token.TheVariants.{Name, Number, Text, Open, Close, Unclosed, Odd}
use Rattle.gml_graph.specs.declared.token.Lexeme.{Lexeme}
use Rattle.gml_graph.specs.declared.outline.Value.{Value}
use Rattle.gml_graph.specs.declared.outline.Value.TheVariants as values
use Rattle.gml_graph.specs.declared.outline.Waiting.{Waiting}
use Rattle.gml_graph.specs.declared.outline.OutlineRow.{OutlineRow}
use Rattle.sim_base.specs.Refusals.{◌>>=◌}
use Rattle.gml_graph.specs.Steps.{through, refused}
use Rattle.gml_graph.specs.Tokens.{next_line, tokens}
use Rattle.gml_graph.specs.Limits.{greatest_depth}

-- What was read of a text: the rows, how many lists are open, and the key that waits for its value. `last` is the text's
-- last line.
pub record Shape : Type 0 where
  pub last : ℕ
  pub depth : ℕ
  pub waiting : Option Waiting
  pub rows : List OutlineRow

-- no list lies deeper than the greatest depth
abbrev pub value_of : Shape → ℕ → Token → Result Value GmlFault
value_of s line (Number d) = Ok (values.Number d)
value_of s line (Text t) = Ok (values.Text t)
value_of s line Open = if nat_le greatest_depth s.depth then refused Syntax line else Ok values.List
value_of s line Unclosed = refused Syntax s.last
value_of s line (Name k) = refused Syntax line
value_of s line Close = refused Syntax line
value_of s line Odd = refused Syntax line

-- the pairs of a list lie one deeper
abbrev pub depth_behind : ℕ → Value → ℕ
depth_behind depth (values.Number d) = depth
depth_behind depth (values.Text t) = depth
depth_behind depth values.List = depth + 1

abbrev pub with_row : Shape → Waiting → Value → Shape
with_row s key value = record s {
  depth = depth_behind s.depth value;
  waiting = None;
  rows = s.rows ++ (record { depth = s.depth; line = key.line; key = key.key; value = value }) ∷ [];
}

-- where a key or the end of a list may stand
abbrev pub accept_key : Shape → ℕ → Token → Result Shape GmlFault
accept_key s line (Name k) = Ok (record s { waiting = Some (record { line = line; key = k }) })
accept_key s line Close = if s.depth == 0 then refused Syntax line else Ok (record s { depth = s.depth - 1 })
accept_key s line (Number d) = refused Syntax line
accept_key s line (Text t) = refused Syntax line
accept_key s line Open = refused Syntax line
accept_key s line Unclosed = refused Syntax line
accept_key s line Odd = refused Syntax line

-- behind a key
abbrev pub accept_value : Shape → Waiting → ℕ → Token → Result Shape GmlFault
accept_value s key line token = value_of s line token >>= λ value. Ok (with_row s key value)

abbrev pub accept_at : Option Waiting → Shape → ℕ → Token → Result Shape GmlFault
accept_at None s line token = accept_key s line token
accept_at (Some key) s line token = accept_value s key line token

unfoldable pub accept : Shape → Lexeme → Result Shape GmlFault
accept s x = accept_at s.waiting s x.line x.token

-- at the end no list is open and no key waits
abbrev pub finish : Shape → Result (List OutlineRow) GmlFault
finish s = if is_none s.waiting && s.depth == 0 then Ok s.rows else refused Syntax s.last

-- the line of the last byte
abbrev pub last_line : List ℕ → ℕ
last_line text = fold next_line 1 (take (length text - 1) text)

abbrev pub start : List ℕ → Shape
start text = record { last = last_line text; depth = 0; waiting = None; rows = [] }

-- the rows of a text, or its first token that can't stand where it stands
unfoldable pub outline : List ℕ → Result (List OutlineRow) GmlFault
outline text = through accept (start text) (tokens text) >>= finish
