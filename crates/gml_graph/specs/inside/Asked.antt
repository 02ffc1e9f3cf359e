-- What is kept of an outline while a text is read: the pairs that are asked for, where the lists around them are too.
use Rattle.std.specs.Prelude.{ℕ, ◌+◌, min, Bool, true, false, ◌&&◌, ◌||◌, if◌then◌else◌, ◌==◌, nat_le, List, [], ◌∷◌, ◌++◌, Option, Some, None, Result, Ok}
use Rattle.gml_graph.specs.declared.fault.GmlFault.{GmlFault}
use Rattle.gml_graph.specs.declared.token.Token.{Token}
use Rattle.gml_graph.specs.declared.token.Lexeme.{Lexeme}
use Rattle.gml_graph.specs.declared.token.Key.{Key}
use Rattle.gml_graph.specs.declared.token.Key.TheVariants as keys
use Rattle.gml_graph.specs.declared.outline.Value.{Value}
use Rattle.gml_graph.specs.declared.outline.Waiting.{Waiting}
use Rattle.gml_graph.specs.declared.outline.OutlineRow.{OutlineRow}
use Rattle.gml_graph.specs.declared.block.Part.TheVariants as parts
use Rattle.sim_base.specs.Refusals.{◌>>=◌}
use Rattle.gml_graph.specs.Outline.{Shape, value_of, with_row, accept_key, outline}
use Rattle.gml_graph.specs.Graph.{names}

-- THE PAIRS THAT ARE ASKED FOR

-- the keys that a node or an edge may have
abbrev pub is_attribute : Key → Bool
is_attribute keys.Graph = false
is_attribute keys.Directed = false
is_attribute keys.Node = false
is_attribute keys.Edge = false
is_attribute keys.Other = false
is_attribute k = true

abbrev pub is_asked : ℕ → Key → Bool
is_asked depth key =
    if depth == 0 then names parts.Graph key
    else (if depth == 1 then names parts.Directed key || (names parts.Node key || names parts.Edge key)
    else (depth == 2 && is_attribute key))

-- The reach: how many of the open lists are asked for, from the outermost on. A pair that lies no deeper is kept where it is
-- asked for itself.
abbrev pub is_kept : ℕ → OutlineRow → Bool
is_kept reach r = nat_le r.depth reach && is_asked r.depth r.key

-- the reach behind a pair: into its list where it is kept, else no deeper than it lies
abbrev pub reach_behind : ℕ → OutlineRow → ℕ
reach_behind reach r = if is_kept reach r then r.depth + 1 else min reach r.depth

-- a pair where it is kept
abbrev pub asked_row : ℕ → OutlineRow → List OutlineRow
asked_row reach r = if is_kept reach r then r ∷ [] else []

-- the rows that are kept
abbrev pub asked : ℕ → List OutlineRow → List OutlineRow
asked reach [] = []
asked reach (r ∷ rest) = asked_row reach r ++ asked (reach_behind reach r) rest

-- the rows of a text that are kept, or the text's first fault
unfoldable pub asked_outline : List ℕ → Result (List OutlineRow) GmlFault
asked_outline text = outline text >>= λ rows. Ok (asked 0 rows)

-- READING THEM

-- what was read of a text, with the rows that are kept alone
pub record Kept : Type 0 where
  pub reach : ℕ
  pub shape : Shape

abbrev pub row_of : Shape → Waiting → Value → OutlineRow
row_of s key value = record { depth = s.depth; line = key.line; key = key.key; value = value }

abbrev pub keep_row : Kept → Waiting → Value → Kept
keep_row k key value = record {
  reach = reach_behind k.reach (row_of k.shape key value);
  shape = record (with_row k.shape key value) { rows = k.shape.rows ++ asked_row k.reach (row_of k.shape key value) };
}

abbrev pub keep_key : Kept → ℕ → Token → Result Kept GmlFault
keep_key k line token = accept_key k.shape line token >>= λ s. Ok (record k { shape = s })

abbrev pub keep_value : Kept → Waiting → ℕ → Token → Result Kept GmlFault
keep_value k key line token = value_of k.shape line token >>= λ value. Ok (keep_row k key value)

abbrev pub keep_at : Option Waiting → Kept → ℕ → Token → Result Kept GmlFault
keep_at None k line token = keep_key k line token
keep_at (Some key) k line token = keep_value k key line token

unfoldable pub keep : Kept → Lexeme → Result Kept GmlFault
keep k x = keep_at k.shape.waiting k x.line x.token
