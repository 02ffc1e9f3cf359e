-- The graph of a text, or its first fault: the whole text's UTF-8, then its syntax, then what its rows say.
use Rattle.std.specs.Prelude.{ℕ, if◌then◌else◌, List, take, fold, Result, Ok}
use Rattle.std.specs.Str.{is_utf8}
use Rattle.std.specs.Str.Lossy.{utf8_valid_len}
use Rattle.gml_graph.specs.declared.fault.GmlFault.{GmlFault}
use Rattle.gml_graph.specs.declared.fault.GmlKind.TheVariants.{NotUtf8}
use Rattle.gml_graph.specs.declared.graph.Graph.{Graph}
use Rattle.sim_base.specs.Refusals.{◌>>=◌}
use Rattle.gml_graph.specs.Steps.{refused}
use Rattle.gml_graph.specs.Tokens.{next_line}
use Rattle.gml_graph.specs.Outline.{outline}
use Rattle.gml_graph.specs.Graph.{graph_of}

-- the line of the first byte that breaks UTF-8
abbrev pub broken_line : List ℕ → ℕ
broken_line text = fold next_line 1 (take (utf8_valid_len text) text)

abbrev pub utf8_at : List ℕ → Result (Unit {0}) GmlFault
utf8_at text = if is_utf8 text then Ok tt else refused NotUtf8 (broken_line text)

unfoldable pub graph : List ℕ → Result Graph GmlFault
graph text = do
  _ ← utf8_at text
  rows ← outline text
  graph_of rows
