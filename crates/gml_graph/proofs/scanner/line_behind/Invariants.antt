use Rattle.std.proofs.Common.{◌≡◌, ◌+◌, ◌≤◌, take, fold}
use Rattle.gml_graph.specs.Tokens.{next_line}
use Rattle.gml_graph.proofs.scanner.line_behind.Given as goal

abbrev pub invariant-loop-byte : goal.invariant-loop-byte
invariant-loop-byte l = (l.now ≡ fold next_line l.line (take l.byte-index l.bytes)) × (l.now ≤ l.line + l.byte-index)
