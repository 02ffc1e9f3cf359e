use Rattle.std.proofs.Common.{◌≡◌, ◌++◌, drop}
use Rattle.yaml_tokens.specs.Tokens.{node_tokens}
use Rattle.yaml_tokens.proofs.values.LineReader.read_node.Given as goal

abbrev pub invariant-loop-column : goal.invariant-loop-column
invariant-loop-column l = l.tokens ++ node_tokens l.self.number l.column (drop l.column l.bytes) ≡ l.initial.tokens ++ node_tokens l.self.number 0 l.bytes
