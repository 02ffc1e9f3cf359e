use Rattle.std.proofs.Common.{◌≡◌, drop}
use Rattle.yaml_tokens.specs.Literals.{block_column}
use Rattle.yaml_tree.proofs.literal.TextLines.block_column.Given as goal

-- no line so far closes_deeper the column
abbrev pub invariant-loop-line : goal.invariant-loop-line
invariant-loop-line l = block_column (drop l.line-index l.self) ≡ block_column l.self
