use Rattle.std.proofs.Common.{◌≡◌, ◌==◌, false, take}
use Rattle.std.specs.List.{list_any}
use Rattle.std.specs.Cmp.Lexicographic.{pointwise}
use Rattle.yaml_tree.proofs.growing.is_among.Given as goal

-- no row so far has the key
abbrev pub invariant-loop-row : goal.invariant-loop-row
invariant-loop-row l = list_any (λ row. pointwise ◌==◌ l.key row.0) (take l.row-index l.rows) ≡ false
