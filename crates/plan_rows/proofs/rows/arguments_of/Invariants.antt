use Rattle.std.proofs.Common.{◌≡◌, ◌∷◌, take}
use Rattle.plan_rows.proofs.rows.arguments_of.Given as goal

abbrev pub invariant-loop-arg : goal.invariant-loop-arg
invariant-loop-arg l = l.arguments.items ≡ l.path ∷ take l.arg-index l.args
