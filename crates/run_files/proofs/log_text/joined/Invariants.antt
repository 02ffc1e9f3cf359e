use Rattle.std.proofs.Common.{ℕ, ◌++◌, List}
use Rattle.std.specs.Vec.Iter.{into_iter_items}
use Rattle.run_files.specs.inside.Shares.{AreJoined}
use Rattle.run_files.proofs.log_text.joined.Given as goal

-- what joins the texts that are left, behind those that are joined, joins all
abbrev pub invariant-loop-text : goal.invariant-loop-text
invariant-loop-text l = (left : List ℕ) → AreJoined (into_iter_items l.text-iterator) left → AreJoined l.fn.texts.items (l.all ++ left)
