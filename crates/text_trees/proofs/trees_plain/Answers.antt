use Rattle.text_trees.proofs.TextTrees.{text_plain}
use Rattle.text_trees.proofs.trees_plain.Goals as goal

pub returns : goal.returns
returns c = text_plain
