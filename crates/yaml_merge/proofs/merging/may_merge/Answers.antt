use Rattle.std.proofs.Common.{◌∙◌}
use Rattle.yaml_tree.specs.Trees.{nodes_of}
use Rattle.yaml_merge.proofs.HeldLaws.{found}
use Rattle.yaml_merge.proofs.merging.may_merge.Goals as goal

pub returns-in-Some : goal.returns-in-Some
returns-in-Some c = λ most said h. c.may_merge_value.ensures ∙ (found most (nodes_of c.args.tree.now) c.args.number _ said c.in-Some.ensures h).1

pub returns-in-None : goal.returns-in-None
returns-in-None c = λ most said h. absurd (found most (nodes_of c.args.tree.now) c.args.number _ said c.in-None.ensures h)
