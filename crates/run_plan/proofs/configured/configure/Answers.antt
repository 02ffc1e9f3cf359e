use Rattle.text_trees.proofs.TextTrees.{text_plain}
use Rattle.run_plan.proofs.ConfiguredLemmas.{config_told}
use Rattle.run_plan.proofs.NameLemmas.{config_apart}
use Rattle.run_plan.proofs.configured.configure.Goals as goal

pub returns-clause-told : goal.returns-clause-told
returns-clause-told c =
    let s = c.in_ok-tree.ensures.tree in
    config_told c.args.file.now c.args.text.now c.args.overrides.now _ s.0 c.config_of_tree.result s.1 c.in_ok-tree.ensures.empty
    (c.config_of_tree.ensures.told s.0 s.2 (text_plain c.args.text.now s.0 s.1) s.1.1.shallow)

pub returns-clause-apart : goal.returns-clause-apart
returns-clause-apart c = config_apart c.args.file.now c.args.text.now c.args.overrides.now c.config_of_tree.result (returns-clause-told c)
