use Rattle.yaml_tree.proofs.RuleLaws.{one_tree}
use Rattle.yaml_tree.proofs.FlowLaws.{flow_reader}
use Rattle.yaml_tree.proofs.laws.one_tree.Goals as goal

pub returns : goal.returns
returns c = one_tree flow_reader
