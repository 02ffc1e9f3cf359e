use Rattle.yaml_tree.proofs.RuleLaws.{no_fault}
use Rattle.yaml_tree.proofs.FlowLaws.{flow_reader}
use Rattle.yaml_tree.proofs.laws.no_fault.Goals as goal

pub returns : goal.returns
returns c = no_fault flow_reader
