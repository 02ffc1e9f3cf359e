use Rattle.yaml_tree.proofs.RuleLaws.{first_lines}
use Rattle.yaml_tree.proofs.FlowLaws.{flow_reader}
use Rattle.yaml_tree.proofs.laws.first_lines.Goals as goal

pub returns : goal.returns
returns c = first_lines flow_reader
