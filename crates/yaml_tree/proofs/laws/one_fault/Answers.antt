use Rattle.yaml_tree.proofs.FaultLaws.{one_fault}
use Rattle.yaml_tree.proofs.FlowLaws.{flow_reader}
use Rattle.yaml_tree.proofs.laws.one_fault.Goals as goal

pub returns : goal.returns
returns c = one_fault flow_reader
