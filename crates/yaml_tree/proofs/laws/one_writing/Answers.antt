use Rattle.yaml_tree.proofs.WrittenLaws.{same_written}
use Rattle.yaml_tree.proofs.FlowLaws.{flow_reader}
use Rattle.yaml_tree.proofs.laws.one_writing.Goals as goal

pub returns : goal.returns
returns c = same_written flow_reader
