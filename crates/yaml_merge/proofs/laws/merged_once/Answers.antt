use Rattle.yaml_merge.proofs.MergeLaws.{merged_merged}
use Rattle.yaml_merge.proofs.laws.merged_once.Goals as goal

pub returns : goal.returns
returns c = merged_merged
