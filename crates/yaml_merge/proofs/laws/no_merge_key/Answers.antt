use Rattle.yaml_merge.proofs.MergeLaws.{merged_has_no_merge_key}
use Rattle.yaml_merge.proofs.laws.no_merge_key.Goals as goal

pub returns : goal.returns
returns c = merged_has_no_merge_key
