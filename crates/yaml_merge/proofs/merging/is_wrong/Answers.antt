use Rattle.std.proofs.Common.{◌&&◌, not}
use Rattle.yaml_merge.proofs.merging.is_wrong.Goals as goal

pub returns-then-is_merge_key : goal.returns-then-is_merge_key
returns-then-is_merge_key c = λ most value h j. c.if-is_merge_key.ensures j && not (c.may_merge.ensures most value h j)
