use Rattle.std.proofs.Common.{ap}
use Rattle.shd_config.specs.Config.{wrong_merge}
use Rattle.shd_config.proofs.reading.merged_tree.Goals as goal

pub returns-in-Ok : goal.returns-in-Ok
returns-in-Ok c = λ said holds plain shallow. ap wrong_merge (c.in-Ok.ensures said holds plain shallow)
