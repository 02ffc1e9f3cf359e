use Rattle.std.proofs.Common.{ap}
use Rattle.run_plan.specs.Configured.{or_config_fault}
use Rattle.run_plan.proofs.configured.config_of_tree.Goals as goal

pub returns-in-Ok-clause-told : goal.returns-in-Ok-clause-told
returns-in-Ok-clause-told c = λ said holds plain shallow. ap (or_config_fault c.args.file.now) (c.in-Ok.ensures.told said holds plain shallow)
