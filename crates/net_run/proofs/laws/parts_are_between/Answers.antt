use Rattle.net_run.proofs.PartLemmas.{between_puts}
use Rattle.net_run.proofs.laws.parts_are_between.Goals as goal

pub returns : goal.returns
returns c = between_puts
