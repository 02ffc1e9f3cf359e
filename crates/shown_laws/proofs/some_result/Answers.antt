use Rattle.shown_laws.proofs.Worlds.{some_result}
use Rattle.shown_laws.proofs.some_result.Goals as goal

pub returns : goal.returns
returns c = some_result
