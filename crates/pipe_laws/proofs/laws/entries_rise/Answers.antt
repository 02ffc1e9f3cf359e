use Rattle.pipe_laws.proofs.Watching as watching
use Rattle.pipe_laws.proofs.laws.entries_rise.Goals as goal

pub returns : goal.returns
returns c = watching.entries_rise
