use Rattle.call_laws.proofs.Telling.{waits_tell_is}
use Rattle.call_laws.proofs.waits_tell.Goals as goal

pub returns : goal.returns
returns c = waits_tell_is
