use Rattle.capture_laws.proofs.Worlds.{in_range}
use Rattle.capture_laws.proofs.lines_are_in_range.Goals as goal

pub returns : goal.returns
returns c = in_range
