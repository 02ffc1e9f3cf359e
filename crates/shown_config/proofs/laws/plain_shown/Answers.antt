use Rattle.shown_config.proofs.reading.ReadBack.{reads_back}
use Rattle.shown_config.proofs.laws.plain_shown.Goals as goal

pub returns : goal.returns
returns c = reads_back
