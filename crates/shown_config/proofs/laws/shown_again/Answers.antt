use Rattle.text_trees.proofs.TextTrees.{text_plain}
use Rattle.shown_config.proofs.plain.PlainHosts.{config_plain}
use Rattle.shown_config.proofs.reading.ReadBack.{reads_back}
use Rattle.shown_config.proofs.laws.shown_again.Goals as goal

pub returns : goal.returns
returns c = λ text tree o empty configuration t may read. reads_back configuration (config_plain tree o empty configuration (text_plain text tree t) may read)
