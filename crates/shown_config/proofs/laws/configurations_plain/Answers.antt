use Rattle.shown_config.proofs.plain.PlainHosts.{config_plain}
use Rattle.shown_config.proofs.laws.configurations_plain.Goals as goal

pub returns : goal.returns
returns c = config_plain
