use Rattle.std.proofs.Common.{arith}
use Rattle.self_load.proofs.ConfigBack.{text_back}
use Rattle.self_load.proofs.config_text.config_text.Goals as goal

pub returns : goal.returns
returns c = text_back c.args.hosts c.shown_text.result (let some = c.requires.some in omega (arith, some)) c.requires.few c.shown_text.ensures
