use Rattle.std.proofs.Common.{sym}
use Rattle.shd_config.specs.Values.{text_at}
use Rattle.shd_config.proofs.StepLaws.{null_passes, read_passes}
use Rattle.shd_config.proofs.optional.check_scalar.Goals as goal

pub returns-then-is_null : goal.returns-then-is_null
returns-then-is_null c = null_passes c.args.pair.now (text_at c.args.pair.now) (sym c.if-is_null.ensures)

pub returns : goal.returns
returns c = read_passes c.args.pair.now (text_at c.args.pair.now) _ (sym c.if-is_null.ensures) c.in_ok-read_text.ensures
