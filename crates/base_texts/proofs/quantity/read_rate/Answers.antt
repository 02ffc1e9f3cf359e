use Rattle.std.proofs.Common.{ap, ◌∙◌}
use Rattle.base_texts.specs.Quantity.{rate_of_text}
use Rattle.base_texts.proofs.quantity.read_rate.Goals as goal

pub returns : goal.returns
returns c = c.read_quantity.ensures ∙ ap rate_of_text c.as_bytes.ensures.value
