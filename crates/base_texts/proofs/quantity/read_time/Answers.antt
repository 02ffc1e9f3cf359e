use Rattle.std.proofs.Common.{ap, ◌∙◌}
use Rattle.base_texts.specs.Quantity.{time_of_text}
use Rattle.base_texts.proofs.quantity.read_time.Goals as goal

pub returns : goal.returns
returns c = c.in_ok-nanos.ensures ∙ ap time_of_text c.as_bytes.ensures.value

pub returns-in_err-nanos : goal.returns-in_err-nanos
returns-in_err-nanos c = rw c.from_residual.ensures (c.in_err-nanos.ensures ∙ ap time_of_text c.as_bytes.ensures.value)
