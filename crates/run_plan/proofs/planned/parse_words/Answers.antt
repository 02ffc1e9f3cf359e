use Rattle.std.proofs.Common.{map}
use Rattle.std.specs.Prelude.{string_bytes}
use Rattle.run_plan.proofs.InRangeLemmas.{asked_in_range}
use Rattle.run_plan.proofs.planned.parse_words.Goals as goal

pub returns-in-Ok-clause-range : goal.returns-in-Ok-clause-range
returns-in-Ok-clause-range c = (asked_in_range (map string_bytes c.args.words.now) c.in-Ok.asked c.in-Ok.ensures).subject

pub returns-in-Ok-clause-overrides : goal.returns-in-Ok-clause-overrides
returns-in-Ok-clause-overrides c = (asked_in_range (map string_bytes c.args.words.now) c.in-Ok.asked c.in-Ok.ensures).overrides
