use Rattle.std.proofs.Common.{arith, sym}
use Rattle.std.proofs.lemmas.Bool.{le-leb}
use Rattle.gml_graph.proofs.NumberLemmas.{power_fits, greater_power}
use Rattle.gml_graph.proofs.number.is_at_most_power.Goals as goal

pub returns-then-places-gt-GREATEST_POWER : goal.returns-then-places-gt-GREATEST_POWER
returns-then-places-gt-GREATEST_POWER c = sym (le-leb c.args.digits _ (omega (arith, greater_power c.args.digits c.args.places (omega arith) (omega arith))))

pub pow-requires : goal.pow-requires
pow-requires c = power_fits _ (omega arith)
