use Rattle.std.proofs.Common.{arith, sym}
use Rattle.gml_graph.proofs.NumberLemmas.{ten_pos, power_fits, units_up, units_up_small, units_down, units_down_small, units_down_zero}
use Rattle.gml_graph.proofs.number.units_of.Goals as goal

pub pow-requires : goal.pow-requires
pow-requires c = power_fits _ (omega arith)

pub overflow_mul-result : goal.overflow_mul-result
overflow_mul-result c = rw c.pow.ensures (omega (arith, units_up_small c.args.digits c.args.places c.requires c.if-places-le9.true))

pub overflow_cast-result : goal.overflow_cast-result
overflow_cast-result c = rw c.pow.ensures (omega (arith, units_up_small c.args.digits c.args.places c.requires c.if-places-le9.true))

pub returns-then-places-le9 : goal.returns-then-places-le9
returns-then-places-le9 c = rw c.pow.ensures (sym (units_up c.args.digits c.args.places c.if-places-le9.true))

pub returns-then-places-gt-GREATEST_POWER : goal.returns-then-places-gt-GREATEST_POWER
returns-then-places-gt-GREATEST_POWER c = sym (units_down_zero c.args.digits c.args.places (omega arith) (omega arith))

pub pow-requires-2 : goal.pow-requires-2
pow-requires-2 c = power_fits _ (omega arith)

pub nonzero_div-result : goal.nonzero_div-result
nonzero_div-result c = rw c.pow-2.ensures (ten_pos _)

pub overflow_cast-result-2 : goal.overflow_cast-result-2
overflow_cast-result-2 c = rw c.pow-2.ensures (omega (arith, units_down_small c.args.digits c.args.places c.requires (omega arith)))

pub returns : goal.returns
returns c = rw c.pow-2.ensures (sym (units_down c.args.digits c.args.places (omega arith)))
