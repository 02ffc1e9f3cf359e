use Rattle.yaml_tokens.proofs.ScanSteps.{double_goes_on, double_stops, double_is_open}
use Rattle.yaml_tokens.proofs.scan.double_len.Goals as goal

pub returns-then-ends_double-clause-len : goal.returns-then-ends_double-clause-len
returns-then-ends_double-clause-len c = double_stops c.args.bytes.now c.loop-i.i c.loop-i.escaped _ c.loop-i.invariant c.ends_double.result c.loop-i-test.true c.ends_double.ensures c.if-ends_double.true

pub loop-i-preserved : goal.loop-i-preserved
loop-i-preserved c = double_goes_on c.args.bytes.now c.loop-i.i c.loop-i.escaped _ c.loop-i.invariant c.ends_double.result c.begins_escape-escaped.result c.loop-i-test.true c.ends_double.ensures c.if-ends_double.false c.begins_escape-escaped.ensures

pub returns-clause-len : goal.returns-clause-len
returns-clause-len c = double_is_open c.args.bytes.now c.loop-i.i c.loop-i.escaped _ c.loop-i.invariant c.loop-i-test.false
