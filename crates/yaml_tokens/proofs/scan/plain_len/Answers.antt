use Rattle.std.proofs.Common.{◌∙◌, ap, get_or}
use Rattle.yaml_tokens.specs.Scalars.{plain_ends}
use Rattle.yaml_tokens.proofs.ScanSteps.{plain_goes_on, plain_stops, plain_is_over}
use Rattle.yaml_tokens.proofs.scan.plain_len.Goals as goal

pub returns-then-plain_ends-clause-len : goal.returns-then-plain_ends-clause-len
returns-then-plain_ends-clause-len c = plain_stops c.args.bytes.now c.loop-i.i _ c.loop-i.invariant c.plain_ends.result c.loop-i-test.true (c.plain_ends.ensures ∙ ap (plain_ends (get_or c.args.bytes.now c.loop-i.i 0)) c.from.ensures) c.if-plain_ends.true

pub loop-i-preserved : goal.loop-i-preserved
loop-i-preserved c = plain_goes_on c.args.bytes.now c.loop-i.i _ c.loop-i.invariant c.plain_ends.result c.loop-i-test.true (c.plain_ends.ensures ∙ ap (plain_ends (get_or c.args.bytes.now c.loop-i.i 0)) c.from.ensures) c.if-plain_ends.false

pub returns-clause-len : goal.returns-clause-len
returns-clause-len c = plain_is_over c.args.bytes.now c.loop-i.i _ c.loop-i.invariant c.loop-i-test.false c.loop-i.auto.i-end
