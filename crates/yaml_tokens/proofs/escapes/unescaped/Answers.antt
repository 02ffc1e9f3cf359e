use Rattle.std.proofs.Common.{◌∙◌, sym, ap, Some}
use Rattle.yaml_tokens.proofs.ScanSteps.{escape_goes_on, escape_is_bad, escape_ends, escape_is_open, not_outside}
use Rattle.yaml_tokens.specs.Scalars.{is_outside}
use Rattle.yaml_tokens.proofs.escapes.unescaped.Goals as goal

pub returns-in_default : goal.returns-in_default
returns-in_default c = escape_is_bad c.args.bytes.now c.loop-b.b-index c.loop-b.place c.loop-b.text.items _ c.loop-b.invariant.0 c.loop-b-test.true (sym c.escape_step.ensures.value ∙ c.in_default.is)

pub loop-b-preserved : goal.loop-b-preserved
loop-b-preserved c = (escape_goes_on c.args.bytes.now c.loop-b.b-index c.loop-b.place c.loop-b.text.items _ c.loop-b.invariant.0 c.in-Some.next c.in-Some.added c.add.new.text.items c.loop-b-test.true (sym c.in-Some.ensures.value) c.in_ok-add.ensures, c.in-Some.ensures.range)

pub returns-in_ok-from_vec-in-Outside : goal.returns-in_ok-from_vec-in-Outside
returns-in_ok-from_vec-in-Outside c = ap Some c.in_ok-from_vec-in-Outside.ensures ∙ escape_ends c.args.bytes.now c.loop-b.b-index c.loop-b.place c.loop-b.text.items _ c.loop-b.invariant.0 c.loop-b-test.false (ap is_outside c.in-Outside.is)

pub returns-in_default-place : goal.returns-in_default-place
returns-in_default-place c = escape_is_open c.args.bytes.now c.loop-b.b-index c.loop-b.place c.loop-b.text.items _ c.loop-b.invariant.0 c.loop-b-test.false (not_outside c.loop-b.place c.in_default-place.not-Outside)
