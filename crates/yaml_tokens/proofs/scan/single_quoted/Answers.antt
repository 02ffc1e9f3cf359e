use Rattle.std.proofs.Common.{◌∙◌, Some, length}
use Rattle.yaml_tokens.proofs.ScanSteps.{single_goes_on, single_stops, single_ends, single_is_open}
use Rattle.yaml_tokens.proofs.scan.single_quoted.Goals as goal

pub returns-then-closes-clause-found : goal.returns-then-closes-clause-found
returns-then-closes-clause-found c = (λ j. Some (c.in_ok-from_vec.ensures j, c.loop-i.i)) ∙ single_stops c.args.bytes.now c.loop-i.i c.loop-i.held c.loop-i.text.items _ c.loop-i.invariant c.closes.result c.loop-i-test.true c.closes.ensures c.if-closes.true

pub loop-i-preserved : goal.loop-i-preserved
loop-i-preserved c = single_goes_on c.args.bytes.now c.loop-i.i c.loop-i.held c.loop-i.text.items _ c.loop-i.invariant c.closes.result c.holds_back-held.result c.add_part.new.text.items c.loop-i-test.true c.closes.ensures c.if-closes.false c.holds_back-held.ensures c.in_ok-add_part.ensures

pub returns-in_ok-from_vec-2-clause-found : goal.returns-in_ok-from_vec-2-clause-found
returns-in_ok-from_vec-2-clause-found c = (λ j. Some (c.in_ok-from_vec-2.ensures j, length c.args.bytes.now)) ∙ single_ends c.args.bytes.now c.loop-i.i c.loop-i.held c.loop-i.text.items _ c.loop-i.invariant c.loop-i-test.false c.loop-i.auto.i-end c.if-held.true

pub returns-else-held-clause-found : goal.returns-else-held-clause-found
returns-else-held-clause-found c = single_is_open c.args.bytes.now c.loop-i.i c.loop-i.held c.loop-i.text.items _ c.loop-i.invariant c.loop-i-test.false c.if-held.false
