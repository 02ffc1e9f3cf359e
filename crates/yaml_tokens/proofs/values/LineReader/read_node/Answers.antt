use Rattle.std.proofs.Common.{◌++◌, ◌∙◌, sym, ap, get_or}
use Rattle.std.proofs.lemmas.Result.{on_ok_weaker}
use Rattle.yaml_tokens.specs.Tokens.{is_dash, named_node}
use Rattle.yaml_tokens.proofs.TokenSteps.{space_goes_on, dash_goes_on, node_ends, line_ends}
use Rattle.yaml_tokens.proofs.values.LineReader.read_node.Goals as goal

pub loop-column-preserved-then-b-eq32 : goal.loop-column-preserved-then-b-eq32
loop-column-preserved-then-b-eq32 c = space_goes_on c.args.self.number c.args.bytes.now c.loop-column.column c.loop-column.tokens _ c.loop-column.invariant c.loop-column-test.true c.if-b-eq32.true

pub returns-then-not-is_dash : goal.returns-then-not-is_dash
returns-then-not-is_dash c = let b = get_or c.args.bytes.now c.loop-column.column 0 in
    on_ok_weaker c.read_named_node.result (λ e. node_ends c.args.self.number c.args.bytes.now c.loop-column.column c.loop-column.tokens _ c.loop-column.invariant c.read_named_node.new.tokens c.loop-column-test.true c.if-b-eq32.false
    (sym (c.is_dash.ensures ∙ ap (is_dash b) c.from-rest.ensures) ∙ c.if-not-is_dash.true)
    (e ∙ ap (λ rest. c.loop-column.tokens ++ named_node c.args.self.number c.loop-column.column b rest) c.from-rest.ensures)) c.read_named_node.ensures

pub loop-column-preserved : goal.loop-column-preserved
loop-column-preserved c = dash_goes_on c.args.self.number c.args.bytes.now c.loop-column.column c.loop-column.tokens _ c.loop-column.invariant c.push.new.self c.loop-column-test.true c.if-b-eq32.false
    (sym (c.is_dash.ensures ∙ ap (is_dash (get_or c.args.bytes.now c.loop-column.column 0)) c.from-rest.ensures) ∙ c.if-not-is_dash.false) c.in_ok-push.ensures

pub returns : goal.returns
returns c = line_ends c.args.self.number c.args.bytes.now c.loop-column.column c.loop-column.tokens _ c.loop-column.invariant c.loop-column-test.false
