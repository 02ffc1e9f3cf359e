use Rattle.std.proofs.Common.{◌∙◌, ap, get_or}
use Rattle.yaml_tokens.specs.Pieces.{cell_ends}
use Rattle.yaml_tokens.proofs.CellSteps.{cell_goes_on, cell_stops, cell_is_over}
use Rattle.yaml_tokens.proofs.cells.cell_len.Goals as goal

pub returns-then-cell_ends-clause-len : goal.returns-then-cell_ends-clause-len
returns-then-cell_ends-clause-len c = cell_stops c.args.bytes.now c.loop-i.i _ c.loop-i.invariant c.cell_ends.result c.loop-i-test.true (c.cell_ends.ensures ∙ ap (cell_ends (get_or c.args.bytes.now c.loop-i.i 0)) c.from.ensures) c.if-cell_ends.true

pub loop-i-preserved : goal.loop-i-preserved
loop-i-preserved c = cell_goes_on c.args.bytes.now c.loop-i.i _ c.loop-i.invariant c.cell_ends.result c.loop-i-test.true (c.cell_ends.ensures ∙ ap (cell_ends (get_or c.args.bytes.now c.loop-i.i 0)) c.from.ensures) c.if-cell_ends.false

pub returns-clause-len : goal.returns-clause-len
returns-clause-len c = cell_is_over c.args.bytes.now c.loop-i.i _ c.loop-i.invariant c.loop-i-test.false c.loop-i.auto.i-end
