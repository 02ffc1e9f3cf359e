use Rattle.std.proofs.Common.{◌∙◌, sym, ap, Some, drop, ◌+◌}
use Rattle.yaml_tree.specs.inside.Outline.{fault_from, piece_fault}
use Rattle.yaml_tokens.proofs.BracketSteps.{from_place}
use Rattle.yaml_tree.proofs.ShapeSteps.{faults_here, faults_on}
use Rattle.yaml_tree.proofs.shape.bare_fault.Goals as goal

pub returns-then-not-takes_piece : goal.returns-then-not-takes_piece
returns-then-not-takes_piece c = ap Some (c.piece_fault.ensures ∙ ap (λ l. piece_fault c.index-pieces-i.result l c.loop-i.shape) (from_place c.args.pieces.now (c.loop-i.i + 1))) ∙ faults_here c.args.pieces.now c.loop-i.i c.index-pieces-i.result c.loop-i.shape c.loop-i.invariant c.loop-i-test.true c.index-pieces-i.is (sym c.if-not-takes_piece.ensures)

pub loop-i-preserved : goal.loop-i-preserved
loop-i-preserved c = ap (λ s. fault_from (drop (c.loop-i.i + 1) c.args.pieces.now) s) c.in_ok-take_piece.ensures ∙ faults_on c.args.pieces.now c.loop-i.i c.index-pieces-i.result c.loop-i.shape c.loop-i.invariant c.loop-i-test.true c.index-pieces-i.is (sym c.if-not-takes_piece.ensures)
