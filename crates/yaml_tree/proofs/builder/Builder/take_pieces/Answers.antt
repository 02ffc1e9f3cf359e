use Rattle.std.proofs.Common.{ap, length}
use Rattle.yaml_tree.proofs.BuilderSteps.{pieces_go_on, pieces_end}
use Rattle.yaml_tree.proofs.builder.Builder.take_pieces.Goals as goal

pub loop-piece-preserved : goal.loop-piece-preserved
loop-piece-preserved c = pieces_go_on c.args.line c.loop-piece.left c.next.new.self c.in-Some.piece c.loop-piece.self c.take_piece.new.self _ c.in-Some.ensures c.in_ok-take_piece.ensures c.loop-piece.invariant

pub returns : goal.returns
returns c = pieces_end c.args.line c.loop-piece.left c.loop-piece.self _ (ap length c.in_default.ensures.0) c.loop-piece.invariant
