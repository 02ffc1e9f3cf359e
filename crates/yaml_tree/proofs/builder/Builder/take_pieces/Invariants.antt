use Rattle.std.proofs.Common.{◌≡◌, length}
use Rattle.yaml_tree.specs.inside.Builder.{take_pieces}
use Rattle.yaml_tree.proofs.builder.Builder.take_pieces.Given as goal

-- what is left gives the whole
abbrev pub invariant-loop-piece : goal.invariant-loop-piece
invariant-loop-piece l = take_pieces l.line l.left l.self ≡ take_pieces l.fn.line l.fn.pieces l.fn.self

abbrev pub decreases-loop-piece : goal.decreases-loop-piece
decreases-loop-piece l = length l.left
