use Rattle.yaml_tokens.proofs.BracketSteps.{LooksOn}
use Rattle.yaml_tokens.proofs.brackets.closes_at.Given as goal

abbrev pub invariant-loop-piece : goal.invariant-loop-piece
invariant-loop-piece l = LooksOn l.pieces l.piece-index l.opened
