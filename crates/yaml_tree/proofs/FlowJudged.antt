-- What the check of a flow form's pieces has found.
use Rattle.std.specs.Prelude.{List, Option, Some, None}
use Rattle.yaml_tree.specs.Flows.{Flow, SpellsFlow, IsFlowMisfit}
use Rattle.yaml_tree.specs.inside.Outline.{flow_fault}
use Rattle.yaml_tokens.specs.declared.piece.Piece.{Piece}
use Rattle.yaml_tree.specs.declared.fault.FaultKind.{FaultKind}

-- where no fault was found the pieces are a flow form's, and where one was they are none's, for this reason
abbrev pub FlowJudged : List Piece → Option FaultKind → Type 0
FlowJudged pieces None = (f : Flow) × SpellsFlow pieces f
FlowJudged pieces (Some kind) = IsFlowMisfit pieces kind

abbrev pub Judges : Type 0
Judges = (pieces : List Piece) → FlowJudged pieces (flow_fault pieces)
