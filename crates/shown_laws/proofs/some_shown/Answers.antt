use Rattle.plan_laws.proofs.Whole.{some_plan}
use Rattle.shown_laws.proofs.CaptureLines.{some_lines}
use Rattle.shown_laws.proofs.Shown.{some_shown}
use Rattle.shown_laws.proofs.some_shown.Goals as goal

pub returns : goal.returns
returns c = some_shown some_plan some_lines
