use Rattle.std.proofs.Common.{take}
use Rattle.run_files.specs.LinesFit.{AllFit}
use Rattle.host_link.specs.Logs.{kept_lines}
use Rattle.run_files.proofs.fitting.lines_fit.Given as goal

-- the lines so far
abbrev pub invariant-loop-line : goal.invariant-loop-line
invariant-loop-line l = AllFit (kept_lines (take l.line-index l.lines))
