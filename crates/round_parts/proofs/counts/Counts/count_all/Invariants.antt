use Rattle.std.proofs.Common.{◌≡◌, ◌++◌, List, take}
use Rattle.host_link.specs.declared.line.Line.{Line}
use Rattle.host_link.specs.Logs.{kept_lines}
use Rattle.round_parts.specs.Counts.{counts_of}
use Rattle.round_parts.proofs.counts.Counts.count_all.Given as goal

-- of the lines so far
abbrev pub invariant-loop-line : goal.invariant-loop-line
invariant-loop-line l = (log : List Line) → l.initial.self ≡ counts_of log → l.self ≡ counts_of (log ++ kept_lines (take l.line-index l.lines))
