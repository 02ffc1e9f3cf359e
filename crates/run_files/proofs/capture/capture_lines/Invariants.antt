use Rattle.std.proofs.Common.{◌≡◌, map, take}
use Rattle.run_files.specs.Captured.{captured_from}
use Rattle.run_files.specs.Listed.{said}
use Rattle.host_link.specs.Logs.{kept_lines}
use Rattle.run_files.proofs.capture.capture_lines.Given as goal

-- the lines so far
abbrev pub invariant-loop-line : goal.invariant-loop-line
invariant-loop-line l = l.captured.items ≡ captured_from 0 (map said l.hosts) (kept_lines (take l.line-index l.lines))
