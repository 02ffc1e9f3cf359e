use Rattle.std.proofs.Common.{◌≡◌, take, map}
use Rattle.run_files.specs.Listed.{said}
use Rattle.net_run.specs.Streams.{told_lines}
use Rattle.net_run.proofs.streams.lines_of.Given as goal

-- the lines so far
abbrev pub invariant-loop-stream : goal.invariant-loop-stream
invariant-loop-stream l = l.lines ≡ told_lines (map said l.hosts) (take l.stream-index l.streams)
