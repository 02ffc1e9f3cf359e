use Rattle.std.proofs.Common.{map, take, ap, ◌∙◌}
use Rattle.run_files.specs.Captured.{captured_from}
use Rattle.run_files.specs.Listed.{said}
use Rattle.host_link.specs.Logs.{kept_lines}
use Rattle.run_files.proofs.Capturing.{lines_more}
use Rattle.run_files.proofs.capture.capture_lines.Goals as goal

pub loop-line-preserved : goal.loop-line-preserved
loop-line-preserved c =
    let i = c.loop-line.line-index in
    let lines = c.args.lines.now in
    c.in_ok-capture_at.ensures (kept_lines (take i lines)) c.loop-line.invariant
    ∙ ap (captured_from 0 (map said c.args.hosts.now)) (lines_more lines i c.line-item.result c.loop-line-test.true c.line-item.is)
