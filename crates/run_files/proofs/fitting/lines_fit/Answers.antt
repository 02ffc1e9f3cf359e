use Rattle.std.proofs.Common.{take, subst}
use Rattle.run_files.specs.LinesFit.{AllFit}
use Rattle.host_link.specs.Logs.{kept_lines}
use Rattle.run_files.proofs.Capturing.{lines_more}
use Rattle.run_files.proofs.LinesFit.{fit_push}
use Rattle.run_files.proofs.fitting.lines_fit.Goals as goal

pub loop-line-preserved : goal.loop-line-preserved
loop-line-preserved c =
    let i = c.loop-line.line-index in
    let lines = c.args.lines.now in
    let line = c.line-item.result in
    subst AllFit (lines_more lines i line c.loop-line-test.true c.line-item.is) (fit_push (kept_lines (take i lines)) line.line c.loop-line.invariant c.packet_fits.ensures)
