use Rattle.round_parts.proofs.CountSteps.{counted_more}
use Rattle.round_parts.proofs.counts.Counts.count_all.Goals as goal

pub loop-line-preserved : goal.loop-line-preserved
loop-line-preserved c =
    counted_more c.args.self.now c.loop-line.self c.count.new.self c.args.lines.now c.loop-line.line-index c.line-item.result c.loop-line-test.true c.line-item.is
    c.loop-line.invariant c.count.ensures
