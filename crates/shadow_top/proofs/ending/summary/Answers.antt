use Rattle.shadow_top.proofs.EndLemmas.{no_summary, summary_told}
use Rattle.shadow_top.proofs.ending.summary.Goals as goal

pub returns-then-not-is_self_load : goal.returns-then-not-is_self_load
returns-then-not-is_self_load c = λ w stands many. no_summary w c.args.is_self_load c.if-not-is_self_load.true

pub returns : goal.returns
returns c = λ w stands many. summary_told w c.args.is_self_load c.args.hosts c.counts-counts.result c.if-not-is_self_load.false many (c.counts-counts.ensures w stands)
