use Rattle.std.proofs.Common.{◌∙◌, refl}
use Rattle.yaml_tree.proofs.BuilderSteps.{closed_deeper_step, closed_deeper_on_end}
use Rattle.yaml_tree.proofs.builder.Builder.close_deeper.Goals as goal

pub loop-last-smaller : goal.loop-last-smaller
loop-last-smaller c = (closed_deeper_step c.args.depth c.loop-last.self c.close.new.self c.in-Some.last c.pop_deeper.new.self c.in-Some.ensures c.in_ok-close.ensures).1

pub loop-last-preserved : goal.loop-last-preserved
loop-last-preserved c = (closed_deeper_step c.args.depth c.loop-last.self c.close.new.self c.in-Some.last c.pop_deeper.new.self c.in-Some.ensures c.in_ok-close.ensures).0 ∙ c.loop-last.invariant

pub returns : goal.returns
returns c = closed_deeper_on_end c.args.depth c.loop-last.self.open_rows c.pop_deeper.new.self c.loop-last.self refl c.in_default.ensures ∙ c.loop-last.invariant
