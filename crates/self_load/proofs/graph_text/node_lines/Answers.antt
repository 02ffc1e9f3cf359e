use Rattle.std.proofs.Common.{◌∙◌}
use Rattle.self_load.specs.GraphText.{node_line}
use Rattle.self_load.proofs.Lines.{line_more}
use Rattle.self_load.proofs.graph_text.node_lines.Goals as goal

pub loop-node-preserved : goal.loop-node-preserved
loop-node-preserved c =
    line_more node_line c.loop-node.node c.loop-node.lines c.as_str.result.now c.push_str.new.self c.loop-node.invariant (c.as_str.ensures.value ∙ c.in_ok-line.ensures) c.in_ok-push_str.ensures.ok
