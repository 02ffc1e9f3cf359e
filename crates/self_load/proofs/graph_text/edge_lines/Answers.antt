use Rattle.std.proofs.Common.{◌∙◌}
use Rattle.self_load.specs.GraphText.{edge_line}
use Rattle.self_load.proofs.Lines.{line_more}
use Rattle.self_load.proofs.graph_text.edge_lines.Goals as goal

pub loop-host-preserved : goal.loop-host-preserved
loop-host-preserved c =
    line_more (edge_line c.args.hosts) c.loop-host.host c.loop-host.lines c.as_str.result.now c.push_str.new.self c.loop-host.invariant (c.as_str.ensures.value ∙ c.in_ok-line.ensures) c.in_ok-push_str.ensures.ok
