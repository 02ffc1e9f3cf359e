use Rattle.std.proofs.Common.{◌++◌, List, ap, ◌∙◌}
use Rattle.host_link.specs.declared.line.Logged.{Logged}
use Rattle.host_link.specs.Logs.{kept_lines}
use Rattle.round_parts.specs.Counts.{counts_of}
use Rattle.round_lookahead.proofs.world.gained.Gained.count_into.Goals as goal

pub returns : goal.returns
returns c = λ log is. c.count_all.ensures log is ∙ ap (λ (ls : List Logged). counts_of (log ++ kept_lines ls)) c.as_slice.ensures.value
