use Rattle.std.proofs.Common.{sym, ◌∙◌, arith}
use Rattle.host_sockets.proofs.Endings.{rises_past}
use Rattle.host_sockets.proofs.rises.rises_at.Goals as goal

pub returns-then-k-kept : goal.returns-then-k-kept
returns-then-k-kept c = c.none.ensures ∙ sym (rises_past c.args.kept.now c.args.k (omega arith))
