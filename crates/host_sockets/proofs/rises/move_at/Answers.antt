use Rattle.std.proofs.Common.{sym, arith}
use Rattle.host_sockets.proofs.Endings.{set_past}
use Rattle.host_sockets.proofs.rises.move_at.Goals as goal

pub returns-then-k-kept : goal.returns-then-k-kept
returns-then-k-kept c = sym (set_past c.args.kept.now c.args.k _ (omega arith))
