use Rattle.std.proofs.Common.{◌+◌, ◌-◌}
use Rattle.number_sets.specs.Ports.{once}
use Rattle.host_sockets.proofs.given.recount_both.Goals as goal

pub returns-then-recount : goal.returns-then-recount
returns-then-recount c = λ done f h. c.recount-then-recount.ensures done (λ n. f n + once c.args.is.bound n - once c.args.was.bound n) (c.recount.ensures c.if-recount.true f h)
