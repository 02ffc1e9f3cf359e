use Rattle.std.proofs.Common.{◌+◌}
use Rattle.number_sets.specs.Ports.{once}
use Rattle.number_sets.proofs.ports.recount.Goals as goal

pub returns-then-count : goal.returns-then-count
returns-then-count c = λ done f h. c.discount.ensures done (λ n. f n + once c.args.is n) (c.count.ensures c.if-count.true f h)
