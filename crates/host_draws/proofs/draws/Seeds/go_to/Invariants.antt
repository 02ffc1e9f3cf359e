use Rattle.std.proofs.Common.{◌≡◌}
use Rattle.host_draws.proofs.draws.Seeds.go_to.Given as goal

abbrev pub invariant-loop-host : goal.invariant-loop-host
invariant-loop-host l = (l.self.at ≡ l._host) × (l.self.seed ≡ l.fn.self.seed)
