-- the generator of a host, lent: what stands there afterwards is what its draws go on from
use Rattle.std.specs.Prelude.{ℕ, List}
use Rattle.std.specs.Borrow.{Lends, MutBor, Fml}
use Rattle.host_draws.specs.contracts.draws.Draws as draws
use Rattle.host_wants.specs.contracts.outlet.Outlet.{the_row}
use Rattle.host_wants.specs.Wanted.{Wanted}

abbrev pub LendsDraws : MutBor Wanted → MutBor (List ℕ) → Fml
LendsDraws w d = Lends the_row draws.the_row w d (λ left. record w.now { draws = left })
