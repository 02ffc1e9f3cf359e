use Rattle.std.proofs.Common.{◌≡◌, List, [], length}
use Rattle.std.specs.Prelude.{All}
use Rattle.net_routes.specs.declared.arc.Arc.{Arc}
use Rattle.net_routes.proofs.adjacency.empty_rows.Given as goal

abbrev pub invariant-loop : goal.invariant-loop
invariant-loop l = record {
  size : length l.rows.items ≡ l.counter;
  empty : All (λ (row : List Arc). row ≡ []) l.rows.items;
}
