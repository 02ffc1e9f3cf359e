use Rattle.std.proofs.Common.{◌≡◌, ◌++◌, drop}
use Rattle.net_routes.specs.inside.Found.{oks, rows_found}
use Rattle.net_routes.proofs.finding.add_found.Given as goal

-- what is left completes the whole
abbrev pub invariant-loop-each : goal.invariant-loop-each
invariant-loop-each l = oks l.rows ++ rows_found (drop l.each-index l.searches) ≡ oks l.fn.rows ++ rows_found l.searches
