use Rattle.std.proofs.Common.{◌≡◌, map, take}
use Rattle.run_files.specs.Listed.{listed_process}
use Rattle.run_files.proofs.listing.process_listings.Given as goal

abbrev pub invariant-loop-row : goal.invariant-loop-row
invariant-loop-row l = l.processes.items ≡ map listed_process (take l.row-index l.rows)
