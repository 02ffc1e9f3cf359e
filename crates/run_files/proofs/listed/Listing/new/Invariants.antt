use Rattle.std.proofs.Common.{◌≡◌, All, map, take}
use Rattle.run_files.specs.Listed.{HasIds, listed, said}
use Rattle.run_files.proofs.listed.Listing.new.Given as goal

abbrev pub invariant-loop-row : goal.invariant-loop-row
invariant-loop-row l = record {
  names : map said l.hosts.items ≡ map listed (take l.row-index l.rows);
  ids : All HasIds (map said l.hosts.items);
}
