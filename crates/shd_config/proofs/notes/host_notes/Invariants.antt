use Rattle.std.proofs.Common.{◌≡◌, ◌++◌, drop}
use Rattle.std.specs.List.{flat_map}
use Rattle.shd_config.specs.Notes.{host_notes}
use Rattle.shd_config.proofs.notes.host_notes.Given as goal

-- what is left gives the whole
abbrev pub invariant-loop-pair : goal.invariant-loop-pair
invariant-loop-pair l = l.notes ++ flat_map (host_notes l.front) (drop l.pair-index l.pairs) ≡ l.initial.notes ++ flat_map (host_notes l.front) l.pairs
