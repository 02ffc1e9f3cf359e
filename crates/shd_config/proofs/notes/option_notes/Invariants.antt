use Rattle.std.proofs.Common.{◌≡◌, ◌++◌, drop}
use Rattle.std.specs.List.{flat_map}
use Rattle.shd_config.specs.Notes.{option_note}
use Rattle.shd_config.proofs.notes.option_notes.Given as goal

-- what is left gives the whole
abbrev pub invariant-loop-pair : goal.invariant-loop-pair
invariant-loop-pair l = l.notes ++ flat_map (option_note l.front) (drop l.pair-index l.pairs) ≡ l.initial.notes ++ flat_map (option_note l.front) l.pairs
