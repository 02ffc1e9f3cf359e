use Rattle.std.proofs.Common.{◌≡◌, true, take}
use Rattle.std.specs.List.{list_all}
use Rattle.yaml_tree.specs.Written.{is_name}
use Rattle.yaml_tree.proofs.reading.are_names.Given as goal

-- the tokens so far are names
abbrev pub invariant-loop-token : goal.invariant-loop-token
invariant-loop-token l = list_all is_name (take l.token-index l.token-items) ≡ true
