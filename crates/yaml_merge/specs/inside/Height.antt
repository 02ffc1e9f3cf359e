-- How many nodes stand around the deepest one of a tree.
use Rattle.std.specs.Prelude.{ℕ, ◌+◌, max}
use Rattle.yaml_tree.specs.Said.{Said}
use Rattle.yaml_tree.specs.Said.Said.{with_item, with_pair}

abbrev pub height : Said → ℕ
height (with_item before value) = max (height before) (1 + height value)
height (with_pair before line key value) = max (height before) (1 + height value)
height _ = 0
