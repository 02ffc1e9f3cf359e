-- The limits of a tree, which are this project's own.
use Rattle.std.specs.Prelude.{ℕ}

-- the most levels of collections
abbrev pub most_tree_levels : ℕ
most_tree_levels = 64

abbrev pub most_tree_nodes : ℕ
most_tree_nodes = 1_000_000
