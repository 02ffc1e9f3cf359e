-- The bounds of a graph's text, which are this project's own.
use Rattle.std.specs.Prelude.{ℕ}

-- how deep a list may lie
abbrev pub greatest_depth : ℕ
greatest_depth = 16

-- the most digits of a number, and of its exponent
abbrev pub most_digits : ℕ
most_digits = 36

abbrev pub most_exponent_digits : ℕ
most_exponent_digits = 4

abbrev pub most_nodes : ℕ
most_nodes = 4096

abbrev pub most_edges : ℕ
most_edges = 65536
