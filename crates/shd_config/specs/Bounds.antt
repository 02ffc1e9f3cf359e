-- The bounds of a configuration, which are this project's own.
use Rattle.std.specs.Prelude.{ℕ}

-- the greatest status that a process exits with (exit(3))
abbrev pub greatest_status : ℕ
greatest_status = 255

-- the most bytes of a packet that are captured, and how many where nothing is said
abbrev pub greatest_capture : ℕ
greatest_capture = 65535

abbrev pub default_capture : ℕ
default_capture = greatest_capture
