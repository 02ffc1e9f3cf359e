-- The line of a read that failed.
use Rattle.std.specs.Prelude.{ℕ, List, codes}
use Rattle.out_text.specs.Faults.{file_line}

-- the line of a file that could not be read
abbrev pub read_failed_line : List ℕ → List ℕ
read_failed_line file = file_line file (codes "read failed")
