-- The guest of a self-load.
use Rattle.std.specs.Prelude.{ℕ, List, codes}
use Rattle.run_outside.specs.Files.{Held, no_files, with_file}
use Rattle.run_plan.specs.declared.ring.TheConstants.{RING}

-- the bytes of its file
unfoldable pub ring : List ℕ
ring = RING

-- one file alone
abbrev pub one_file : List ℕ → List ℕ → Held
one_file name bytes = with_file name bytes no_files

-- the files of a self-load, the graph's aside
abbrev pub ring_files : Held
ring_files = one_file (codes "ring") ring
