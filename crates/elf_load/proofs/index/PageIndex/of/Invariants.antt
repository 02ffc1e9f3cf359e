use Rattle.std.proofs.Common.{◌+◌, ◌*◌, ◌≤◌, take, vec_len}
use Rattle.elf_load.specs.Places.{page_numbers}
use Rattle.elf_load.specs.inside.PageIndex.{Finds}
use Rattle.elf_load.specs.inside.Tables.{table_size}
use Rattle.elf_load.proofs.index.PageIndex.of.Given as goal

-- what was noted so far is found, in a table a page at most beside the blank one
abbrev pub invariant-loop-place : goal.invariant-loop-place
invariant-loop-place l =
    record {
      found : Finds l.index (page_numbers (take l.place l.pages));
      few : vec_len l.index.places ≤ table_size * (l.place + 1);
    }
