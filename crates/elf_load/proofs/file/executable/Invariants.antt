use Rattle.std.proofs.Common.{◌≡◌, ◌++◌, ◌%◌, length, take}
use Rattle.std.specs.Prelude.{flat_map}
use Rattle.elf_load.specs.File.{elf_header, program_header}
use Rattle.elf_load.proofs.file.executable.Given as goal

abbrev pub invariant-loop-header : goal.invariant-loop-header
invariant-loop-header l = l.file.items ≡ elf_header l.entry (length l.headers % 65536) ++ flat_map program_header (take l.header-index l.headers)
