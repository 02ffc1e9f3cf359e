use Rattle.std.proofs.Common.{◌≡◌, ◌++◌, take}
use Rattle.elf_load.specs.File.{halves}
use Rattle.elf_load.proofs.file.put_halves.Given as goal

abbrev pub invariant-loop-half : goal.invariant-loop-half
invariant-loop-half l = l.file.items ≡ l.initial.file.items ++ halves (take l.half-index l.halves)
