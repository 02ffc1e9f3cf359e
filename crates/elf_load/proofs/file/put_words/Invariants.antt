use Rattle.std.proofs.Common.{◌≡◌, ◌++◌, take}
use Rattle.elf_load.specs.File.{words}
use Rattle.elf_load.proofs.file.put_words.Given as goal

abbrev pub invariant-loop-word : goal.invariant-loop-word
invariant-loop-word l = l.file.items ≡ l.initial.file.items ++ words (take l.word-index l.words)
