use Rattle.std.specs.Prelude.{ℕ, List, codes}
use Rattle.elf_load.specs.declared.fault.ElfFault.{ElfFault}
use Rattle.elf_load.specs.declared.fault.ElfFault.TheVariants.{Truncated, Magic, Class, Machine, Kind, Flags, Range, Interp, Dynamic, Overlap, Entry}

-- the word for messages
abbrev pub word_of : ElfFault → List ℕ
word_of Truncated = codes "truncated"
word_of Magic = codes "magic"
word_of Class = codes "class"
word_of Machine = codes "machine"
word_of Kind = codes "kind"
word_of Flags = codes "flags"
word_of Range = codes "range"
word_of Interp = codes "interp"
word_of Dynamic = codes "dynamic"
word_of Overlap = codes "overlap"
word_of Entry = codes "entry"
