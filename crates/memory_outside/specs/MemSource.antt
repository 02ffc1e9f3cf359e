-- what a source in memory holds
use Rattle.memory_outside.specs.declared.source.MemSource.{MemSource}
use Rattle.memory_outside.specs.Calls.{CallCount}
use Rattle.run_outside.specs.Files.{Held}
use Rattle.memory_outside.specs.Files.{files_of}

-- the bytes of each file by its name
abbrev pub mem_files : MemSource → Held
mem_files s = files_of s.files

-- its calls so far, and which fail
abbrev pub mem_calls : MemSource → CallCount
mem_calls s = s.calls
