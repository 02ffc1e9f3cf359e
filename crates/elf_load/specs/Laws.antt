-- What a file can hold.
use Rattle.std.specs.Prelude.{◌<◌, ◌^◌}
use Rattle.elf_load.specs.declared.program_header.ProgramHeader.{ProgramHeader}

-- each field of a program header is a number of four bytes
pub record Fits (h : ProgramHeader) : Type 0 where
  pub kind : h.kind < 2 ^ 32
  pub offset : h.offset < 2 ^ 32
  pub address : h.address < 2 ^ 32
  pub file_size : h.file_size < 2 ^ 32
  pub memory_size : h.memory_size < 2 ^ 32
  pub flags : h.flags < 2 ^ 32
