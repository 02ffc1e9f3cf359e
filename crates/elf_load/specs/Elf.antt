-- The parts of an ELF32 file that a load looks at, by their places
-- (System V gABI, chapter 4, "ELF Header", and chapter 5, "Program Header"; numbers are little-endian).
use Rattle.std.specs.Prelude.{ℕ, ◌+◌, ◌*◌, List, [], ◌∷◌, map, slice_index}
use Rattle.std.specs.Int.{w16, w32, from_le_bytes}
use Rattle.std.specs.List.{range_with_len}
use Rattle.elf_load.specs.declared.elf_header.ElfHeader.{ElfHeader}
use Rattle.elf_load.specs.declared.program_header.ProgramHeader.{ProgramHeader}
use Rattle.elf_load.specs.Standard.{program_header_size}

-- the number that the two bytes at a place hold (Elf32_Half)
abbrev pub half : List ℕ → ℕ → ℕ
half bytes at = from_le_bytes w16 (slice_index bytes at ∷ slice_index bytes (at + 1) ∷ [])

-- the number that the four bytes at a place hold (Elf32_Word, Elf32_Off, Elf32_Addr)
abbrev pub word : List ℕ → ℕ → ℕ
word bytes at = from_le_bytes w32 (slice_index bytes at ∷ slice_index bytes (at + 1) ∷ slice_index bytes (at + 2) ∷ slice_index bytes (at + 3) ∷ [])

-- the ELF header, each field at its place
abbrev pub elf_header : List ℕ → ElfHeader
elf_header bytes = record {
  class = slice_index bytes 4;
  data_encoding = slice_index bytes 5;
  kind = half bytes 16;
  machine = half bytes 18;
  entry = word bytes 24;
  table = word bytes 28;
  flags = word bytes 36;
  entry_size = half bytes 42;
  count = half bytes 44;
}

-- the program header at a place, each field behind it
abbrev pub program_header : List ℕ → ℕ → ProgramHeader
program_header bytes at = record {
  kind = word bytes at;
  offset = word bytes (at + 4);
  address = word bytes (at + 8);
  file_size = word bytes (at + 16);
  memory_size = word bytes (at + 20);
  flags = word bytes (at + 24);
}

-- the program headers, in the order of the file
unfoldable pub program_headers : List ℕ → List ProgramHeader
program_headers bytes = map (λ i. program_header bytes ((elf_header bytes).table + program_header_size * i)) (range_with_len 0 (elf_header bytes).count)
