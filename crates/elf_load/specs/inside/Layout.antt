-- What stands while a file's program headers are read.
use Rattle.std.specs.Prelude.{◌≡◌, ℕ, ◌+◌, ◌≤◌, List, length, vec_len, Option, Some, All, flat_map}
use Rattle.std.specs.Ordering.{nat_cmp}
use Rattle.std.specs.FinSet.{from_list, len}
use Rattle.elf_load.specs.declared.fault.ElfFault.{ElfFault}
use Rattle.elf_load.specs.declared.fault.LoadError.{LoadError}
use Rattle.elf_load.specs.declared.fault.LoadError.TheVariants.{Fault, NoMemory}
use Rattle.elf_load.specs.declared.program_header.ProgramHeader.{ProgramHeader}
use Rattle.elf_load.specs.declared.layout.Layout.{Layout}
use Rattle.elf_load.specs.Pages.{end_of, pages_of}
use Rattle.elf_load.specs.Room.{page_size, room_end, max_program_pages}

-- a refusal tells the fault that the checks found, or that memory ran out
abbrev pub IsFound : Option ElfFault → LoadError → Type 0
IsFound found (Fault fault) = found ≡ Some fault
IsFound found NoMemory = Unit {0}

-- the segment's bytes are in the file, and it lies between the first page and the room for the stack
pub record IsPlaced (bytes : List ℕ) (s : ProgramHeader) : Type 0 where
  pub in_file : s.offset + s.file_size ≤ length bytes
  pub above_first_page : page_size ≤ s.address
  pub below_stack : end_of s ≤ room_end

-- the numbers of a list that may name one twice, each once
pub record IsListOf (numbers all : List ℕ) : Type 0 where
  pub same : from_list {R = nat_cmp} numbers ≡ from_list all
  pub once : length numbers ≡ len (from_list {R = nat_cmp} all)

-- placed segments, and each page that they touch, once
pub record IsSound (bytes : List ℕ) (layout : Layout) : Type 0 where
  pub placed : All (IsPlaced bytes) layout.segments.items
  pub pages : IsListOf layout.pages.items (flat_map pages_of layout.segments.items)
  pub few : vec_len layout.pages ≤ max_program_pages
