-- The program image of a file, or its first fault.
use Rattle.std.specs.Prelude.{◌≡◌, ℕ, ◌+◌, ◌-◌, ◌*◌, ◌/◌, ◌%◌, Bool, ◌&&◌, ◌||◌, not, List, [], ◌∷◌, ◌++◌, map, length, Option, Some, None, option_map, unwrap_or, Result, Ok, Err, if◌then◌else◌, ◌==◌, nat_eq, nat_lt, nat_le, bit_and, slice_get, find, fold, flat_map}
use Rattle.std.specs.List.{range_with_len, starts_with, list_any}
use Rattle.std.specs.FinMap.{from_entries}
use Rattle.std.specs.FinSet.{len, items}
use Rattle.elf_load.specs.declared.fault.ElfFault.{ElfFault}
use Rattle.elf_load.specs.declared.fault.ElfFault.TheVariants.{Truncated, Magic, Class, Machine, Kind, Flags, Range, Interp, Dynamic, Overlap, Entry}
use Rattle.elf_load.specs.declared.fault.LoadError.{LoadError}
use Rattle.elf_load.specs.declared.fault.LoadError.TheVariants.{Fault, NoMemory}
use Rattle.elf_load.specs.declared.program_header.ProgramHeader.{ProgramHeader}
use Rattle.elf_load.specs.Cells.{Cell, Cells}
use Rattle.elf_load.specs.Elf.{elf_header, program_headers}
use Rattle.elf_load.specs.Pages.{is_segment, segments, end_of, share_a_byte, touched_pages, rights_at, highest_end, rounded_up}
use Rattle.elf_load.specs.ProgramImage.{ProgramImage}
use Rattle.elf_load.specs.Room.{page_size, room_end, max_program_pages, max_program_headers, instruction_size}
use Rattle.elf_load.specs.Standard.{magic, elfclass32, elfdata2lsb, et_exec, em_riscv, ef_riscv_rvc, ef_riscv_float_abi, ef_riscv_rve, elf_header_size, program_header_size, pt_dynamic, pt_interp}

-- a reason to refuse a file, whether it stands, and the fault that it is
abbrev pub Check : Type 0
Check = Bool × ElfFault

-- the ELF header, and that the table of program headers lies within the file
unfoldable pub header_checks : List ℕ → List Check
header_checks bytes = let h = elf_header bytes in
    (nat_lt (length bytes) elf_header_size, Truncated)
    ∷ (not (starts_with nat_eq bytes magic), Magic)
    ∷ (not (h.class == elfclass32) || not (h.data_encoding == elfdata2lsb), Class)
    ∷ (not (h.machine == em_riscv), Machine)
    ∷ (not (h.kind == et_exec) || (nat_lt 0 h.count && not (h.entry_size == program_header_size)), Kind)
    ∷ (not (bit_and h.flags (ef_riscv_rvc + ef_riscv_float_abi + ef_riscv_rve) == 0), Flags)
    ∷ (nat_lt max_program_headers h.count, Range)
    ∷ (nat_lt (length bytes) (h.table + program_header_size * h.count), Truncated)
    ∷ []

-- a program header behind the segments that stand before it: a segment has its bytes in the file, lies between the first page and the room for the stack, leaves enough pages, and has its bytes to itself
unfoldable pub program_header_checks : List ℕ → List ProgramHeader → ProgramHeader → List Check
program_header_checks bytes earlier h =
    (h.kind == pt_interp, Interp)
    ∷ (h.kind == pt_dynamic, Dynamic)
    ∷ (is_segment h && nat_lt (length bytes) (h.offset + h.file_size), Truncated)
    ∷ (is_segment h && (nat_lt h.memory_size h.file_size || nat_lt h.address page_size || nat_lt room_end (end_of h) || nat_lt max_program_pages (len (touched_pages (earlier ++ h ∷ [])))), Range)
    ∷ (is_segment h && list_any (share_a_byte h) earlier, Overlap)
    ∷ []

-- each program header in its turn, behind the others
abbrev pub all_program_header_checks : List ℕ → List ProgramHeader → List ProgramHeader → List Check
all_program_header_checks bytes before [] = []
all_program_header_checks bytes before (h ∷ rest) = program_header_checks bytes (segments before) h ++ all_program_header_checks bytes (before ++ h ∷ []) rest

-- the entry
abbrev pub entry_checks : ℕ → List ProgramHeader → List Check
entry_checks entry ss = (not (entry % instruction_size == 0) || not (rights_at ss (entry / page_size)).execute, Entry) ∷ []

-- all checks in order
abbrev pub checks : List ℕ → List Check
checks bytes =
    header_checks bytes
    ++ (all_program_header_checks bytes [] (program_headers bytes)
    ++ entry_checks (elf_header bytes).entry (segments (program_headers bytes)))

abbrev pub first_fault : List Check → Option ElfFault
first_fault cs = option_map (λ c. c.1) (find (λ c. c.0) cs)

-- the byte of the file that a segment lays to an address, if it lays one there
abbrev pub file_byte : List ℕ → ProgramHeader → ℕ → Option ℕ
file_byte bytes s address = if nat_le s.address address && nat_lt address (s.address + s.file_size) then slice_get bytes (s.offset + (address - s.address)) else None

-- the byte at an address of a touched page: the file's where a segment lays one, and else 0
abbrev pub byte_at : List ℕ → List ProgramHeader → ℕ → ℕ
byte_at bytes ss address = fold (λ byte s. unwrap_or (file_byte bytes s address) byte) 0 ss

abbrev pub cell_at : List ℕ → List ProgramHeader → ℕ → Cell
cell_at bytes ss address = record { byte = byte_at bytes ss address; rights = rights_at ss (address / page_size) }

-- the addresses of a page, each with its cell
abbrev pub cells_on : List ℕ → List ProgramHeader → ℕ → List (ℕ × Cell)
cells_on bytes ss page = map (λ address. (address, cell_at bytes ss address)) (range_with_len (page_size * page) page_size)

-- the cells of the touched pages
unfoldable pub cells_of_segments : List ℕ → List ProgramHeader → Cells
cells_of_segments bytes ss = from_entries (flat_map (cells_on bytes ss) (items (touched_pages ss)))

-- what a file without a fault asks for
abbrev pub image_of : List ℕ → ProgramImage
image_of bytes = let ss = segments (program_headers bytes) in record {
  cells = cells_of_segments bytes ss;
  entry = (elf_header bytes).entry;
  start = rounded_up (highest_end ss);
  pages = len (touched_pages ss);
}

abbrev pub unless : Option ElfFault → ProgramImage → Result ProgramImage ElfFault
unless None made = Ok made
unless (Some fault) made = Err fault

-- the image of a file, or its first fault
unfoldable pub image : List ℕ → Result ProgramImage ElfFault
image bytes = unless (first_fault (checks bytes)) (image_of bytes)

-- a refusal tells the fault of the file, or that memory ran out
abbrev pub IsRefusal : Result ProgramImage ElfFault → LoadError → Type 0
IsRefusal defined (Fault fault) = defined ≡ Err fault
IsRefusal defined NoMemory = Unit {0}
