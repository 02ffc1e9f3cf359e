-- An ELF32 file as it is written, for RISC-V
-- (System V gABI, chapter 4, "ELF Header", and chapter 5, "Program Header"; numbers are little-endian).
use Rattle.std.specs.Prelude.{ℕ, ◌%◌, ◌^◌, List, [], ◌∷◌, ◌++◌, length, flat_map, replicate}
use Rattle.std.specs.Int.{w16, w32, to_le_bytes}
use Rattle.elf_load.specs.declared.program_header.ProgramHeader.{ProgramHeader}
use Rattle.elf_load.specs.Room.{page_size}
use Rattle.elf_load.specs.Standard.{magic, elfclass32, elfdata2lsb, ev_current, et_exec, em_riscv, elf_header_size, program_header_size}

-- numbers of two bytes each (Elf32_Half)
abbrev pub halves : List ℕ → List ℕ
halves ns = flat_map (to_le_bytes w16) ns

-- numbers of four bytes each (Elf32_Word, Elf32_Off, Elf32_Addr)
abbrev pub words : List ℕ → List ℕ
words ns = flat_map (to_le_bytes w32) ns

-- e_ident: the magic number, the class, the data encoding, the version, and nine zeros
abbrev pub identity : List ℕ
identity = magic ++ (elfclass32 ∷ elfdata2lsb ∷ ev_current ∷ replicate 9 0)

-- the ELF header, by its entry and the number of program headers:
-- e_ident; e_type, e_machine; e_version, e_entry, e_phoff, e_shoff, e_flags;
-- e_ehsize, e_phentsize, e_phnum, and of sections e_shentsize, e_shnum, e_shstrndx
abbrev pub elf_header : ℕ → ℕ → List ℕ
elf_header entry count =
    identity
    ++ (halves (et_exec ∷ em_riscv ∷ [])
    ++ (words (ev_current ∷ entry ∷ elf_header_size ∷ 0 ∷ 0 ∷ [])
    ++ halves (elf_header_size ∷ program_header_size ∷ count ∷ 0 ∷ 0 ∷ 0 ∷ [])))

-- a program header: p_type, p_offset, p_vaddr, p_paddr, p_filesz, p_memsz, p_flags, p_align
abbrev pub program_header : ProgramHeader → List ℕ
program_header h = words (h.kind ∷ h.offset ∷ h.address ∷ 0 ∷ h.file_size ∷ h.memory_size ∷ h.flags ∷ page_size ∷ [])

-- the ELF header, the program headers, and the bytes behind them
unfoldable pub executable : ℕ → List ProgramHeader → List ℕ → List ℕ
executable entry headers behind = elf_header entry (length headers % 2 ^ 16) ++ (flat_map program_header headers ++ behind)
