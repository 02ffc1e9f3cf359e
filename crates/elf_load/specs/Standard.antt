-- Numbers of the ELF standard, by the standard's names
-- (System V gABI, chapter 4, "ELF Header", and chapter 5, "Program Header"; of RISC-V, RISC-V ELF psABI, "File Header").
use Rattle.std.specs.Prelude.{ℕ, ◌∷◌, List, codes}

-- e_ident[EI_MAG0] to e_ident[EI_MAG3]
abbrev pub magic : List ℕ
magic = 0x7F ∷ codes "ELF"

-- e_ident[EI_CLASS]: a file of 32 bits
abbrev pub elfclass32 : ℕ
elfclass32 = 1

-- e_ident[EI_DATA]: numbers are little-endian
abbrev pub elfdata2lsb : ℕ
elfdata2lsb = 1

-- e_ident[EI_VERSION] and e_version
abbrev pub ev_current : ℕ
ev_current = 1

-- e_type: an executable
abbrev pub et_exec : ℕ
et_exec = 2

-- e_machine: RISC-V
abbrev pub em_riscv : ℕ
em_riscv = 243

-- e_flags of RISC-V: compressed instructions, the two bits of how floats are passed, and the set of 16 registers
abbrev pub ef_riscv_rvc : ℕ
ef_riscv_rvc = 0x1

abbrev pub ef_riscv_float_abi : ℕ
ef_riscv_float_abi = 0x6

abbrev pub ef_riscv_rve : ℕ
ef_riscv_rve = 0x8

-- the bytes of an ELF header (Elf32_Ehdr) and of a program header (Elf32_Phdr)
abbrev pub elf_header_size : ℕ
elf_header_size = 52

abbrev pub program_header_size : ℕ
program_header_size = 32

-- p_type: a segment to load, what a dynamic linker reads, and the path of an interpreter
abbrev pub pt_load : ℕ
pt_load = 1

abbrev pub pt_dynamic : ℕ
pt_dynamic = 2

abbrev pub pt_interp : ℕ
pt_interp = 3

-- the bits of p_flags: what may be executed, written and read
abbrev pub pf_x : ℕ
pf_x = 1

abbrev pub pf_w : ℕ
pf_w = 2

abbrev pub pf_r : ℕ
pf_r = 4
