-- The pages of memory, and the room that a program has in it (this project's own profile).
use Rattle.std.specs.Prelude.{ℕ}

-- the bytes of a page: page n begins at address page_size * n
abbrev pub page_size : ℕ
page_size = 4096

-- a program and its heap end here or below; the room for the stack is above
abbrev pub room_end : ℕ
room_end = 0xBF000000

-- the most pages that a program's segments may touch
abbrev pub max_program_pages : ℕ
max_program_pages = 3840

-- the most program headers of a file
abbrev pub max_program_headers : ℕ
max_program_headers = 64

-- the bytes of an instruction, which stands at a multiple of them (RISC-V Unprivileged ISA, IALIGN = 32)
abbrev pub instruction_size : ℕ
instruction_size = 4
