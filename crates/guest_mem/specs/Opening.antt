-- The memory that a guest starts with.
use Rattle.std.specs.Prelude.{◌≡◌, ℕ, ◌+◌, ◌*◌, refl}
use Rattle.elf_load.specs.ProgramImage.{ProgramImage}
use Rattle.elf_load.specs.Room.{page_size, max_program_pages}
use Rattle.guest_mem.specs.Memory.{Memory}
use Rattle.guest_mem.specs.Break.{with_zeros, max_pages}

-- the stack: its pages, where it begins and where it ends
abbrev pub stack_pages : ℕ
stack_pages = 256

abbrev pub stack_base : ℕ
stack_base = 0xBFF00000

abbrev pub stack_end : ℕ
stack_end = 0xC0000000

stack_fills : stack_base + page_size * stack_pages ≡ stack_end
stack_fills = refl

-- the most pages of a program leave room for those of the stack
max_program_pages_fill : max_program_pages + stack_pages ≡ max_pages
max_program_pages_fill = refl

-- the image's cells, and the stack; the break stands where the heap begins
unfoldable pub opening : ProgramImage → Memory
opening image = record { cells = with_zeros image.cells stack_base (page_size * stack_pages); start = image.start; break = image.start; pages = image.pages + stack_pages }
