-- The break of a guest, which the call brk moves, and the heap below it.
use Rattle.std.specs.Prelude.{ℕ, zero, suc, ◌+◌, ◌-◌, ◌*◌, ◌/◌, Bool, true, false, ◌&&◌, not, nat_le, nat_lt, if◌then◌else◌}
use Rattle.std.specs.FinMap as map
use Rattle.elf_load.specs.Cells.{Cell, Cells}
use Rattle.elf_load.specs.Room.{page_size, room_end}
use Rattle.guest_mem.specs.Memory.{Memory}

-- a new byte of the heap or of the stack: 0, with the rights R and W
abbrev pub zero_cell : Cell
zero_cell = record { byte = 0; rights = record { read = true; write = true; execute = false } }

-- the cells with such a byte at each of n addresses from `from` on
unfoldable pub with_zeros : Cells → ℕ → ℕ → Cells
with_zeros cells from zero = cells
with_zeros cells from (suc n) = map.insert (with_zeros cells from n) (from + n) zero_cell

-- the cells without those from `from` on and below `to`
abbrev pub without : Cells → ℕ → ℕ → Cells
without cells from to = map.retain_keys cells (λ a. not (nat_le from a && nat_lt a to))

-- the pages that lie below an address, the last one perhaps in part, and where they end
abbrev pub pages_to : ℕ → ℕ
pages_to a = (a + (page_size - 1)) / page_size

abbrev pub pages_end : ℕ → ℕ
pages_end a = page_size * pages_to a

-- the pages below the end of the room for a program and its heap
abbrev pub room_pages : ℕ
room_pages = room_end / page_size

-- the most pages that are mapped
abbrev pub max_pages : ℕ
max_pages = 4096

-- how many pages are mapped with the break at `to`
abbrev pub pages_with : Memory → ℕ → ℕ
pages_with m to = m.pages + pages_to to - pages_to m.break

-- whether the break may stand at `to`: not below the start of the heap, whose pages end within the room for them,
-- and with at most max_pages pages mapped
abbrev pub may_break : Memory → ℕ → Bool
may_break m to = nat_le m.start to && nat_le (pages_end to) room_end && nat_le (pages_with m to) max_pages

-- the memory with the break at `to`: pages that the break leaves are unmapped, pages that it reaches are mapped and 0
abbrev pub moved : Memory → ℕ → Memory
moved m to =
    record m { cells = with_zeros (without m.cells (pages_end to) (pages_end m.break)) (pages_end m.break) (pages_end to - pages_end m.break); break = to; pages = pages_with m to }

-- the memory after brk of `to`: a break that may not stand changes nothing
abbrev pub grown : Memory → ℕ → Memory
grown m to = if may_break m to then moved m to else m
