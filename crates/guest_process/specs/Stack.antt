-- Where a guest may write.
use Rattle.std.specs.Prelude.{◌≡◌, ℕ, ◌<◌, ◌≤◌, true, Some}
use Rattle.std.specs.FinMap as map
use Rattle.elf_load.specs.Cells.{Cell}
use Rattle.guest_mem.specs.Memory.{Memory}

-- each address from `from` on and below `to` is mapped with the right to write
abbrev pub IsWritable : Memory → ℕ → ℕ → Type 0
IsWritable m from to = (q : ℕ) → from ≤ q → q < to → (cell : Cell) × (map.get m.cells q ≡ Some cell) × (cell.rights.write ≡ true)
