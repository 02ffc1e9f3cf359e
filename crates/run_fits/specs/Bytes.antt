-- texts and memories of bytes, which are numbers below 256
use Rattle.std.specs.Prelude.{◌≡◌, ℕ, List, Some}
use Rattle.std.specs.FinMap as map
use Rattle.std.specs.List.{AllByRecursion}
use Rattle.elf_load.specs.Cells.{Cell, Cells}
use Rattle.guest_mem.specs.Memory.{Memory}
use Rattle.pcap_text.specs.Laws.{IsByte}

abbrev pub AreBytes : List ℕ → Type 0
AreBytes bytes = AllByRecursion IsByte bytes

abbrev pub AreTexts : List (List ℕ) → Type 0
AreTexts texts = AllByRecursion AreBytes texts

-- what stands in each cell, and so at each address of a memory
abbrev pub CellsHaveBytes : Cells → Type 0
CellsHaveBytes cells = (a : ℕ) (cell : Cell) → map.get cells a ≡ Some cell → IsByte cell.byte

abbrev pub HasBytes : Memory → Type 0
HasBytes memory = CellsHaveBytes memory.cells
