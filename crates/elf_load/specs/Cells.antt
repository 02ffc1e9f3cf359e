-- What a guest's memory holds: a finite map from addresses to cells, and the map that a list of pages stands for.
use Rattle.std.specs.Prelude.{ℕ, ◌+◌, ◌*◌, List, [], ◌∷◌, flat_map}
use Rattle.std.specs.Ordering.{nat_cmp}
use Rattle.std.specs.FinMap.{FinMap, from_entries}
use Rattle.elf_load.specs.declared.rights.Rights.{Rights}
use Rattle.elf_load.specs.declared.page.Page.{Page}
use Rattle.elf_load.specs.Room.{page_size}

-- what stands at an address: a byte, and what may be done with it
pub record Cell : Type 0 where
  pub byte : ℕ
  pub rights : Rights

-- cells by address
abbrev pub Cells : Type 0
Cells = FinMap nat_cmp Cell

-- bytes that stand one after another from an address on, each with the same rights
abbrev pub cells_from : Rights → ℕ → List ℕ → List (ℕ × Cell)
cells_from rights at [] = []
cells_from rights at (b ∷ bs) = (at, record { byte = b; rights = rights }) ∷ cells_from rights (at + 1) bs

-- the addresses of a page with their cells
abbrev pub cells_of_page : Page → List (ℕ × Cell)
cells_of_page p = cells_from p.rights (page_size * p.number) p.bytes.items

-- the cells of all pages; where two pages have an address, the first decides
unfoldable pub cells_of : List Page → Cells
cells_of pages = from_entries (flat_map cells_of_page pages)
