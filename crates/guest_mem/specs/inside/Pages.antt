-- How a list of pages stands for cells, and what is found in it.
use Rattle.std.specs.Prelude.{◌≡◌, ℕ, zero, suc, ◌+◌, ◌-◌, ◌*◌, ◌<◌, ◌≤◌, ◌⊎◌, List, [], ◌∷◌, ◌++◌, map, length, flat_map, replicate, slice_index, slice_index_or, None}
use Rattle.std.specs.List.{range_with_len}
use Rattle.std.specs.FinMap.{from_entries}
use Rattle.elf_load.specs.Cells.{Cell, Cells}
use Rattle.elf_load.specs.declared.page.Page.{Page}
use Rattle.elf_load.specs.declared.rights.Rights.{Rights}
use Rattle.elf_load.specs.Places.{place_of}
use Rattle.elf_load.specs.Room.{page_size}
use Rattle.guest_mem.specs.Break.{zero_cell, pages_to, room_pages, max_pages}

-- a page: its number, its rights and its bytes
pub record GuestPage : Type 0 where
  pub number : ℕ
  pub rights : Rights
  pub bytes : List ℕ

-- a page of an image
abbrev pub of_image : Page → GuestPage
of_image p = record { number = p.number; rights = p.rights; bytes = p.bytes.items }

-- n bytes, all 0
unfoldable pub zeros : ℕ → List ℕ
zeros n = replicate n 0

-- a page with this number and these rights whose bytes are all 0
abbrev pub zero_page : Rights → ℕ → GuestPage
zero_page rights number = record { number = number; rights = rights; bytes = zeros page_size }

-- new pages of the heap or of the stack, with numbers from `first` on
abbrev pub zero_pages : ℕ → ℕ → List GuestPage
zero_pages first count = map (zero_page zero_cell.rights) (range_with_len first count)

abbrev pub numbers : List GuestPage → List ℕ
numbers pages = map (λ p. p.number) pages

-- the cell of a page at an offset
abbrev pub cell_in : GuestPage → ℕ → Cell
cell_in p o = record { byte = slice_index p.bytes o; rights = p.rights }

-- the n cells of a page from an offset on, with their addresses
unfoldable pub cells_within : GuestPage → ℕ → ℕ → List (ℕ × Cell)
cells_within p o zero = []
cells_within p o (suc n) = (page_size * p.number + o, cell_in p o) ∷ cells_within p (o + 1) n

-- the cells of all pages; where two pages have an address, the first decides
unfoldable pub mapped_cells : List GuestPage → Cells
mapped_cells pages = from_entries (flat_map (λ p. cells_within p 0 page_size) pages)

-- such pages, by what is read of them
pub record AreZeroPages (pages : List GuestPage) (first count : ℕ) : Type 0 where
  pub numbered : numbers pages ≡ range_with_len first count
  pub zero : (k o : ℕ) (d : GuestPage) → k < count → o < page_size → cell_in (slice_index_or pages k d) o ≡ zero_cell

-- What a table of pages keeps: behind the numbers of the pages that stay stand those of the heap, which rise from `heap` on and
-- are no other page's.
pub record IsPageTable (front ns : List ℕ) (heap : ℕ) : Type 0 where
  pub listed : ns ≡ front ++ range_with_len heap (length ns - length front)
  pub apart : (n : ℕ) → heap ≤ n → n < room_pages → place_of front n ≡ None
  pub bounded : heap + (length ns - length front) ≤ room_pages

-- a page with other bytes from an offset on
pub record Rewrites (old new : GuestPage) (o : ℕ) (bytes : List ℕ) : Type 0 where
  pub number : new.number ≡ old.number
  pub rights : new.rights ≡ old.rights
  pub long : length new.bytes ≡ length old.bytes
  pub fits : o + length bytes ≤ page_size
  pub inside : (k : ℕ) → k < length bytes → slice_index new.bytes (o + k) ≡ slice_index bytes k
  pub outside : (k : ℕ) → (k < o) ⊎ (o + length bytes ≤ k) → slice_index new.bytes k ≡ slice_index old.bytes k

-- pages of which the one at a place is rewritten so
pub record IsRewritten (old new : List GuestPage) (place o : ℕ) (bytes : List ℕ) : Type 0 where
  pub count : length new ≡ length old
  pub others : (k : ℕ) (d : GuestPage) → (k < place) ⊎ (place < k) → slice_index_or new k d ≡ slice_index_or old k d
  pub here : (d : GuestPage) → Rewrites (slice_index_or old place d) (slice_index_or new place d) o bytes

-- how a table's pages are those that a memory counts: the heap's reach from its start to the break
pub record IsLaidOut (count fixed heap start break : ℕ) : Type 0 where
  pub begins : heap ≡ pages_to start
  pub ordered : start ≤ break
  pub counted : count ≡ fixed + (pages_to break - heap)
  pub low : pages_to break ≤ room_pages
  pub few : count ≤ max_pages
