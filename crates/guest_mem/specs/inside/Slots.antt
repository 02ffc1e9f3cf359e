-- Which pages stay mapped, and where the bytes of pages stand: in slots of page_size bytes. The first of them are shared by all guests of an image: one
-- that is all zeros, and one for each page of the image. Those behind them are each one page's own.
use Rattle.std.specs.Prelude.{◌≡◌, ℕ, ◌+◌, ◌*◌, ◌/◌, ◌<◌, ◌≤◌, List, [], ◌∷◌, ◌++◌, map, flat_map, length, take, drop, slice_index, None, if◌then◌else◌, nat_lt}
use Rattle.std.specs.List.{range_with_len}
use Rattle.elf_load.specs.declared.shared.SharedPages.{SharedPages}
use Rattle.elf_load.specs.Places.{page_numbers, place_of}
use Rattle.elf_load.specs.Room.{page_size}
use Rattle.guest_mem.specs.declared.entry.Entry.{Entry}
use Rattle.guest_mem.specs.Break.{max_pages}
use Rattle.guest_mem.specs.Opening.{stack_base, stack_pages}
use Rattle.guest_mem.specs.inside.Pages.{GuestPage}

-- the number of the first page of the stack
abbrev pub stack_first : ℕ
stack_first = stack_base / page_size

-- the numbers of the pages that stay mapped: those of the image, and behind them those of the stack
abbrev pub fixed_numbers : SharedPages → List ℕ
fixed_numbers shared = page_numbers shared.pages.items ++ range_with_len stack_first stack_pages

-- the pages of an image have numbers below this one
abbrev pub AreBelow : SharedPages → ℕ → Type 0
AreBelow shared first = (n : ℕ) → first ≤ n → place_of (page_numbers shared.pages.items) n ≡ None

-- the bytes of the shared slots
unfoldable pub shared_bytes : SharedPages → List ℕ
shared_bytes shared = shared.zeros.items ++ flat_map (λ p. p.bytes.items) shared.pages.items

-- the bytes of a slot
unfoldable pub slot_bytes : List ℕ → ℕ → List ℕ
slot_bytes bytes slot = take page_size (drop (page_size * slot) bytes)

-- the page of an entry
abbrev pub page_of : List ℕ → Entry → GuestPage
page_of bytes e = record { number = e.number; rights = e.rights; bytes = slot_bytes bytes e.slot }

abbrev pub slots : List Entry → List ℕ
slots entries = map (λ e. e.slot) entries

-- how many entries have a slot of their own, which begin at `first`
abbrev pub taken : ℕ → List ℕ → ℕ
taken first [] = 0
taken first (s ∷ ss) = if nat_lt s first then taken first ss else taken first ss + 1

-- What is kept of slots and their bytes: entries that have an own slot have each its own, the bytes are those of the shared
-- slots and of those that are taken, and there is room for one more for each entry that has none.
pub record AreSlots (ss : List ℕ) (count first : ℕ) (bytes : List ℕ) (room : ℕ) : Type 0 where
  pub within : count ≤ length ss
  pub few : length ss ≤ max_pages
  pub few_shared : first ≤ max_pages
  pub zero : (o : ℕ) → o < page_size → slice_index bytes o ≡ 0
  pub some : 0 < first
  pub whole : length bytes ≡ page_size * (first + taken first ss)
  pub each_in : (i : ℕ) → i < length ss → slice_index ss i < first + taken first ss
  pub own : (i j : ℕ) → i < length ss → j < length ss → first ≤ slice_index ss i → slice_index ss i ≡ slice_index ss j → i ≡ j
  pub roomy : page_size * length ss ≤ room
