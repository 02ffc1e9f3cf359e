-- What an index of pages says.
use Rattle.std.specs.Prelude.{◌≡◌, ℕ, ◌^◌, ◌<◌, List, length, slice_index, Option, Some}
use Rattle.elf_load.specs.Places.{place_of}
use Rattle.elf_load.specs.inside.Tables.{place_kept, entry_place}
use Rattle.elf_load.specs.declared.index.PageIndex.{PageIndex}

-- the place that is kept for a page number
abbrev pub place_in : PageIndex → ℕ → Option ℕ
place_in index n = place_kept (slice_index index.places.items (entry_place index.root.items n))

-- the index finds the first page with each number
abbrev pub Finds : PageIndex → List ℕ → Type 0
Finds index ns = (n : ℕ) → n < 2 ^ 20 → place_in index n ≡ place_of ns n

-- each number stands once
abbrev pub StandOnce : List ℕ → Type 0
StandOnce ns = (i : ℕ) → i < length ns → place_of ns (slice_index ns i) ≡ Some i
