-- What the pages of a guest are, and how many more there is room for.
use Rattle.std.specs.Prelude.{ℕ, ◌*◌, ◌≤◌, ◌++◌, List, map, take, vec_capacity}
use Rattle.std.specs.Arc.{arc_value}
use Rattle.guest_mem.specs.declared.pages.Pages.{Pages}
use Rattle.guest_mem.specs.inside.Pages.{GuestPage}
use Rattle.guest_mem.specs.inside.Slots.{page_of, shared_bytes}
use Rattle.elf_load.specs.Room.{page_size}

-- the bytes of all slots, the shared ones first
abbrev pub all_bytes : Pages → List ℕ
all_bytes p = shared_bytes (arc_value p.shared) ++ p.bytes.items

-- the pages by place; entries past their count are of pages that were unmapped
abbrev pub shown : Pages → List GuestPage
shown p = take p.count (map (page_of (all_bytes p)) p.entries.items)

-- room for n pages in all
pub record HasRoom (p : Pages) (n : ℕ) : Type 0 where
  pub entries : n ≤ vec_capacity p.entries
  pub bytes : page_size * n ≤ vec_capacity p.bytes
