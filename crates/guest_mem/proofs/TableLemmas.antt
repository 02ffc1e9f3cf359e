-- Where a table finds the pages that stay mapped.
use Rattle.std.proofs.Common.{◌≡◌, ℕ, ◌+◌, length, Some, ap, ◌∙◌}
use Rattle.std.proofs.lemmas.List.{length-append}
use Rattle.std.proofs.lemmas.List.FromFn.{length-range_with_len}
use Rattle.std.specs.Arc.{arc_value}
use Rattle.std.specs.List.{range_with_len}
use Rattle.elf_load.specs.Places.{page_numbers, place_of}
use Rattle.elf_load.specs.declared.shared.SharedPages.{SharedPages}
use Rattle.elf_load.proofs.Places.{place_of_append_some}
use Rattle.guest_mem.specs.declared.table.PageTable.{PageTable}
use Rattle.guest_mem.specs.Opening.{stack_pages}
use Rattle.guest_mem.specs.inside.PageStore.{shown}
use Rattle.guest_mem.specs.inside.Pages.{numbers}
use Rattle.guest_mem.specs.inside.Slots.{fixed_numbers, stack_first}
use Rattle.guest_mem.proofs.PageLemmas.{place_of_fixed}

pub length_fixed : (s : SharedPages) → length (fixed_numbers s) ≡ length (page_numbers s.pages.items) + stack_pages
length_fixed s = length-append (page_numbers s.pages.items) (range_with_len stack_first stack_pages) ∙ ap (λ (n : ℕ). length (page_numbers s.pages.items) + n) (length-range_with_len stack_first stack_pages)

-- a page of the image
pub image_place : (t : PageTable) (n i : ℕ) → place_of (page_numbers (arc_value t.pages.shared).pages.items) n ≡ Some i → place_of (numbers (shown t.pages)) n ≡ Some i
image_place t n i is =
    let s : SharedPages = arc_value t.pages.shared in
    place_of_fixed (fixed_numbers s) (numbers (shown t.pages)) t.heap t.sound n i (place_of_append_some (page_numbers s.pages.items) (range_with_len stack_first stack_pages) n i is)
