use Rattle.std.proofs.Common.{◌≡◌, ◌+◌, ◌*◌, ◌≤◌, ℕ, List, ◌++◌, ap, sym, ◌∙◌, arith}
use Rattle.std.specs.Arc.{arc_value}
use Rattle.elf_load.specs.Cells.{Cells}
use Rattle.elf_load.specs.declared.page.Page.{Page}
use Rattle.elf_load.specs.declared.shared.SharedPages.{SharedPages}
use Rattle.elf_load.specs.Places.{page_numbers, place_of}
use Rattle.elf_load.specs.Room.{page_size}
use Rattle.guest_mem.specs.Break.{with_zeros}
use Rattle.guest_mem.specs.Opening.{stack_base, stack_pages}
use Rattle.guest_mem.specs.inside.PageStore.{shown}
use Rattle.guest_mem.specs.inside.Pages.{zero_pages, mapped_cells}
use Rattle.guest_mem.specs.inside.Slots.{fixed_numbers}
use Rattle.guest_mem.proofs.BreakLemmas.{numbers_at_start, apart_at_start, cells_at_start, opening_is}
use Rattle.guest_mem.proofs.HeapLemmas.{below_start, numbers_of_image}
use Rattle.guest_mem.proofs.mem.Mem.from_image.Goals as goal

pub new-requires-clause-listed : goal.new-requires-clause-listed
new-requires-clause-listed c =
    numbers_at_start (arc_value c.in_ok-shared.shared) (shown c.push_zeros.new.self) (c.push_zeros.ensures.pushed ∙ ap (λ ps. ps ++ zero_pages 0xBFF00 stack_pages) c.in_ok-pages.ensures.pages)
    ∙ ap fixed_numbers (sym (c.push_zeros.ensures.shared ∙ c.in_ok-pages.ensures.shared))

pub new-requires-clause-apart : goal.new-requires-clause-apart
new-requires-clause-apart c = λ n above below.
    apart_at_start (arc_value c.in_ok-shared.shared).pages.items (shown c.push_zeros.new.self) c.args.image.now.start 0xBFF00 stack_pages n
    (c.push_zeros.ensures.pushed ∙ ap (λ ps. ps ++ zero_pages 0xBFF00 stack_pages) c.in_ok-pages.ensures.pages) c.in_ok-shared.ensures.below_start
    (omega (arith, c.pages_to.ensures, c.start-start.ensures.value)) (omega arith)

pub new-requires-clause-low : goal.new-requires-clause-low
new-requires-clause-low c = λ n above.
    let s : SharedPages = arc_value c.in_ok-shared.shared in
    ap (λ (t : SharedPages). place_of (page_numbers t.pages.items) n) (c.push_zeros.ensures.shared ∙ c.in_ok-pages.ensures.shared)
    ∙ ap (λ (ns : List ℕ). place_of ns n) (sym (numbers_of_image s.pages.items))
    ∙ below_start s.pages.items c.args.image.now.start n c.in_ok-shared.ensures.below_start (omega (arith, above, c.pages_to.ensures, c.start-start.ensures.value))

pub returns : goal.returns
returns c =
    let image = c.args.image.now in
    let ps : List Page = (arc_value c.in_ok-shared.shared).pages.items in
    let low : c.args.image.now.start ≤ page_size * 0xBFF00 = omega (arith, c.start-start.ensures.value, c.start-start.ensures.in_range) in
    let cells : mapped_cells (shown c.new.result.pages) ≡ with_zeros image.cells stack_base (page_size * stack_pages) =
    ap mapped_cells (c.new.ensures.pages ∙ c.push_zeros.ensures.pushed ∙ ap (λ ps. ps ++ zero_pages 0xBFF00 stack_pages) c.in_ok-pages.ensures.pages)
    ∙ cells_at_start ps c.args.image.now.start 0xBFF00 stack_pages c.in_ok-shared.ensures.below_start low
    ∙ ap (λ (c : Cells). with_zeros c stack_base (page_size * stack_pages)) c.in_ok-shared.ensures.cells in
    let count : c.new.result.pages.count ≡ c.args.image.now.pages + stack_pages =
    omega (arith, c.new.ensures.count, c.push_zeros.ensures.count, c.in_ok-pages.ensures.count, c.in_ok-shared.ensures.count) in
    opening_is image (mapped_cells (shown c.new.result.pages)) c.start-start.result c.new.result.pages.count cells c.start-start.ensures.value count
