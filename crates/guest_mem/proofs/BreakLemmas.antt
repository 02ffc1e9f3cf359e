-- The memory that a guest starts with, and the memory after the break moves.
use Rattle.std.proofs.Common.{◌≡◌, ℕ, ◌+◌, ◌-◌, ◌*◌, ◌<◌, ◌≤◌, inl, Bool, true, cond, List, ◌++◌, map, All, None, refl, sym, ap, ◌∙◌, arith}
use Rattle.std.proofs.lemmas.Bool.{le-leb}
use Rattle.elf_load.specs.Cells.{Cells, cells_of}
use Rattle.elf_load.specs.ProgramImage.{ProgramImage}
use Rattle.elf_load.specs.declared.page.Page.{Page}
use Rattle.elf_load.specs.declared.shared.SharedPages.{SharedPages}
use Rattle.elf_load.specs.Places.{page_numbers, place_of}
use Rattle.elf_load.specs.Room.{page_size, room_end}
use Rattle.elf_load.proofs.Places.{place_of_append_nowhere, place_of_range_out}
use Rattle.guest_mem.specs.Memory.{Memory}
use Rattle.guest_mem.specs.Break.{with_zeros, without, pages_to, pages_end, pages_with, may_break, moved, grown, room_pages, max_pages}
use Rattle.guest_mem.specs.Opening.{stack_base, stack_pages, opening}
use Rattle.guest_mem.specs.inside.Pages.{GuestPage, of_image, zero_pages, mapped_cells, numbers}
use Rattle.guest_mem.specs.inside.Slots.{fixed_numbers, stack_first}
use Rattle.guest_mem.proofs.HeapLemmas.{with_zeros_none, without_none, cells_grown, zero_pages_are, below_start, cells_of_image, numbers_append, numbers_of_image}

same_memory : (c d : Cells) (s t b e p q : ℕ) → c ≡ d → s ≡ t → b ≡ e → p ≡ q → ◌≡◌ {A = Memory} (record { cells = c; start = s; break = b; pages = p }) (record { cells = d; start = t; break = e; pages = q })
same_memory c d s t b e p q h i j k = cc

-- the numbers of an image's pages and of the stack's
pub numbers_at_start : (shared : SharedPages) (now : List GuestPage) → now ≡ map of_image shared.pages.items ++ zero_pages stack_first stack_pages → numbers now ≡ fixed_numbers shared
numbers_at_start shared now is =
    ap numbers is ∙ numbers_append (map of_image shared.pages.items) (zero_pages stack_first stack_pages)
    ∙ ap (λ (ns : List ℕ). ns ++ numbers (zero_pages stack_first stack_pages)) (numbers_of_image shared.pages.items)
    ∙ ap (λ (ns : List ℕ). page_numbers shared.pages.items ++ ns) (zero_pages_are stack_first stack_pages).numbered

-- no page of an image and of the stack lies where the heap grows
pub apart_at_start : (image : List Page) (now : List GuestPage) (start first count n : ℕ) → now ≡ map of_image image ++ zero_pages first count → All (λ p. page_size * p.number + page_size ≤ start) image
    → start ≤ page_size * n → n < first → place_of (numbers now) n ≡ None
apart_at_start image now start first count n is low above below =
    ap (λ (ps : List GuestPage). place_of (numbers ps) n) is ∙ ap (λ (ns : List ℕ). place_of ns n) (numbers_append (map of_image image) (zero_pages first count))
    ∙ place_of_append_nowhere (numbers (map of_image image)) (numbers (zero_pages first count)) n
    (below_start image start n low above)
    (ap (λ (ns : List ℕ). place_of ns n) (zero_pages_are first count).numbered ∙ place_of_range_out first count n (inl below))

pub cells_at_start : (image : List Page) (start first count : ℕ) → All (λ p. page_size * p.number + page_size ≤ start) image
    → start ≤ page_size * first → mapped_cells (map of_image image ++ zero_pages first count) ≡ with_zeros (cells_of image) (page_size * first) (page_size * count)
cells_at_start image start first count low above =
    cells_grown (map of_image image) (zero_pages first count) first count (zero_pages_are first count) (λ n past within. below_start image start n low (omega arith))
    ∙ ap (λ (c : Cells). with_zeros c (page_size * first) (page_size * count)) (cells_of_image image)

pub opening_is : (image : ProgramImage) (cells : Cells) (start pages : ℕ) → cells ≡ with_zeros image.cells stack_base (page_size * stack_pages) → start ≡ image.start → pages ≡ image.pages + stack_pages → record { cells = cells; start = start; break = start; pages = pages } ≡ opening image
unfolding opening
opening_is image cells start pages c s p = same_memory _ _ _ _ _ _ _ _ c s s p

may : (m : Memory) (to : ℕ) → m.start ≤ to → pages_to to ≤ room_pages → pages_with m to ≤ max_pages → may_break m to ≡ true
may m to above low few = rw (le-leb m.start to above, le-leb (pages_end to) room_end (omega arith), le-leb (pages_with m to) max_pages few) refl

grown_moved : (m : Memory) (to : ℕ) → may_break m to ≡ true → grown m to ≡ moved m to
grown_moved m to is = ap (λ (b : Bool). cond b (moved m to) m) is

-- the break falls, or stays in its page
pub moved_down : (m : Memory) (to pages : ℕ) (cells : Cells) → m.start ≤ to → pages_to to ≤ room_pages → pages_with m to ≤ max_pages → pages_to to ≤ pages_to m.break → cells ≡ without m.cells (page_size * pages_to to) (page_size * pages_to m.break) → pages ≡ pages_with m to
    → record { cells = cells; start = m.start; break = to; pages = pages } ≡ grown m to
moved_down m to pages cells above low few falls is counted =
    let none : pages_end to - pages_end m.break ≡ 0 = omega arith in
    let left : Cells = without m.cells (pages_end to) (pages_end m.break) in
    same_memory _ _ _ _ _ _ _ _ (is ∙ sym (with_zeros_none left (pages_end m.break)) ∙ ap (with_zeros left (pages_end m.break)) (sym none)) refl refl counted ∙ sym (grown_moved m to (may m to above low few))

-- the break rises
pub moved_up : (m : Memory) (to pages : ℕ) (cells : Cells) → m.start ≤ to → pages_to to ≤ room_pages → pages_with m to ≤ max_pages → pages_to m.break ≤ pages_to to → cells ≡ with_zeros m.cells (page_size * pages_to m.break) (page_size * (pages_to to - pages_to m.break)) → pages ≡ pages_with m to
    → record { cells = cells; start = m.start; break = to; pages = pages } ≡ grown m to
moved_up m to pages cells above low few rises is counted =
    let long : page_size * (pages_to to - pages_to m.break) ≡ pages_end to - pages_end m.break = omega arith in
    let kept : m.cells ≡ without m.cells (pages_end to) (pages_end m.break) = sym (without_none m.cells (pages_end to) (pages_end m.break) (omega arith)) in
    same_memory _ _ _ _ _ _ _ _ (is ∙ ap (λ (n : ℕ). with_zeros m.cells (pages_end m.break) n) long ∙ ap (λ (c : Cells). with_zeros c (pages_end m.break) (pages_end to - pages_end m.break)) kept) refl refl counted
    ∙ sym (grown_moved m to (may m to above low few))
