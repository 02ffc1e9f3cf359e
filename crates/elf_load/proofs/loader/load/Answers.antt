use Rattle.std.proofs.Common.{◌≡◌, ◌≤◌, ℕ, List, length, ap, sym, subst, ◌∙◌, arith, Ok, vec_len}
use Rattle.std.proofs.lemmas.Result.{err_from_is_err_and}
use Rattle.std.specs.Prelude.{Vec}
use Rattle.std.specs.declared.alloc.Global.{Global}
use Rattle.std.specs.FinSet.{len}
use Rattle.elf_load.specs.Cells.{cells_of}
use Rattle.elf_load.specs.declared.page.Page.{Page}
use Rattle.elf_load.specs.Pages.{highest_end, rounded_up}
use Rattle.elf_load.specs.inside.PageIndex.{StandOnce}
use Rattle.elf_load.proofs.Places.{stand_once}
use Rattle.elf_load.proofs.Loading.{fault_of_header, refusal_of_program_header, fault_of_entry, no_fault, made_image, length-numbers, pages_below}
use Rattle.elf_load.proofs.Touched.{highest_end_in_range, numbers_in_range, numbers_below_start}
use Rattle.elf_load.proofs.loader.load.Goals as goal
use Rattle.elf_load.specs.Room.{room_end}

pub returns-in_err-header-clause-refused : goal.returns-in_err-header-clause-refused
returns-in_err-header-clause-refused c =
    let p = err_from_is_err_and c.from_residual.result c.from_residual.ensures.1 in
    rw (p.1, p.2) (fault_of_header c.args.bytes.now _ c.in_err-header.ensures.fault)

pub returns-in_err-layout-clause-refused : goal.returns-in_err-layout-clause-refused
returns-in_err-layout-clause-refused c =
    let p = err_from_is_err_and c.from_residual-in_err-layout.result c.from_residual-in_err-layout.ensures.1 in
    rw (p.1, p.2) (refusal_of_program_header c.args.bytes.now c.in_ok-header.ensures.sound _ c.in_err-layout.ensures.refused)

pub returns-in_err-check_entry-clause-refused : goal.returns-in_err-check_entry-clause-refused
returns-in_err-check_entry-clause-refused c =
    let p = err_from_is_err_and c.from_residual-in_err-check_entry.result c.from_residual-in_err-check_entry.ensures.1 in
    rw (p.1, p.2)
    (fault_of_entry c.args.bytes.now c.in_ok-header.ensures.sound c.in_ok-layout.ensures.checked c.in_ok-header.header.entry c.deref.result.now
    (ap (λ h. h.entry) c.in_ok-header.ensures.header) (c.deref.ensures.value ∙ c.in_ok-layout.ensures.segments) _ c.in_err-check_entry.ensures.refused)

pub first_break-start-requires : goal.first_break-start-requires
first_break-start-requires c = rw c.deref-2.ensures.value (highest_end_in_range c.args.bytes.now c.in_ok-layout.layout.segments.items c.in_ok-layout.ensures.sound.placed)

pub make_pages-requires-clause-in_range : goal.make_pages-requires-clause-in_range
make_pages-requires-clause-in_range c =
    rw c.deref-4.ensures.value (numbers_in_range c.args.bytes.now c.in_ok-layout.layout.segments.items c.in_ok-layout.layout.pages.items c.in_ok-layout.ensures.sound.placed c.in_ok-layout.ensures.sound.pages)

pub share-requires-clause-few : goal.share-requires-clause-few
share-requires-clause-few c =
    let numbers = c.in_ok-pages.ensures.numbers ∙ c.deref-4.ensures.value in
    omega (arith, length-numbers c.in_ok-pages.pages.items c.in_ok-layout.layout.pages.items numbers, c.in_ok-layout.ensures.sound.few)

pub share-requires-clause-once : goal.share-requires-clause-once
share-requires-clause-once c =
    let listed = c.in_ok-layout.ensures.sound.pages in
    subst (λ (ns : List ℕ). StandOnce ns) (sym (c.in_ok-pages.ensures.numbers ∙ c.deref-4.ensures.value)) (stand_once c.in_ok-layout.layout.pages.items (listed.once ∙ ap len (sym listed.same)))

pub new-requires-clause-in_range : goal.new-requires-clause-in_range
new-requires-clause-in_range c =
    let bound : highest_end c.deref-2.result.now ≤ room_end =
    rw c.deref-2.ensures.value (highest_end_in_range c.args.bytes.now c.in_ok-layout.layout.segments.items c.in_ok-layout.ensures.sound.placed) in
    rw c.first_break-start.ensures (omega arith)

pub new-requires-clause-few : goal.new-requires-clause-few
new-requires-clause-few c =
    let numbers = c.in_ok-pages.ensures.numbers ∙ c.deref-4.ensures.value in
    omega (arith, ap (λ (ps : Vec Page Global). vec_len ps) c.in_ok-shared.ensures, length-numbers c.in_ok-pages.pages.items c.in_ok-layout.layout.pages.items numbers, c.in_ok-layout.ensures.sound.few)

pub new-requires-clause-below_start : goal.new-requires-clause-below_start
new-requires-clause-below_start c =
    rw (c.in_ok-shared.ensures, c.first_break-start.ensures, c.deref-2.ensures.value)
    (pages_below c.in_ok-pages.pages.items c.in_ok-layout.layout.pages.items (rounded_up (highest_end c.in_ok-layout.layout.segments.items))
    (c.in_ok-pages.ensures.numbers ∙ c.deref-4.ensures.value)
    (numbers_below_start c.args.bytes.now c.in_ok-layout.layout.segments.items c.in_ok-layout.layout.pages.items c.in_ok-layout.ensures.sound.placed c.in_ok-layout.ensures.sound.pages))

pub returns-clause-loaded : goal.returns-clause-loaded
returns-clause-loaded c =
    let entry_is = ap (λ h. h.entry) c.in_ok-header.ensures.header in
    let cells = rw (c.deref-3.ensures.value, c.deref-4.ensures.value) at c.in_ok-pages.ensures.cells in
    let numbers = c.in_ok-pages.ensures.numbers ∙ c.deref-4.ensures.value in
    let count : vec_len c.in_ok-pages.pages ≡ length c.in_ok-layout.layout.pages.items = omega (arith, length-numbers c.in_ok-pages.pages.items c.in_ok-layout.layout.pages.items numbers) in
    no_fault c.args.bytes.now c.in_ok-header.ensures.sound c.in_ok-layout.ensures.checked c.in_ok-header.header.entry c.deref.result.now
    entry_is (c.deref.ensures.value ∙ c.in_ok-layout.ensures.segments) c.in_ok-check_entry.ensures.sound
    ∙ ap Ok
    (made_image c.args.bytes.now c.in_ok-pages.pages.items c.in_ok-layout.layout.pages.items c.in_ok-layout.layout.segments.items c.in_ok-header.header.entry c.first_break-start.result (vec_len c.in_ok-pages.pages)
    c.in_ok-layout.ensures.segments c.in_ok-layout.ensures.sound.pages cells entry_is
    (c.first_break-start.ensures ∙ ap (λ ss. rounded_up (highest_end ss)) c.deref-2.ensures.value) count
    ∙ ap (λ (ps : Vec Page Global). record { cells = cells_of ps.items; entry = c.in_ok-header.header.entry; start = c.first_break-start.result; pages = vec_len ps }) (sym c.in_ok-shared.ensures)
    ∙ sym c.new.ensures)
