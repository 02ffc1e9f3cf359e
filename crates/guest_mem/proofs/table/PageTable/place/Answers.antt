use Rattle.std.proofs.Common.{◌≡◌, Some, sym, ap, ◌∙◌}
use Rattle.std.specs.Arc.{arc_value}
use Rattle.elf_load.specs.Places.{page_numbers, place_of}
use Rattle.elf_load.specs.declared.shared.SharedPages.{SharedPages}
use Rattle.guest_mem.proofs.TableLemmas.{image_place}
use Rattle.guest_mem.proofs.table.PageTable.place.Goals as goal

pub returns-in-Some : goal.returns-in-Some
returns-in-Some c =
    let t = c.args.self.now in
    let found : place_of (page_numbers (arc_value t.pages.shared).pages.items) c.args.number ≡ Some c.in-Some.place =
    ap (λ (s : SharedPages). place_of (page_numbers s.pages.items) c.args.number) (sym c.deref.ensures) ∙ sym c.place_of.ensures ∙ c.in-Some.is in
    sym (image_place t c.args.number c.in-Some.place found)
