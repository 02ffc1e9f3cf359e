use Rattle.std.proofs.Common.{◌≡◌, Some, sym, ap, ◌∙◌}
use Rattle.std.specs.Arc.{arc_value}
use Rattle.elf_load.specs.Places.{page_numbers, place_of}
use Rattle.elf_load.specs.declared.shared.SharedPages.{SharedPages}
use Rattle.guest_mem.proofs.TableLemmas.{image_place}
use Rattle.guest_mem.proofs.table.PageTable.hinted_place.Goals as goal

pub returns-then-is_at : goal.returns-then-is_at
returns-then-is_at c =
    let t = c.args.self.now in
    let found : place_of (page_numbers (arc_value t.pages.shared).pages.items) c.args.number ≡ Some c.args.hint.now.place =
    ap (λ (s : SharedPages). place_of (page_numbers s.pages.items) c.args.number) (sym c.deref.ensures) ∙ c.is_at.ensures.0 c.if-is_at.true in
    sym (image_place t c.args.number c.args.hint.now.place found)
