use Rattle.std.proofs.Common.{◌≡◌, ◌+◌, ◌-◌, ◌<◌, length, sym, ap, ◌∙◌, arith}
use Rattle.elf_load.specs.declared.page.Page.{Page}
use Rattle.elf_load.specs.declared.shared.SharedPages.{SharedPages}
use Rattle.guest_mem.specs.inside.Slots.{shared_bytes, slot_bytes}
use Rattle.guest_mem.proofs.SlotLemmas.{slot_of_zeros, slot_of_page}
use Rattle.guest_mem.proofs.pages.shared_slot.Goals as goal

pub returns-then-slot-eq0 : goal.returns-then-slot-eq0
returns-then-slot-eq0 c =
    let s : SharedPages = c.args.shared.now in
    c.deref.ensures.value ∙ sym (slot_of_zeros s) ∙ ap (slot_bytes (shared_bytes s)) (sym c.if-slot-eq0.true)

pub returns-else-slot-eq0 : goal.returns-else-slot-eq0
returns-else-slot-eq0 c =
    let s : SharedPages = c.args.shared.now in
    let page : Page = c.index.result.now in
    let within : c.args.slot - 1 < length s.pages.items = omega (arith, c.requires, c.if-slot-eq0.false, s.pages.ok.0) in
    c.deref-else-slot-eq0.ensures.value ∙ ap (λ (p : Page). p.bytes.items) c.index.ensures ∙ sym (slot_of_page s (c.args.slot - 1) page within)
    ∙ ap (slot_bytes (shared_bytes s)) (let e : c.args.slot - 1 + 1 ≡ c.args.slot = omega (arith, c.if-slot-eq0.false) in e)
