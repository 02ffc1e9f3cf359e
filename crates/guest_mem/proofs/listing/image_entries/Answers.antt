use Rattle.std.proofs.Common.{◌≡◌, ℕ, List, length, get_or, refl, ap, ◌∙◌, arith, ◌<◌}
use Rattle.std.proofs.lemmas.List.{length-map}
use Rattle.std.proofs.lemmas.List.FromFn.{length-range_with_len}
use Rattle.elf_load.specs.declared.page.Page.{Page}
use Rattle.elf_load.specs.declared.shared.SharedPages.{SharedPages}
use Rattle.guest_mem.specs.declared.entry.Entry.{Entry}
use Rattle.guest_mem.proofs.SlotLemmas.{listed, listed_slots}
use Rattle.guest_mem.proofs.listing.image_entries.Goals as goal

pub loop-page-preserved : goal.loop-page-preserved
loop-page-preserved c =
    let s : SharedPages = c.args.shared.now in
    let i : ℕ = c.loop-page.page-index in
    let es : List Entry = c.loop-page.entries.items in
    let at : c.len-place.result ≡ i = omega (arith, c.len-place.ensures, c.loop-page.entries.ok.0, ap (λ (ss : List ℕ). length ss) c.loop-page.invariant.slots, length-range_with_len 1 i, length-map es (λ (e : Entry). e.slot)) in
    let items : c.deref-page-items.result.now ≡ s.pages.items = c.deref-page-items.ensures.value in
    let l : i < length s.pages.items = omega (arith, c.loop-page-test.true, ap (λ (ps : List Page). length ps) items) in
    record {
      pages = listed s es c.push_reserved.new.self.items _ i c.len-place.result c.page-item.result c.push_reserved.ensures.items l (c.page-item.is ∙ ap (λ (ps : List Page). get_or ps i c.page-item.result) items) refl refl refl at c.loop-page.invariant.pages;
      slots = listed_slots es c.push_reserved.new.self.items _ i c.len-place.result c.push_reserved.ensures.items refl at c.loop-page.invariant.slots;
      room = omega (arith, c.loop-page.invariant.room, c.push_reserved.ensures.capacity);
    }
