use Rattle.std.proofs.Common.{◌≡◌, ℕ, ◌+◌, ◌-◌, ◌*◌, ◌<◌, ◌≤◌, List, length, get_or, take, drop, sym, ap, ◌∙◌, arith}
use Rattle.std.specs.Arc.{arc_value}
use Rattle.elf_load.specs.declared.shared.SharedPages.{SharedPages}
use Rattle.guest_mem.specs.declared.entry.Entry.{Entry}
use Rattle.guest_mem.specs.declared.pages.Pages.{Pages}
use Rattle.guest_mem.specs.inside.PageStore.{all_bytes, shown}
use Rattle.guest_mem.specs.inside.Pages.{GuestPage}
use Rattle.guest_mem.specs.inside.Slots.{shared_bytes, slot_bytes, slots}
use Rattle.guest_mem.proofs.SlotLemmas.{within_entries, get_shown, get_slots, part_slot, length_slot, length_front, shared_part, own_end, own_place, drop_own}
use Rattle.guest_mem.proofs.pages.Pages.part.Goals as goal
use Rattle.elf_load.specs.Room.{page_size}

slot_is : (p : Pages) (place : ℕ) (e : Entry) → place < p.count → e ≡ get_or p.entries.items place e → get_or (slots p.entries.items) place 0 ≡ e.slot
slot_is p place e at is = get_slots p.entries.items place e (within_entries p place at) ∙ sym (ap (λ (x : Entry). x.slot) is)

-- the part of a page's slot is the page's
part_is : (p : Pages) (place offset len : ℕ) (e : Entry) (d : GuestPage) → place < p.count → e ≡ get_or p.entries.items place e
    → take len (drop offset (slot_bytes (all_bytes p) e.slot)) ≡ take len (drop offset (get_or (shown p) place d).bytes)
part_is p place offset len e d at is =
    ap (λ (s : ℕ). take len (drop offset (slot_bytes (all_bytes p) s))) (ap (λ (x : Entry). x.slot) is)
    ∙ ap (λ (g : GuestPage). take len (drop offset g.bytes)) (sym (get_shown p place d e at))

pub slice_bounds-result-end : goal.slice_bounds-result-end
slice_bounds-result-end c =
    let p : Pages = c.args.self.now in
    let e : Entry = c.index.result.now in
    let whole : length (slot_bytes (shared_bytes c.deref.result.now) e.slot) ≡ page_size =
    length_slot (shared_bytes c.deref.result.now) e.slot (omega (arith, c.if-slot-self.true, length_front p, ap (λ (s : SharedPages). length (shared_bytes s)) c.deref.ensures)) in
    let ends : c.args.offset + c.args.len ≤ length c.shared_slot.result.now = omega (arith, c.requires.in_page, whole, ap (λ (xs : List ℕ). length xs) c.shared_slot.ensures) in
    ends

pub slice_bounds-result-end-else-slot-self : goal.slice_bounds-result-end-else-slot-self
slice_bounds-result-end-else-slot-self c =
    let p : Pages = c.args.self.now in
    let e : Entry = c.index.result.now in
    let long : length c.deref-else-slot-self.result.now ≡ length p.bytes.items = ap (λ (xs : List ℕ). length xs) c.deref-else-slot-self.ensures.value in
    let ends : (e.slot - p.first_own) * page_size + c.args.offset + c.args.len ≤ length c.deref-else-slot-self.result.now =
    omega (arith, c.requires.in_page, long, own_end p c.args.place e.slot (within_entries p c.args.place c.requires.place) (slot_is p c.args.place e c.requires.place c.index.ensures) c.if-slot-self.false) in
    ends

pub returns-then-slot-self-clause-value : goal.returns-then-slot-self-clause-value
returns-then-slot-self-clause-value c = λ (d : GuestPage).
    let p : Pages = c.args.self.now in
    let e : Entry = c.index.result.now in
    let exact : c.args.offset + c.args.len - c.args.offset ≡ c.args.len = omega arith in
    let bytes : c.shared_slot.result.now ≡ slot_bytes (all_bytes p) e.slot =
    c.shared_slot.ensures ∙ ap (λ (s : SharedPages). slot_bytes (shared_bytes s) e.slot) c.deref.ensures
    ∙ sym (shared_part (shared_bytes (arc_value p.shared)) p.bytes.items e.slot (omega (arith, c.if-slot-self.true, length_front p))) in
    ap (λ (n : ℕ). take n (drop c.args.offset c.shared_slot.result.now)) exact ∙ ap (λ (xs : List ℕ). take c.args.len (drop c.args.offset xs)) bytes
    ∙ part_is p c.args.place c.args.offset c.args.len e d c.requires.place c.index.ensures

pub returns-else-slot-self-clause-value : goal.returns-else-slot-self-clause-value
returns-else-slot-self-clause-value c = λ (d : GuestPage).
    let p : Pages = c.args.self.now in
    let e : Entry = c.index.result.now in
    let from : ℕ = (e.slot - p.first_own) * page_size + c.args.offset in
    let exact : from + c.args.len - from ≡ c.args.len = omega arith in
    ap (λ (n : ℕ). take n (drop from c.deref-else-slot-self.result.now)) exact
    ∙ ap (λ (xs : List ℕ). take c.args.len (drop from xs)) c.deref-else-slot-self.ensures.value
    ∙ ap (take c.args.len) (sym (drop_own (shared_bytes (arc_value p.shared)) p.bytes.items from (page_size * e.slot + c.args.offset) (own_place p e.slot c.args.offset c.if-slot-self.false)))
    ∙ sym (part_slot (all_bytes p) e.slot c.args.offset c.args.len c.requires.in_page)
    ∙ part_is p c.args.place c.args.offset c.args.len e d c.requires.place c.index.ensures
