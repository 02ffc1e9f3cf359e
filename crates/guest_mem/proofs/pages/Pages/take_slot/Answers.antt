use Rattle.std.proofs.Common.{◌≡◌, ℕ, ◌+◌, ◌*◌, ◌/◌, ◌<◌, ◌≤◌, List, ◌++◌, append_assoc, length, get_or, take, sym, ap, ◌∙◌, arith}
use Rattle.std.proofs.lemmas.List.{get_or_default, length-append}
use Rattle.std.specs.Arc.{arc_value}
use Rattle.elf_load.specs.declared.shared.SharedPages.{SharedPages}
use Rattle.guest_mem.specs.declared.entry.Entry.{Entry}
use Rattle.guest_mem.specs.declared.pages.Pages.{Pages}
use Rattle.guest_mem.specs.inside.PageStore.{all_bytes}
use Rattle.guest_mem.specs.inside.Slots.{shared_bytes, slot_bytes, slots}
use Rattle.guest_mem.proofs.SlotLemmas.{taken_le, taken_lt, taken_same, taken_kept, slot_set, within_entries, get_slots, length_slot, shared_part, length_front, length_own}
use Rattle.guest_mem.proofs.pages.Pages.take_slot.Goals as goal
use Rattle.elf_load.specs.Room.{page_size}

-- a page that has a shared slot
module _ (p : Pages) (place : ℕ) (e : Entry) (at : place < p.count) (shared : get_or (slots p.entries.items) place 0 < p.first_own) (is : e ≡ get_or p.entries.items place e) where
  slot_low : e.slot < p.first_own
  slot_low = omega (arith, shared, get_slots p.entries.items place e (within_entries p place at), ap (λ (x : Entry). x.slot) is)

  in_front : page_size * e.slot + page_size ≤ length (shared_bytes (arc_value p.shared))
  in_front = omega (arith, slot_low, length_front p)

  long_part : (s : SharedPages) (part : List ℕ) → s ≡ arc_value p.shared → part ≡ slot_bytes (shared_bytes s) e.slot → length part ≡ page_size
  long_part s part s_is part_is = ap (λ (xs : List ℕ). length xs) (part_is ∙ ap (λ (x : SharedPages). slot_bytes (shared_bytes x) e.slot) s_is) ∙ length_slot (shared_bytes (arc_value p.shared)) e.slot in_front

  -- the bytes of all slots with those of the page behind them
  with_part : (s : SharedPages) (part new : List ℕ) → s ≡ arc_value p.shared → part ≡ slot_bytes (shared_bytes s) e.slot → new ≡ p.bytes.items ++ part
      → shared_bytes (arc_value p.shared) ++ new ≡ all_bytes p ++ part
  with_part s part new s_is part_is new_is = ap (λ (xs : List ℕ). shared_bytes (arc_value p.shared) ++ xs) new_is ∙ sym (append_assoc (shared_bytes (arc_value p.shared)) p.bytes.items part)

  same_part : (s : SharedPages) (part : List ℕ) → s ≡ arc_value p.shared → part ≡ slot_bytes (shared_bytes s) e.slot → part ≡ slot_bytes (all_bytes p) (get_or p.entries.items place e).slot
  same_part s part s_is part_is =
      part_is ∙ ap (λ (x : SharedPages). slot_bytes (shared_bytes x) e.slot) s_is
      ∙ sym (shared_part (shared_bytes (arc_value p.shared)) p.bytes.items e.slot in_front)
      ∙ ap (λ (x : Entry). slot_bytes (all_bytes p) x.slot) is

next_slot : (p : Pages) (len : ℕ) → len ≡ length p.bytes.items → page_size * (p.first_own + len / page_size) ≡ length (all_bytes p)
next_slot p len is = omega (arith, is, length_own p, length_front p, length-append (shared_bytes (arc_value p.shared)) p.bytes.items)

pub unreachable-requires : goal.unreachable-requires
unreachable-requires c =
    let p : Pages = c.args.self.now in
    let within : c.args.place < length (slots p.entries.items) = omega (arith, c.requires.place, p.sound.within) in
    omega (
      arith,
      c.in_default.ensures.full,
      length_own p,
      p.sound.roomy,
      p.bytes.ok.0,
      taken_lt p.first_own (slots p.entries.items) c.args.place within c.requires.shared,
      long_part p c.args.place c.index.result.now c.requires.place c.requires.shared c.index.ensures c.deref.result.now c.shared_slot-was.result.now c.deref.ensures c.shared_slot-was.ensures,
    )

pub overflow_cast-slot : goal.overflow_cast-slot
overflow_cast-slot c =
    let p : Pages = c.args.self.now in
    let low : p.first_own + c.len.result / page_size < 65536 = omega (arith, c.len.ensures, length_own p, p.sound.few, p.sound.few_shared, p.bytes.ok.0, taken_le p.first_own (slots p.entries.items)) in
    record { fits = low }

pub invariant_of-self : goal.invariant_of-self
invariant_of-self c =
    let p : Pages = c.args.self.now in
    let e : Entry = c.index.result.now in
    let part : List ℕ = c.shared_slot-was.result.now in
    record {
      same = p.same;
      as_many = p.as_many;
      shares = p.shares;
      sound = taken_kept p.entries.items p.count p.first_own (all_bytes p) _ p.sound _ part c.args.place _ _ (within_entries p c.args.place c.requires.place)
          (with_part p c.args.place e c.requires.place c.requires.shared c.index.ensures c.deref.result.now part c.extend_from_slice.new.self.items c.deref.ensures c.shared_slot-was.ensures c.in-Ok.ensures.items)
          c.requires.shared
          (long_part p c.args.place e c.requires.place c.requires.shared c.index.ensures c.deref.result.now part c.deref.ensures c.shared_slot-was.ensures)
          (next_slot p c.len.result (omega (arith, c.len.ensures, p.bytes.ok.0))) c.in-Ok.ensures.capacity;
    }

pub returns-clause-same : goal.returns-clause-same
returns-clause-same c =
    let p : Pages = c.args.self.now in
    let e : Entry = c.index.result.now in
    let part : List ℕ = c.shared_slot-was.result.now in
    let within : c.args.place < length p.entries.items = within_entries p c.args.place c.requires.place in
    ap (take p.count)
    (taken_same p.entries.items p.count p.first_own (all_bytes p) _ p.sound _ c.args.place _ e within
    (with_part p c.args.place e c.requires.place c.requires.shared c.index.ensures c.deref.result.now part c.extend_from_slice.new.self.items c.deref.ensures c.shared_slot-was.ensures c.in-Ok.ensures.items
    ∙ ap (λ (xs : List ℕ). all_bytes p ++ xs) (same_part p c.args.place e c.requires.place c.requires.shared c.index.ensures c.deref.result.now part c.deref.ensures c.shared_slot-was.ensures))
    (ap (λ (x : Entry). x.number) (c.index-2.ensures ∙ get_or_default p.entries.items c.args.place c.index-2.result.now e within))
    (ap (λ (x : Entry). x.rights) (c.index-3.ensures ∙ get_or_default p.entries.items c.args.place c.index-3.result.now e within))
    (next_slot p c.len.result (omega (arith, c.len.ensures, p.bytes.ok.0))))

pub returns-clause-slot : goal.returns-clause-slot
returns-clause-slot c = slot_set c.args.self.now.entries.items c.args.place _ (within_entries c.args.self.now c.args.place c.requires.place)
