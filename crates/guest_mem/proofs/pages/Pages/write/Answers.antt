use Rattle.std.proofs.Common.{◌≡◌, ℕ, ◌+◌, ◌-◌, ◌*◌, ◌^◌, ◌<◌, ◌≤◌, ◌⊎◌, inl, inr, List, ◌++◌, length, map, take, get_or, ◌∙◌, arith, subst, ⊎_elim}
use Rattle.std.specs.Arc.{arc_value}
use Rattle.guest_mem.specs.declared.pages.Pages.{Pages}
use Rattle.guest_mem.specs.inside.PageStore.{HasRoom, all_bytes}
use Rattle.guest_mem.specs.inside.Pages.{GuestPage, IsRewritten}
use Rattle.guest_mem.specs.inside.Slots.{page_of, shared_bytes}
use Rattle.guest_mem.proofs.SlotLemmas.{written, written_kept, within_entries, own_at, own_changed, own_end, own_low, own_place, long_changed, first_changed}
use Rattle.guest_mem.proofs.pages.Pages.write.Goals as goal
use Rattle.elf_load.specs.Room.{page_size}

pub overflow_mul-slot : goal.overflow_mul-slot
overflow_mul-slot c =
    let q : Pages = c.own_slot-slot.new.self in
    let at : c.args.place < q.count = omega (arith, c.requires.place, c.own_slot-slot.ensures.count) in
    let low : (c.own_slot-slot.result - q.first_own) * page_size < 2 ^ 64 = omega (arith, own_low q c.args.place c.own_slot-slot.result (within_entries q c.args.place at) c.own_slot-slot.ensures.slot) in
    record { fits = low }

pub overflow_add-slot : goal.overflow_add-slot
overflow_add-slot c =
    let q : Pages = c.own_slot-slot.new.self in
    let at : c.args.place < q.count = omega (arith, c.requires.place, c.own_slot-slot.ensures.count) in
    let low : (c.own_slot-slot.result - q.first_own) * page_size + c.args.offset < 2 ^ 64 = omega (arith, c.requires.in_page, own_low q c.args.place c.own_slot-slot.result (within_entries q c.args.place at) c.own_slot-slot.ensures.slot) in
    record { fits = low }

pub overwrite-requires : goal.overwrite-requires
overwrite-requires c =
    let q : Pages = c.own_slot-slot.new.self in
    let at : c.args.place < q.count = omega (arith, c.requires.place, c.own_slot-slot.ensures.count) in
    omega (arith, c.requires.in_page, q.bytes.ok.0, own_end q c.args.place c.own_slot-slot.result (within_entries q c.args.place at) c.own_slot-slot.ensures.slot c.own_slot-slot.ensures.own)

pub invariant_of-self : goal.invariant_of-self
invariant_of-self c =
    let q : Pages = c.own_slot-slot.new.self in
    let new : List ℕ = c.overwrite.new.bytes.items in
    record {
      same = q.same;
      as_many = q.as_many;
      shares = q.shares;
      sound = written_kept q.entries.items q.count q.first_own (all_bytes q) _ q.sound (shared_bytes (arc_value q.shared) ++ new) _
          (long_changed q new (omega (arith, c.overwrite.ensures.len, c.overwrite.new.bytes.ok.0, q.bytes.ok.0))) (first_changed q new) (omega (arith, c.overwrite.ensures.room));
    }

pub returns-clause-written : goal.returns-clause-written
returns-clause-written c =
    let q : Pages = c.own_slot-slot.new.self in
    let s : ℕ = c.own_slot-slot.result in
    let front : List ℕ = shared_bytes (arc_value q.shared) in
    let new : List ℕ = c.overwrite.new.bytes.items in
    let from : ℕ = (s - q.first_own) * page_size + c.args.offset in
    let own : q.first_own ≤ s = c.own_slot-slot.ensures.own in
    let at : c.args.place < q.count = omega (arith, c.requires.place, c.own_slot-slot.ensures.count) in
    let there : page_size * s + c.args.offset ≡ length front + from = own_place q s c.args.offset own in
    let put : (k : ℕ) → k < length c.args.part.now → get_or (front ++ new) (page_size * s + c.args.offset + k) 0 ≡ get_or c.args.part.now k 0 =
    λ k l. own_at front new (from + k) (page_size * s + c.args.offset + k) (omega (arith, there)) ∙ c.overwrite.ensures.inside k l in
    let out : (k : ℕ) → (k < page_size * s + c.args.offset) ⊎ (page_size * s + c.args.offset + length c.args.part.now ≤ k) → get_or (front ++ new) k 0 ≡ get_or (all_bytes q) k 0 =
    λ k sides. own_changed front q.bytes.items new k (λ j is. c.overwrite.ensures.outside j (⊎_elim (λ (h : k < page_size * s + c.args.offset). inl (omega (arith, there))) (λ (h : page_size * s + c.args.offset + length c.args.part.now ≤ k). inr (omega (arith, there))) sides)) in
    subst (λ (ps : List GuestPage). IsRewritten ps (take q.count (map (page_of (front ++ new)) q.entries.items)) c.args.place c.args.offset c.args.part.now) c.own_slot-slot.ensures.same
    (written q.entries.items q.count q.first_own (all_bytes q) _ q.sound (front ++ new) c.args.place s c.args.offset c.args.part.now
    (long_changed q new (omega (arith, c.overwrite.ensures.len, c.overwrite.new.bytes.ok.0, q.bytes.ok.0))) at c.own_slot-slot.ensures.slot own c.requires.in_page put out)

pub returns-clause-room : goal.returns-clause-room
returns-clause-room c = λ n room.
    let had : HasRoom c.own_slot-slot.new.self n = c.own_slot-slot.ensures.room n room in
    record { entries = had.entries; bytes = omega (arith, had.bytes, c.overwrite.ensures.room) }
