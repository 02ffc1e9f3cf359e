use Rattle.std.proofs.Common.{◌≡◌, ℕ, ◌+◌, ◌-◌, ◌*◌, ◌<◌, ◌≤◌, ◌⊎◌, inl, inr, List, ◌++◌, length, get_or, ap, sym, ◌∙◌, arith, refl, ⊎_elim}
use Rattle.std.specs.Arc.{arc_value}
use Rattle.guest_mem.specs.declared.entry.Entry.{Entry}
use Rattle.guest_mem.specs.declared.pages.Pages.{Pages}
use Rattle.guest_mem.specs.inside.PageStore.{all_bytes}
use Rattle.guest_mem.specs.inside.Slots.{shared_bytes, slots}
use Rattle.guest_mem.proofs.SlotLemmas.{again, again_kept, get_slots, length_front, own_at, own_changed, own_end, long_changed}
use Rattle.guest_mem.proofs.pages.Pages.push_again.Goals as goal
use Rattle.elf_load.specs.Room.{page_size}

slot_is : (p : Pages) (e : Entry) → p.count < length p.entries.items → e ≡ get_or p.entries.items p.count e → get_or (slots p.entries.items) p.count 0 ≡ e.slot
slot_is p e at is = get_slots p.entries.items p.count e at ∙ sym (ap (λ (x : Entry). x.slot) is)

-- the bytes of all slots where an own one was cleared
module _ (p : Pages) (new : List ℕ) (s from : ℕ) (own : p.first_own ≤ s) (from_is : from ≡ (s - p.first_own) * page_size) where
  there : page_size * s ≡ length (shared_bytes (arc_value p.shared)) + from
  there = omega (arith, length_front p, own, from_is)

  outside : ((k : ℕ) → (k < from) ⊎ (from + page_size ≤ k) → get_or new k 0 ≡ get_or p.bytes.items k 0)
      → (k : ℕ) → (k < page_size * s) ⊎ (page_size * s + page_size ≤ k) → get_or (shared_bytes (arc_value p.shared) ++ new) k 0 ≡ get_or (all_bytes p) k 0
  outside kept k sides =
      own_changed (shared_bytes (arc_value p.shared)) p.bytes.items new k
      (λ j is. kept j (⊎_elim (λ (h : k < page_size * s). inl (omega (arith, there))) (λ (h : page_size * s + page_size ≤ k). inr (omega (arith, there))) sides))

  none : ((k : ℕ) → k < page_size → get_or new (from + k) 0 ≡ 0) → (k : ℕ) → k < page_size → get_or (shared_bytes (arc_value p.shared) ++ new) (page_size * s + k) 0 ≡ 0
  none cleared k l = own_at (shared_bytes (arc_value p.shared)) new (from + k) (page_size * s + k) (omega (arith, there)) ∙ cleared k l

pub push_unwritten-requires-clause-shared : goal.push_unwritten-requires-clause-shared
push_unwritten-requires-clause-shared c =
    let p : Pages = c.args.self.now in
    omega (arith, c.if-slot-self.true, slot_is p c.index.result.now (omega (arith, c.requires.behind, p.entries.ok.0)) c.index.ensures)

pub clear-requires : goal.clear-requires
clear-requires c =
    let p : Pages = c.args.self.now in
    let e : Entry = c.index.result.now in
    let at : p.count < length p.entries.items = omega (arith, c.requires.behind, p.entries.ok.0) in
    omega (arith, p.bytes.ok.0, own_end p p.count e.slot at (slot_is p e at c.index.ensures) c.if-slot-self.false)

pub invariant_of-self-2 : goal.invariant_of-self-2
invariant_of-self-2 c =
    let p : Pages = c.args.self.now in
    let e : Entry = c.index.result.now in
    let new : List ℕ = c.clear.new.bytes.items in
    let at : p.count < length p.entries.items = omega (arith, c.requires.behind, p.entries.ok.0) in
    record {
      same = p.same;
      as_many = p.as_many;
      shares = p.shares;
      sound = again_kept p.entries.items p.count p.first_own (all_bytes p) _ p.sound (shared_bytes (arc_value p.shared) ++ new) _ _ (omega (arith, c.clear.ensures.room)) at
          (long_changed p new (omega (arith, c.clear.ensures.len, p.bytes.ok.0, c.clear.new.bytes.ok.0))) (slot_is p e at c.index.ensures) c.if-slot-self.false
          (outside p new e.slot _ c.if-slot-self.false refl c.clear.ensures.outside);
    }

pub returns-clause-pushed : goal.returns-clause-pushed
returns-clause-pushed c =
    let p : Pages = c.args.self.now in
    let e : Entry = c.index.result.now in
    let new : List ℕ = c.clear.new.bytes.items in
    let at : p.count < length p.entries.items = omega (arith, c.requires.behind, p.entries.ok.0) in
    again p.entries.items p.count p.first_own (all_bytes p) _ p.sound (shared_bytes (arc_value p.shared) ++ new) _ c.args.number c.args.rights at
    (long_changed p new (omega (arith, c.clear.ensures.len, p.bytes.ok.0, c.clear.new.bytes.ok.0))) (slot_is p e at c.index.ensures) c.if-slot-self.false refl refl
    (outside p new e.slot _ c.if-slot-self.false refl c.clear.ensures.outside) (none p new e.slot _ c.if-slot-self.false refl c.clear.ensures.inside)

pub returns-then-slot-self-clause-room : goal.returns-then-slot-self-clause-room
returns-then-slot-self-clause-room c = λ n room. c.push_unwritten.ensures.room n record { entries = room.entries; bytes = room.bytes }
