use Rattle.std.proofs.Common.{◌≡◌, ℕ, List, sym, ap, ◌∙◌, arith, vec_len}
use Rattle.std.specs.Arc.{arc_value}
use Rattle.guest_mem.specs.declared.entry.Entry.{Entry}
use Rattle.guest_mem.specs.declared.pages.Pages.{Pages}
use Rattle.guest_mem.specs.inside.PageStore.{all_bytes}
use Rattle.guest_mem.specs.inside.Pages.{GuestPage}
use Rattle.guest_mem.specs.inside.Slots.{shared_bytes, slot_bytes}
use Rattle.guest_mem.proofs.SlotLemmas.{get_shown, length_front, shared_part}
use Rattle.guest_mem.proofs.pages.Pages.apart.Goals as goal

pub new-requires : goal.new-requires
new-requires c =
    let p : Pages = c.args.self.now in
    let as_many : vec_len (arc_value (arc_value c.in-Ok.shared)).pages ≡ vec_len (arc_value p.shared).pages = rw c.in-Ok.ensures p.as_many in
    omega (arith, as_many, p.shares, c.if-slot-self.false)

pub returns-in-Ok : goal.returns-in-Ok
returns-in-Ok c = λ (d : GuestPage).
    let p : Pages = c.args.self.now in
    let e : Entry = c.index.result.now in
    let front : List ℕ = shared_bytes (arc_value p.shared) in
    let same : shared_bytes (arc_value (arc_value c.in-Ok.shared)) ≡ front = rw c.in-Ok.ensures p.same in
    c.new.ensures ∙ ap (λ (bytes : List ℕ). slot_bytes bytes e.slot) same
    ∙ sym (shared_part front p.bytes.items e.slot (omega (arith, c.if-slot-self.false, length_front p)))
    ∙ ap (λ (x : Entry). slot_bytes (all_bytes p) x.slot) c.index.ensures ∙ ap (λ (g : GuestPage). g.bytes) (sym (get_shown p c.args.place d e c.requires))
