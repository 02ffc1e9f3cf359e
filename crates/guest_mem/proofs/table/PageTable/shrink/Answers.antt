use Rattle.std.proofs.Common.{◌≡◌, ℕ, ◌+◌, ◌-◌, ◌*◌, List, length, take, sym, ap, ◌∙◌, arith, subst}
use Rattle.std.proofs.lemmas.List.{take-map}
use Rattle.std.specs.Arc.{arc_value}
use Rattle.elf_load.specs.Room.{page_size}
use Rattle.elf_load.specs.declared.shared.SharedPages.{SharedPages}
use Rattle.guest_mem.specs.Break.{without}
use Rattle.guest_mem.specs.inside.PageStore.{shown}
use Rattle.guest_mem.specs.inside.Pages.{mapped_cells, GuestPage, IsPageTable, numbers}
use Rattle.guest_mem.specs.inside.Slots.{AreBelow, fixed_numbers}
use Rattle.guest_mem.proofs.HeapLemmas.{length_table, table_shrunk, cells_shrunk}
use Rattle.guest_mem.proofs.SlotLemmas.{length-numbers, length_shown}
use Rattle.guest_mem.proofs.table.PageTable.shrink.Goals as goal

pub invariant_of-self : goal.invariant_of-self
invariant_of-self c =
    let t = c.args.self.now in
    let ps : List GuestPage = shown t.pages in
    let now : List GuestPage = shown c.truncate.new.self in
    let front : List ℕ = fixed_numbers (arc_value t.pages.shared) in
    let k : ℕ = c.len.result - c.args.count in
    let kept : numbers now ≡ take k (numbers ps) = ap numbers c.truncate.ensures.shown ∙ sym (take-map (λ (p : GuestPage). p.number) k ps) in
    let shared : fixed_numbers (arc_value c.truncate.new.self.shared) ≡ front = ap fixed_numbers c.truncate.ensures.shared in
    let long : length (numbers ps) ≡ t.pages.count = length-numbers t.pages in
    record {
      low = subst (λ (s : SharedPages). AreBelow s t.heap) (sym c.truncate.ensures.shared) t.low;
      stay = t.stay ∙ sym (ap length shared);
      sound = subst (λ (fs : List ℕ). IsPageTable fs (numbers now) t.heap) (sym shared) (subst (λ (ns : List ℕ). IsPageTable front ns t.heap) (sym kept)
          (table_shrunk front (numbers ps) t.heap t.sound k (omega (arith, c.requires, c.len.ensures, long, t.stay, length_table front (numbers ps) t.heap t.sound)) (omega (arith, c.len.ensures, long))));
    }

pub returns-clause-unmapped : goal.returns-clause-unmapped
returns-clause-unmapped c =
    let t = c.args.self.now in
    let ps : List GuestPage = shown t.pages in
    let front : List ℕ = fixed_numbers (arc_value t.pages.shared) in
    let k : ℕ = c.len.result - c.args.count in
    let long : length ps ≡ t.pages.count = length_shown t.pages in
    let from : t.heap + (k - length front) ≡ t.heap + (t.pages.count - t.fixed) - c.args.count = omega (arith, c.requires, c.len.ensures, t.stay) in
    let to : t.heap + (length ps - length front) ≡ t.heap + (t.pages.count - t.fixed) = omega (arith, long, t.stay) in
    ap mapped_cells c.truncate.ensures.shown
    ∙ cells_shrunk front ps t.heap k t.sound (omega (arith, c.requires, c.len.ensures, length-numbers t.pages, t.stay, length_table front (numbers ps) t.heap t.sound)) (omega (arith, c.len.ensures, long))
    ∙ ap (λ (x : ℕ). without (mapped_cells ps) (page_size * x) (page_size * (t.heap + (length ps - length front)))) from
    ∙ ap (λ (x : ℕ). without (mapped_cells ps) (page_size * (t.heap + (t.pages.count - t.fixed) - c.args.count)) (page_size * x)) to
