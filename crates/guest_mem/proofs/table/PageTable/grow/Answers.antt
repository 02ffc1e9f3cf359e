use Rattle.std.proofs.Common.{◌≡◌, ℕ, ◌+◌, ◌-◌, List, ◌++◌, length, sym, ap, ◌∙◌, arith, subst}
use Rattle.std.specs.Arc.{arc_value}
use Rattle.elf_load.specs.declared.shared.SharedPages.{SharedPages}
use Rattle.guest_mem.specs.inside.PageStore.{shown}
use Rattle.guest_mem.specs.inside.Pages.{GuestPage, IsPageTable, mapped_cells, numbers, zero_pages}
use Rattle.guest_mem.specs.inside.Slots.{AreBelow, fixed_numbers}
use Rattle.guest_mem.proofs.HeapLemmas.{table_with_zeros, place_of_above, cells_grown, zero_pages_are}
use Rattle.guest_mem.proofs.SlotLemmas.{length-numbers}
use Rattle.guest_mem.proofs.table.PageTable.grow.Goals as goal

pub returns-clause-mapped : goal.returns-clause-mapped
returns-clause-mapped c =
    let t = c.args.self.now in
    let ps : List GuestPage = shown t.pages in
    let end : ℕ = t.heap + (t.pages.count - t.fixed) in
    let same : length (numbers ps) ≡ t.pages.count = length-numbers t.pages in
    let is : shown c.push_zeros.new.self ≡ ps ++ zero_pages end c.args.count =
    c.push_zeros.ensures.pushed ∙ ap (λ (qs : List GuestPage). qs ++ zero_pages (t.heap + (c.len.result - t.fixed)) c.args.count) c.in_ok-reserve.ensures.same
    ∙ ap (λ (n : ℕ). ps ++ zero_pages (t.heap + (n - t.fixed)) c.args.count) c.len.ensures in
    ap mapped_cells is
    ∙ cells_grown ps (zero_pages end c.args.count) end c.args.count (zero_pages_are end c.args.count)
    (λ n above below. place_of_above (fixed_numbers (arc_value t.pages.shared)) (numbers ps) t.heap t.sound n (omega (arith, t.stay, same, above)) (omega (arith, c.requires.low, below)))

pub invariant_of-self-2 : goal.invariant_of-self-2
invariant_of-self-2 c =
    let t = c.args.self.now in
    let ps : List GuestPage = shown t.pages in
    let now : List GuestPage = shown c.push_zeros.new.self in
    let front : List ℕ = fixed_numbers (arc_value t.pages.shared) in
    let same : length (numbers ps) ≡ t.pages.count = length-numbers t.pages in
    let end : ℕ = t.heap + (length (numbers ps) - length front) in
    let from : t.heap + (c.len.result - t.fixed) ≡ end = omega (arith, c.len.ensures, same, t.stay) in
    let is : now ≡ ps ++ zero_pages end c.args.count =
    c.push_zeros.ensures.pushed ∙ ap (λ (qs : List GuestPage). qs ++ zero_pages (t.heap + (c.len.result - t.fixed)) c.args.count) c.in_ok-reserve.ensures.same
    ∙ ap (λ (n : ℕ). ps ++ zero_pages n c.args.count) from in
    let shared : fixed_numbers (arc_value c.push_zeros.new.self.shared) ≡ front = ap fixed_numbers (c.push_zeros.ensures.shared ∙ c.in_ok-reserve.ensures.shared) in
    record {
      low = subst (λ (s : SharedPages). AreBelow s t.heap) (sym (c.push_zeros.ensures.shared ∙ c.in_ok-reserve.ensures.shared)) t.low;
      stay = t.stay ∙ sym (ap length shared);
      sound = subst (λ (fs : List ℕ). IsPageTable fs (numbers now) t.heap) (sym shared) (table_with_zeros front ps now t.heap c.args.count is t.sound (omega (arith, c.requires.low, same, t.stay)));
    }
