use Rattle.std.proofs.Common.{◌≡◌, ℕ, ◌+◌, ◌-◌, ◌%◌, ◌^◌, ◌<◌, ◌≤◌, List, length, Some, None, sym, ap, inl, inr, ◌⊎◌, ⊎_elim, ◌∙◌, arith, subst}
use Rattle.std.proofs.lemmas.Bool.{cases_lt}
use Rattle.std.specs.Arc.{arc_value}
use Rattle.std.specs.List.{range_with_len}
use Rattle.elf_load.specs.Places.{page_numbers, place_of}
use Rattle.elf_load.specs.declared.shared.SharedPages.{SharedPages}
use Rattle.elf_load.proofs.Places.{place_of_append_none, place_of_append_nowhere, place_of_range_in, place_of_range_out}
use Rattle.guest_mem.specs.Opening.{stack_pages}
use Rattle.guest_mem.specs.inside.PageStore.{shown}
use Rattle.guest_mem.specs.inside.Pages.{numbers}
use Rattle.guest_mem.specs.inside.Slots.{fixed_numbers, stack_first}
use Rattle.guest_mem.proofs.PageLemmas.{place_of_heap, place_of_fixed, place_of_none}
use Rattle.guest_mem.proofs.SlotLemmas.{length-numbers}
use Rattle.guest_mem.proofs.TableLemmas.{length_fixed}
use Rattle.guest_mem.proofs.table.PageTable.place_behind.Goals as goal

-- a page's distance from the first of others, which wraps below it
among : (n first count : ℕ) → n < 2 ^ 20 → first + count ≤ 2 ^ 20 → (n + (2 ^ 32 - first)) % 2 ^ 32 < count → n ≡ first + (n + (2 ^ 32 - first)) % 2 ^ 32
among n first count low bounded near = omega arith

not_among : (n first count : ℕ) → n < 2 ^ 20 → first + count ≤ 2 ^ 20 → count ≤ (n + (2 ^ 32 - first)) % 2 ^ 32 → (n < first) ⊎ (first + count ≤ n)
not_among n first count low bounded far = ⊎_elim (λ (below : n < first). inl below) (λ (above : first ≤ n). inr (omega arith)) (cases_lt n first)

pub returns-then-on_stack-lt-STACK_PAGES : goal.returns-then-on_stack-lt-STACK_PAGES
returns-then-on_stack-lt-STACK_PAGES c =
    let t = c.args.self.now in
    let s : SharedPages = arc_value t.pages.shared in
    let image : List ℕ = page_numbers s.pages.items in
    let k : ℕ = (c.args.number + (2 ^ 32 - stack_first)) % 2 ^ 32 in
    let near : k < stack_pages = c.if-on_stack-lt-STACK_PAGES.true in
    let at : stack_first + k ≡ c.args.number = sym (among c.args.number stack_first stack_pages c.requires.in_range (omega arith) near) in
    let there : place_of (range_with_len stack_first stack_pages) c.args.number ≡ Some k = subst (λ (n : ℕ). place_of (range_with_len stack_first stack_pages) n ≡ Some k) at (place_of_range_in stack_first stack_pages k near) in
    let place : t.fixed - stack_pages + k ≡ length image + k = omega (arith, t.stay, length_fixed s) in
    sym (place_of_fixed (fixed_numbers s) (numbers (shown t.pages)) t.heap t.sound c.args.number (t.fixed - stack_pages + k)
    (place_of_append_none image (range_with_len stack_first stack_pages) c.args.number k c.requires.none there ∙ ap (λ (n : ℕ). Some n) (sym place)))

pub returns-then-in_heap-len : goal.returns-then-in_heap-len
returns-then-in_heap-len c =
    let t = c.args.self.now in
    let front : List ℕ = fixed_numbers (arc_value t.pages.shared) in
    let ns : List ℕ = numbers (shown t.pages) in
    let count : c.len.result ≡ length ns = c.len.ensures ∙ sym (length-numbers t.pages) in
    let k : ℕ = (c.args.number + (2 ^ 32 - t.heap)) % 2 ^ 32 in
    let near : k < length ns - length front = omega (arith, c.if-in_heap-len.true, count, t.stay) in
    ap (λ (n : ℕ). Some (n + k)) t.stay
    ∙ sym (place_of_heap front ns t.heap t.sound c.args.number k (among c.args.number t.heap (length ns - length front) c.requires.in_range (omega (arith, t.sound.bounded)) near) near)

pub returns-else-in_heap-len : goal.returns-else-in_heap-len
returns-else-in_heap-len c =
    let t = c.args.self.now in
    let s : SharedPages = arc_value t.pages.shared in
    let front : List ℕ = fixed_numbers s in
    let ns : List ℕ = numbers (shown t.pages) in
    let count : c.len.result ≡ length ns = c.len.ensures ∙ sym (length-numbers t.pages) in
    let far : length ns - length front ≤ (c.args.number + (2 ^ 32 - t.heap)) % 2 ^ 32 = omega (arith, c.if-in_heap-len.false, count, t.stay) in
    let off_stack : place_of (range_with_len stack_first stack_pages) c.args.number ≡ None =
    place_of_range_out stack_first stack_pages c.args.number (not_among c.args.number stack_first stack_pages c.requires.in_range (omega arith) c.if-on_stack-lt-STACK_PAGES.false) in
    sym (place_of_none front ns t.heap t.sound c.args.number (not_among c.args.number t.heap (length ns - length front) c.requires.in_range (omega (arith, t.sound.bounded)) far)
    (place_of_append_nowhere (page_numbers s.pages.items) (range_with_len stack_first stack_pages) c.args.number c.requires.none off_stack))
