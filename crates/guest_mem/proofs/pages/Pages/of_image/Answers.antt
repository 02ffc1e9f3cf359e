use Rattle.std.proofs.Common.{◌≡◌, ℕ, ◌+◌, List, ◌++◌, map, take, sym, ap, ◌∙◌, arith, vec_len}
use Rattle.std.proofs.lemmas.List.{append-nil, length-map, take_all}
use Rattle.std.specs.Arc.{arc_value}
use Rattle.std.specs.List.{range_with_len}
use Rattle.elf_load.specs.declared.shared.SharedPages.{SharedPages}
use Rattle.guest_mem.specs.declared.entry.Entry.{Entry}
use Rattle.guest_mem.specs.inside.Pages.{of_image}
use Rattle.guest_mem.specs.inside.Slots.{page_of, shared_bytes}
use Rattle.guest_mem.proofs.SlotLemmas.{begun}
use Rattle.guest_mem.proofs.pages.Pages.of_image.Goals as goal

pub invariant_of-result : goal.invariant_of-result
invariant_of-result c =
    let s : SharedPages = arc_value c.args.shared in
    let count : c.len-count.result ≡ vec_len s.pages = c.len-count.ensures ∙ ap (λ (x : SharedPages). vec_len x.pages) c.deref.ensures in
    let own : arc_value (arc_value c.in_ok-own_shared.own_shared) ≡ s = rw c.in_ok-own_shared.ensures.ok c.in_ok-own.ensures in
    record {
      same = ap shared_bytes own;
      as_many = ap (λ (x : SharedPages). vec_len x.pages) own;
      shares = ap (λ (n : ℕ). n + 1) count;
      sound = begun s _ c.in_ok-bytes.bytes.items c.len-count.result _
          (c.in_ok-entries.ensures.slots ∙ ap (λ (x : SharedPages). range_with_len 1 (vec_len x.pages)) c.deref-2.ensures ∙ ap (range_with_len 1) (sym count))
          (omega (arith, count, s.pages.ok.0)) c.in_ok-bytes.ensures.items (omega (arith, count, c.requires.few)) (omega (arith, c.in_ok-bytes.ensures.capacity));
    }

pub returns-clause-pages : goal.returns-clause-pages
returns-clause-pages c =
    let s : SharedPages = arc_value c.args.shared in
    let es : List Entry = c.in_ok-entries.entries.items in
    let n : ℕ = c.len-count.result in
    let count : n ≡ vec_len s.pages = c.len-count.ensures ∙ ap (λ (x : SharedPages). vec_len x.pages) c.deref.ensures in
    let listed : map (page_of (shared_bytes s)) es ≡ map of_image s.pages.items = rw c.deref-2.ensures at c.in_ok-entries.ensures.pages in
    ap (λ (own : List ℕ). take n (map (page_of (shared_bytes s ++ own)) es)) c.in_ok-bytes.ensures.items
    ∙ ap (λ (bs : List ℕ). take n (map (page_of bs) es)) (append-nil (shared_bytes s)) ∙ ap (take n) listed
    ∙ take_all n (map of_image s.pages.items) (omega (arith, count, s.pages.ok.0, length-map s.pages.items of_image))
