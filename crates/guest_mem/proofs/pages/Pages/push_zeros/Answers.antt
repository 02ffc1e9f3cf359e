use Rattle.std.proofs.Common.{◌≡◌, ℕ, ◌+◌, ◌-◌, List, [], ◌∷◌, ◌++◌, sym, ap, ◌∙◌, arith}
use Rattle.std.proofs.lemmas.List.{append_assoc}
use Rattle.guest_mem.specs.Break.{zero_cell}
use Rattle.guest_mem.specs.inside.PageStore.{shown}
use Rattle.guest_mem.specs.inside.Pages.{GuestPage, zero_page, zero_pages}
use Rattle.guest_mem.proofs.HeapLemmas.{zero_pages_more}
use Rattle.guest_mem.proofs.pages.Pages.push_zeros.Goals as goal

pub loop-number-preserved : goal.loop-number-preserved
loop-number-preserved c =
    let k : ℕ = c.loop-number.number - c.args.first in
    let at : c.loop-number.number ≡ c.args.first + k = omega arith in
    let next : k + 1 ≡ c.loop-number.number + 1 - c.args.first = omega arith in
    let old : List GuestPage = shown c.args.self.now in (
      c.push.ensures.pushed ∙ ap (λ (ps : List GuestPage). ps ++ zero_page zero_cell.rights c.loop-number.number ∷ []) c.loop-number.invariant.0
          ∙ append_assoc old (zero_pages c.args.first k) (zero_page zero_cell.rights c.loop-number.number ∷ [])
          ∙ ap (λ (n : ℕ). old ++ (zero_pages c.args.first k ++ zero_page zero_cell.rights n ∷ [])) at
          ∙ ap (λ (ps : List GuestPage). old ++ ps) (sym (zero_pages_more c.args.first k)) ∙ ap (λ (n : ℕ). old ++ zero_pages c.args.first n) next,
      omega (arith, c.push.ensures.count, c.loop-number.invariant.1),
      c.push.ensures.room _ c.loop-number.invariant.2,
      c.push.ensures.shared ∙ c.loop-number.invariant.3,
    )
