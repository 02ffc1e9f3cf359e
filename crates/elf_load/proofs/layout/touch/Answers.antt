use Rattle.std.proofs.Common.{◌≡◌, ◌<◌, ◌≤◌, ◌++◌, ◌+◌, ◌-◌, ◌∷◌, [], ℕ, List, true, false, length, cond, Some, None, arith, ap, sym, ◌∙◌, subst}
use Rattle.std.specs.Prelude.{◌==◌}
use Rattle.std.specs.List.{list_any, range_with_len}
use Rattle.std.specs.FinSet.{len}
use Rattle.std.proofs.lemmas.Bool.{lt-ltb}
use Rattle.elf_load.specs.declared.fault.ElfFault.TheVariants.{Range}
use Rattle.elf_load.specs.Pages.{first_page, last_page, pages_of}
use Rattle.elf_load.specs.inside.Layout.{IsListOf}
use Rattle.elf_load.proofs.Numbers.{set_of}
use Rattle.elf_load.proofs.Ranges.{listed_already, listed_now, listed_too_many}
use Rattle.elf_load.proofs.layout.touch.Goals as goal
use Rattle.elf_load.proofs.layout.touch.Goals.{then-not-contains+else-len-eq-MAX_PAGES+in_ok-push, else-not-contains}
use Rattle.elf_load.specs.Room.{max_program_pages}

pub returns-then-len-eq-MAX_PAGES-clause-many : goal.returns-then-len-eq-MAX_PAGES-clause-many
returns-then-len-eq-MAX_PAGES-clause-many c =
    let pages = c.loop-page.pages.items in
    let from : first_page c.args.segment.now ≤ c.loop-page.page = omega arith in
    let before : c.loop-page.page < last_page c.args.segment.now + 1 = omega arith in
    let new : list_any (λ y. y == c.loop-page.page) pages ≡ false = cc in
    let more : length pages < len (set_of (c.args.pages.now.items ++ pages_of c.args.segment.now)) =
    listed_too_many c.args.pages.now.items pages (first_page c.args.segment.now) c.loop-page.page from c.loop-page.invariant.listed (last_page c.args.segment.now + 1) before new in
    let many : max_program_pages < len (set_of (c.args.pages.now.items ++ pages_of c.args.segment.now)) = omega arith in
    ap (λ b. cond b (Some Range) None) (lt-ltb _ _ many)

pub loop-page-preserved : goal.loop-page-preserved
loop-page-preserved c =
    let from : first_page c.args.segment.now ≤ c.loop-page.page = omega arith in
    let all : List ℕ = c.args.pages.now.items ++ range_with_len (first_page c.args.segment.now) (c.loop-page.page + 1 - first_page c.args.segment.now) in
    elim c.if-not-contains.branch [
      | then-not-contains+else-len-eq-MAX_PAGES+in_ok-push w ↦
          let new : list_any (λ y. y == c.loop-page.page) c.loop-page.pages.items ≡ false = cc in
          let items : c.if-not-contains.pages.items ≡ c.loop-page.pages.items ++ c.loop-page.page ∷ [] = ap (λ v. v.items) w.pages-is ∙ w.in_ok-push.ensures.items in
          record {
            listed = subst (λ xs. IsListOf xs all) (sym items) (listed_now c.args.pages.now.items c.loop-page.pages.items (first_page c.args.segment.now) c.loop-page.page from c.loop-page.invariant.listed new);
            few = rw w.pages-is (omega arith);
          }
      | else-not-contains w ↦
          let there : list_any (λ y. y == c.loop-page.page) c.loop-page.pages.items ≡ true = cc in
          rw w.pages-is (record {
            listed = listed_already c.args.pages.now.items c.loop-page.pages.items (first_page c.args.segment.now) c.loop-page.page from c.loop-page.invariant.listed there;
            few = c.loop-page.invariant.few;
          })
    ]
