use Rattle.std.proofs.Common.{◌≡◌, ℕ, ◌+◌, ◌<◌, ◌^◌, Bool, true, false, not, cond, eqb, List, [], ◌∷◌, ◌++◌, length, take, Option, Some, None, refl, sym, ap, ◌∙◌, arith, is_some, subst, vec_len}
use Rattle.std.proofs.lemmas.List.{take_all}
use Rattle.elf_load.specs.declared.index.PageIndex.{PageIndex}
use Rattle.elf_load.specs.declared.page.Page.{Page}
use Rattle.elf_load.specs.Places.{page_numbers, place_of}
use Rattle.elf_load.specs.inside.PageIndex.{Finds}
use Rattle.elf_load.proofs.Places.{pushed_known, pushed_new, page_numbers-more, length_numbers_so_far}
use Rattle.elf_load.proofs.index.PageIndex.of.Goals as goal
use Rattle.elf_load.proofs.index.PageIndex.of.Goals.{then-is_none+in_ok-set, else-is_none}

nothing : (o : Option ℕ) (b : Bool) → is_some o ≡ not b → b ≡ true → o ≡ None
nothing None b e f = refl
nothing (Some x) true e f = cc
nothing (Some x) false e f = cc

something : (o : Option ℕ) (b : Bool) → is_some o ≡ not b → b ≡ false → (j : ℕ) × (o ≡ Some j)
something (Some x) b e f = (x, refl)
something None true e f = cc
something None false e f = cc

pub loop-place-preserved : goal.loop-place-preserved
loop-place-preserved c =
    let ps : List Page = c.args.pages.now in
    let page : Page = c.index-pages-place.result in
    let place : ℕ = c.loop-place.place in
    let ns : List ℕ = page_numbers (take place ps) in
    let all : page_numbers (take (place + 1) ps) ≡ ns ++ page.number ∷ [] = page_numbers-more ps place page c.loop-place-test.true c.index-pages-place.is in
    let long : length ns ≡ place = length_numbers_so_far ps place (omega arith) in
    let low : page.number < 2 ^ 20 = page.in_range in
    let was : place_of ns page.number ≡ c.find.result = sym (c.loop-place.invariant.found page.number low) ∙ sym c.find.ensures in
    let so_far : (index : PageIndex) → Finds index (ns ++ page.number ∷ []) → Finds index (page_numbers (take (place + 1) ps)) =
    λ (index : PageIndex) finds. subst (λ (ms : List ℕ). Finds index ms) (sym all) finds in
    elim c.if-is_none.branch [
      | then-is_none+in_ok-set w ↦
          let none : place_of ns page.number ≡ None = was ∙ nothing c.find.result c.is_none.result c.is_none.ensures w.if-is_none.true in
          record {
            found = subst (λ (index : PageIndex). Finds index (page_numbers (take (place + 1) ps))) (sym w.index-is)
                (so_far w.set.new.self (λ n l.
                w.in_ok-set.ensures.set n l
                ∙ ap (λ (o : Option ℕ). cond (eqb n page.number) (Some place) o) (c.loop-place.invariant.found n l)
                ∙ ap (λ (x : ℕ). cond (eqb n page.number) (Some x) (place_of ns n)) (sym long)
                ∙ sym (pushed_new ns page.number none n)));
            few = omega (arith, c.loop-place.invariant.few, w.in_ok-set.ensures.len, ap (λ (index : PageIndex). vec_len index.places) w.index-is);
          }
      | else-is_none w ↦
          let some : (j : ℕ) × (c.find.result ≡ Some j) = something c.find.result c.is_none.result c.is_none.ensures w.if-is_none.false in
          record {
            found = subst (λ (index : PageIndex). Finds index (page_numbers (take (place + 1) ps))) (sym w.index-is)
                (so_far c.loop-place.index (λ n l. c.loop-place.invariant.found n l ∙ sym (pushed_known ns page.number some.0 (was ∙ some.1) n)));
            few = omega (arith, c.loop-place.invariant.few, ap (λ (index : PageIndex). vec_len index.places) w.index-is);
          }
    ]

pub returns : goal.returns
returns c = λ n l.
    c.loop-place.invariant.found n l ∙ ap (λ (ps : List Page). place_of (page_numbers ps) n) (take_all c.loop-place.place c.args.pages.now c.loop-place-test.false)
