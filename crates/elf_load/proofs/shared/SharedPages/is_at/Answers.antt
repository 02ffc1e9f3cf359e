use Rattle.std.proofs.Common.{◌≡◌, ◌<◌, ◌≤◌, ℕ, true, false, List, length, get_or, nat_lt, sym, ap, ◌∙◌, arith, eq-eqb}
use Rattle.std.proofs.lemmas.Bool.{eqb-true, le-ltb}
use Rattle.std.proofs.lemmas.List.{get_or-map, length-map}
use Rattle.elf_load.specs.Places.{page_numbers, place_of}
use Rattle.elf_load.specs.declared.page.Page.{Page}
use Rattle.elf_load.proofs.Places.{place_of_in}
use Rattle.elf_load.proofs.shared.SharedPages.is_at.Goals as goal

pub returns-then-place-len : goal.returns-then-place-len
returns-then-place-len c =
    let ps : List Page = c.args.self.now.pages.items in
    let ns : List ℕ = page_numbers ps in
    let page : Page = c.index.result.now in
    let within : c.args.place < length ps = omega (arith, c.if-place-len.true, c.len.ensures, c.args.self.now.pages.ok.0) in
    let here : get_or ns c.args.place 0 ≡ page.number = get_or-map (λ (p : Page). p.number) ps c.args.place page 0 within ∙ ap (λ (p : Page). p.number) (sym c.index.ensures) in (
      λ same. ap (place_of ns) (sym (here ∙ eqb-true page.number c.args.number same)) ∙ c.args.self.now.once c.args.place (omega (arith, within, length-map ps (λ (p : Page). p.number))),
      λ found. eq-eqb page.number c.args.number (sym here ∙ (place_of_in ns c.args.number c.args.place found).1),
    )

pub returns-else-place-len : goal.returns-else-place-len
returns-else-place-len c =
    let ps : List Page = c.args.self.now.pages.items in
    let past : length ps ≤ c.args.place = omega (arith, c.if-place-len.false, c.len.ensures, c.args.self.now.pages.ok.0) in
    let not_less : nat_lt c.args.place c.len.result ≡ false = le-ltb c.args.place c.len.result c.if-place-len.false in (
      λ less. absurd (let no : true ≡ false = sym less ∙ not_less in cc),
      λ found. absurd (omega (arith, (place_of_in (page_numbers ps) c.args.number c.args.place found).0, past, length-map ps (λ (p : Page). p.number))),
    )
