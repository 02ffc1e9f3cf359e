use Rattle.std.proofs.Common.{◌≡◌, ℕ, ◌<◌, true, false, List, get_or, Some, sym, ap, ◌∙◌, arith, subst}
use Rattle.std.proofs.lemmas.Bool.{not-false}
use Rattle.elf_load.specs.Places.{place_of}
use Rattle.elf_load.proofs.Places.{place_of_in}
use Rattle.guest_mem.specs.declared.right.Right.TheVariants.{Execute, Write}
use Rattle.guest_mem.specs.Memory.{IsCode, permits}
use Rattle.guest_mem.specs.inside.PageStore.{shown}
use Rattle.guest_mem.specs.inside.Pages.{GuestPage, mapped_cells, numbers}
use Rattle.guest_mem.proofs.PageLemmas.{byte_for_some, byte_for_denied}
use Rattle.guest_mem.proofs.SlotLemmas.{length-numbers, blank, length_shown_page}
use Rattle.guest_mem.proofs.table.PageTable.code_page.Goals as goal

pub rights-rights-requires : goal.rights-rights-requires
rights-rights-requires c =
    let ps : List GuestPage = shown c.args.self.now.pages in
    let found : place_of (numbers ps) c.args.number ≡ Some c.in_ok-place.place = sym c.in_ok-place.ensures in
    omega (arith, (place_of_in (numbers ps) c.args.number c.in_ok-place.place found).0, length-numbers c.args.self.now.pages)

pub apart-requires : goal.apart-requires
apart-requires c =
    let ps : List GuestPage = shown c.args.self.now.pages in
    let found : place_of (numbers ps) c.args.number ≡ Some c.in_ok-place.place = sym c.in_ok-place.ensures in
    omega (arith, (place_of_in (numbers ps) c.args.number c.in_ok-place.place found).0, length-numbers c.args.self.now.pages)

pub returns-in-Some : goal.returns-in-Some
returns-in-Some c =
    let ps : List GuestPage = shown c.args.self.now.pages in
    let place : ℕ = c.in_ok-place.place in
    let page : GuestPage = blank in
    let found : place_of (numbers ps) c.args.number ≡ Some place = sym c.in_ok-place.ensures in
    let within : place < c.args.self.now.pages.count = omega (arith, (place_of_in (numbers ps) c.args.number place found).0, length-numbers c.args.self.now.pages) in
    let may_run : permits Execute (get_or ps place page).rights ≡ true = ap (permits Execute) (sym (c.rights-rights.ensures page)) ∙ not-false _ c.if-not-rights.false in
    let may_not_change : permits Write (get_or ps place page).rights ≡ false = ap (permits Write) (sym (c.rights-rights.ensures page)) ∙ c.if-rights.false in
    let is_code : IsCode (mapped_cells ps) c.args.number (get_or ps place page).bytes = record {
      page = record {
        long = length_shown_page c.args.self.now.pages place page within;
        each = λ o l. byte_for_some Execute ps c.args.number place o page l found may_run;
      };
      fixed = λ o l. byte_for_denied Write ps c.args.number place o page l found may_not_change;
    } in
    subst (λ (bytes : List ℕ). IsCode (mapped_cells ps) c.args.number bytes) (sym (c.in-Some.ensures page)) is_code
