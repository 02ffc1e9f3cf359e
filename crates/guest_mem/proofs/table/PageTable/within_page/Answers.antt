use Rattle.std.proofs.Common.{◌≡◌, ◌/◌, ◌<◌, true, false, List, get_or, Some, None, sym, ap, ◌∙◌, arith}
use Rattle.elf_load.specs.Places.{place_of}
use Rattle.elf_load.proofs.Places.{place_of_in}
use Rattle.guest_mem.specs.Memory.{permits}
use Rattle.guest_mem.specs.inside.PageStore.{shown}
use Rattle.guest_mem.specs.inside.Pages.{GuestPage, numbers}
use Rattle.guest_mem.proofs.PageLemmas.{within_some, within_denied, within_none}
use Rattle.guest_mem.proofs.SlotLemmas.{length-numbers, blank, length_shown_page}
use Rattle.guest_mem.proofs.table.PageTable.within_page.Goals as goal
use Rattle.elf_load.specs.Room.{page_size}

pub returns-in_default-clause-found : goal.returns-in_default-clause-found
returns-in_default-clause-found c =
    let ps : List GuestPage = shown c.args.self.now.pages in
    let none : place_of (numbers ps) (c.args.at / page_size) ≡ None = sym c.requires.there ∙ c.in_default.is in
    within_none c.args.right ps c.args.at c.args.len c.requires.some none

pub rights-requires : goal.rights-requires
rights-requires c =
    let ps : List GuestPage = shown c.args.self.now.pages in
    let found : place_of (numbers ps) (c.args.at / page_size) ≡ Some c.in-Some.place = sym c.requires.there ∙ c.in-Some.is in
    omega (arith, (place_of_in (numbers ps) (c.args.at / page_size) c.in-Some.place found).0, length-numbers c.args.self.now.pages)

pub part-requires-clause-place : goal.part-requires-clause-place
part-requires-clause-place c =
    let ps : List GuestPage = shown c.args.self.now.pages in
    let found : place_of (numbers ps) (c.args.at / page_size) ≡ Some c.in-Some.place = sym c.requires.there ∙ c.in-Some.is in
    omega (arith, (place_of_in (numbers ps) (c.args.at / page_size) c.in-Some.place found).0, length-numbers c.args.self.now.pages)

pub returns-then-is_among-clause-found : goal.returns-then-is_among-clause-found
returns-then-is_among-clause-found c =
    let ps : List GuestPage = shown c.args.self.now.pages in
    let place = c.in-Some.place in
    let found : place_of (numbers ps) (c.args.at / page_size) ≡ Some place = sym c.requires.there ∙ c.in-Some.is in
    let within : place < c.args.self.now.pages.count = omega (arith, (place_of_in (numbers ps) (c.args.at / page_size) place found).0, length-numbers c.args.self.now.pages) in
    let page : GuestPage = blank in
    let may : permits c.args.right (get_or ps place page).rights ≡ true = ap (permits c.args.right) (sym (c.rights.ensures page)) ∙ sym c.if-is_among.ensures in
    within_some c.args.right ps c.args.at place c.args.len page c.requires.in_page (length_shown_page c.args.self.now.pages place page within) found may
    ∙ ap (λ xs. Some xs) (sym (c.part.ensures.value page))

pub returns-else-is_among-clause-found : goal.returns-else-is_among-clause-found
returns-else-is_among-clause-found c =
    let ps : List GuestPage = shown c.args.self.now.pages in
    let place = c.in-Some.place in
    let found : place_of (numbers ps) (c.args.at / page_size) ≡ Some place = sym c.requires.there ∙ c.in-Some.is in
    let page : GuestPage = blank in
    let may_not : permits c.args.right (get_or ps place page).rights ≡ false = ap (permits c.args.right) (sym (c.rights.ensures page)) ∙ sym c.if-is_among.ensures in
    within_denied c.args.right ps c.args.at place c.args.len page c.requires.some found may_not
