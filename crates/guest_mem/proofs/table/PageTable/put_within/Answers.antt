use Rattle.std.proofs.Common.{◌≡◌, ℕ, ◌/◌, ◌%◌, ◌<◌, true, false, List, length, get_or, set, Some, None, refl, sym, ap, ◌∙◌, arith, subst}
use Rattle.std.specs.Arc.{arc_value}
use Rattle.elf_load.specs.Places.{place_of}
use Rattle.elf_load.specs.declared.shared.SharedPages.{SharedPages}
use Rattle.elf_load.proofs.Places.{place_of_in}
use Rattle.guest_mem.specs.declared.right.Right.TheVariants.{Write}
use Rattle.guest_mem.specs.Memory.{permits}
use Rattle.guest_mem.specs.inside.PageStore.{shown}
use Rattle.guest_mem.specs.inside.Pages.{GuestPage, IsPageTable, numbers, mapped_cells}
use Rattle.guest_mem.specs.inside.Slots.{AreBelow, fixed_numbers}
use Rattle.guest_mem.proofs.PageLemmas.{within_some, within_denied, within_none, numbers_put, cells_put}
use Rattle.guest_mem.proofs.SlotLemmas.{length-numbers, blank, length_shown_page, rewritten_set}
use Rattle.guest_mem.proofs.table.PageTable.put_within.Goals as goal
use Rattle.elf_load.specs.Room.{page_size}

pub returns-in_default-clause-bad : goal.returns-in_default-clause-bad
returns-in_default-clause-bad c =
    let ps : List GuestPage = shown c.args.self.now.pages in
    let none : place_of (numbers ps) (c.args.at / page_size) ≡ None = sym c.in_default.ensures in
    within_none Write ps c.args.at (length c.args.bytes.now) c.requires.some none

pub rights-requires : goal.rights-requires
rights-requires c =
    let ps : List GuestPage = shown c.args.self.now.pages in
    let found : place_of (numbers ps) (c.args.at / page_size) ≡ Some c.in-Some.place = sym c.in-Some.ensures in
    omega (arith, (place_of_in (numbers ps) (c.args.at / page_size) c.in-Some.place found).0, length-numbers c.args.self.now.pages)

pub write-requires-clause-place : goal.write-requires-clause-place
write-requires-clause-place c =
    let ps : List GuestPage = shown c.args.self.now.pages in
    let found : place_of (numbers ps) (c.args.at / page_size) ≡ Some c.in-Some.place = sym c.in-Some.ensures in
    omega (arith, (place_of_in (numbers ps) (c.args.at / page_size) c.in-Some.place found).0, length-numbers c.args.self.now.pages)

pub returns-then-not-is_among-clause-bad : goal.returns-then-not-is_among-clause-bad
returns-then-not-is_among-clause-bad c =
    let ps : List GuestPage = shown c.args.self.now.pages in
    let page : GuestPage = blank in
    let found : place_of (numbers ps) (c.args.at / page_size) ≡ Some c.in-Some.place = sym c.in-Some.ensures in
    let may_not : permits Write (get_or ps c.in-Some.place page).rights ≡ false = ap (permits Write) (sym (c.rights.ensures page)) ∙ sym c.if-not-is_among.ensures in
    within_denied Write ps c.args.at c.in-Some.place (length c.args.bytes.now) page c.requires.some found may_not

pub invariant_of-self : goal.invariant_of-self
invariant_of-self c =
    let t = c.args.self.now in
    let ps : List GuestPage = shown t.pages in
    let now : List GuestPage = shown c.write.new.self in
    let place : ℕ = c.in-Some.place in
    let d : GuestPage = blank in
    let found : place_of (numbers ps) (c.args.at / page_size) ≡ Some place = sym c.in-Some.ensures in
    let is : now ≡ set ps place (get_or now place d) = rewritten_set ps now place (c.args.at % page_size) c.args.bytes.now d c.write.ensures.written in
    let same : numbers now ≡ numbers ps = ap numbers is ∙ numbers_put ps (c.args.at / page_size) place (c.args.at % page_size) c.args.bytes.now (get_or now place d) d found (c.write.ensures.written.here d) in
    let front : fixed_numbers (arc_value c.write.new.self.shared) ≡ fixed_numbers (arc_value t.pages.shared) = ap fixed_numbers c.write.ensures.shared in
    record {
      low = subst (λ (s : SharedPages). AreBelow s t.heap) (sym c.write.ensures.shared) t.low;
      stay = t.stay ∙ sym (ap length front);
      sound = subst (λ (fs : List ℕ). IsPageTable fs (numbers now) t.heap) (sym front) (subst (λ (ns : List ℕ). IsPageTable (fixed_numbers (arc_value t.pages.shared)) ns t.heap) (sym same) t.sound);
    }

pub returns-clause-put : goal.returns-clause-put
returns-clause-put c =
    let t = c.args.self.now in
    let ps : List GuestPage = shown t.pages in
    let now : List GuestPage = shown c.write.new.self in
    let place : ℕ = c.in-Some.place in
    let d : GuestPage = blank in
    let found : place_of (numbers ps) (c.args.at / page_size) ≡ Some place = sym c.in-Some.ensures in
    let is : now ≡ set ps place (get_or now place d) = rewritten_set ps now place (c.args.at % page_size) c.args.bytes.now d c.write.ensures.written in
    ap mapped_cells is ∙ cells_put ps c.args.at place c.args.bytes.now (get_or now place d) d found (c.write.ensures.written.here d)

pub returns-clause-may : goal.returns-clause-may
returns-clause-may c =
    let ps : List GuestPage = shown c.args.self.now.pages in
    let place : ℕ = c.in-Some.place in
    let page : GuestPage = blank in
    let found : place_of (numbers ps) (c.args.at / page_size) ≡ Some place = sym c.in-Some.ensures in
    let within : place < c.args.self.now.pages.count = omega (arith, (place_of_in (numbers ps) (c.args.at / page_size) place found).0, length-numbers c.args.self.now.pages) in
    let may : permits Write (get_or ps place page).rights ≡ true = ap (permits Write) (sym (c.rights.ensures page)) ∙ sym c.if-not-is_among.ensures in
    rw (within_some Write ps c.args.at place (length c.args.bytes.now) page c.requires.in_page (length_shown_page c.args.self.now.pages place page within) found may) refl
