use Rattle.std.proofs.Common.{◌≡◌, List, get_or, replicate, ap, ◌∙◌, arith}
use Rattle.std.proofs.lemmas.List.{get_or-replicate}
use Rattle.elf_load.specs.Places.{page_numbers, place_of}
use Rattle.elf_load.specs.declared.page.Page.{Page}
use Rattle.elf_load.proofs.shared.share.Goals as goal
use Rattle.elf_load.specs.Room.{page_size}

pub invariant_of-new : goal.invariant_of-new
invariant_of-new c =
    let zeros : c.in_ok-zeros.zeros.items ≡ replicate page_size 0 = c.in_ok-zeros.ensures.items_if_clones_equal (λ y same. same) in
    record {
      is_whole = omega (arith, c.in_ok-zeros.ensures.len);
      are_zeros = λ offset within. ap (λ xs. get_or xs offset 0) zeros ∙ get_or-replicate page_size offset 0 0 within;
      once = c.requires.once;
      indexed = λ n low. c.in_ok-index.ensures n low ∙ ap (λ (ps : List Page). place_of (page_numbers ps) n) c.deref.ensures.value;
    }
