use Rattle.std.proofs.Common.{◌≡◌, ◌+◌, ◌*◌, ◌++◌, length, take, drop, get_or, replicate, refl, ap, ◌∙◌, arith}
use Rattle.std.proofs.lemmas.List.{get_or-replicate, take_at, take_all}
use Rattle.elf_load.specs.declared.program_header.ProgramHeader.{ProgramHeader}
use Rattle.elf_load.specs.Image.{byte_at}
use Rattle.elf_load.proofs.Laying.{laid_more}
use Rattle.elf_load.proofs.build.make_page.Goals as goal
use Rattle.elf_load.specs.Room.{page_size}

pub loop-segment-init : goal.loop-segment-init
loop-segment-init c =
    let zeros : c.in_ok-page.page.items ≡ replicate page_size 0 = c.in_ok-page.ensures.items_if_clones_equal (λ y same. same) in
    record {
      whole = omega (arith, c.in_ok-page.ensures.len);
      laid = λ offset within. ap (λ xs. get_or xs offset 0) zeros ∙ get_or-replicate page_size offset 0 0 within;
    }

pub loop-segment-preserved : goal.loop-segment-preserved
loop-segment-preserved c =
    let size : length c.lay.new.page ≡ c.loop-segment.page.len = c.lay.auto.page ∙ c.deref_mut.ensures.len in
    let back : take c.loop-segment.page.len (c.lay.new.page ++ drop (length c.lay.new.page) c.loop-segment.page.items) ≡ c.lay.new.page = take_at c.lay.new.page _ _ size in
    let none : ProgramHeader = record { kind = 0; offset = 0; address = 0; file_size = 0; memory_size = 0; flags = 0 } in
    record {
      whole = ap length back ∙ omega arith;
      laid = λ offset within.
          ap (λ xs. get_or xs offset 0) back
          ∙ laid_more c.loop-segment.page.items c.deref_mut.result.now c.lay.new.page c.args.bytes.now c.args.segments.now c.loop-segment.segment-index offset (page_size * c.args.number + offset) (c.from.result * page_size + offset) none
          c.loop-segment-test.true (c.lay.ensures.laid offset within) c.deref_mut.ensures.value (omega arith) (c.loop-segment.invariant.laid offset within);
    }

pub returns : goal.returns
returns c = record {
  number_is = refl;
  rights_are = c.rights_at-rights.ensures;
  bytes_are = λ offset within.
      c.loop-segment.invariant.laid offset within
      ∙ ap (λ ss. byte_at c.args.bytes.now ss (page_size * c.args.number + offset)) (take_all c.loop-segment.segment-index c.args.segments.now c.loop-segment-test.false);
}
