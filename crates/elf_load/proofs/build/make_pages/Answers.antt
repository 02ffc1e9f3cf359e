use Rattle.std.proofs.Common.{◌≡◌, length, refl, arith}
use Rattle.elf_load.proofs.Cells.{cells_more, numbers_more}
use Rattle.elf_load.proofs.build.make_pages.Goals as goal
use Rattle.elf_load.specs.Room.{page_size}

pub loop-number-preserved : goal.loop-number-preserved
loop-number-preserved c =
    let page = c.in_ok-make_page.field-0 in
    let whole : length page.bytes.items ≡ page_size = omega (arith, page.is_whole) in
    record {
      cells = cells_more c.args.bytes.now c.args.segments.now c.loop-number.pages.items c.push.new.self.items page c.args.numbers.now c.loop-number.number-index _
          c.in_ok-push.ensures.items c.loop-number-test.true refl whole c.in_ok-make_page.ensures c.loop-number.invariant.cells;
      numbers = numbers_more c.loop-number.pages.items c.push.new.self.items page c.args.numbers.now c.loop-number.number-index
          c.in_ok-push.ensures.items c.loop-number-test.true c.in_ok-make_page.ensures.number_is c.loop-number.invariant.numbers;
    }
