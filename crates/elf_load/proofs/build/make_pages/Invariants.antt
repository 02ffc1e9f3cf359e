use Rattle.std.proofs.Common.{◌≡◌, take, map}
use Rattle.std.specs.Prelude.{flat_map}
use Rattle.elf_load.specs.Cells.{cells_of_page}
use Rattle.elf_load.specs.Image.{cells_on}
use Rattle.elf_load.proofs.build.make_pages.Given as goal

abbrev pub invariant-loop-number : goal.invariant-loop-number
invariant-loop-number l = record {
  cells : flat_map cells_of_page l.pages.items ≡ flat_map (cells_on l.bytes l.segments) (take l.number-index l.numbers);
  numbers : map (λ page. page.number) l.pages.items ≡ take l.number-index l.numbers;
}
