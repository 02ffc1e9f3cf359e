use Rattle.std.proofs.Common.{◌≡◌, ◌+◌, ◌-◌, ◌<◌, min, max, arith, refl}
use Rattle.elf_load.proofs.Laying.{laid_at}
use Rattle.elf_load.proofs.build.lay.Goals as goal
use Rattle.elf_load.specs.Room.{page_size}

pub returns-then-begin-end : goal.returns-then-begin-end
returns-then-begin-end c = record {
  laid = λ offset within.
      let begins : c.max-begin.result ≡ max c.args.address c.args.segment.now.address = omega arith in
      let ends : c.min-end.result ≡ min (c.args.address + page_size) (c.args.segment.now.address + c.args.segment.now.file_size) = omega arith in
      let some : c.max-begin.result < c.min-end.result = omega arith in
      laid_at c.args.page.now c.args.bytes.now c.copy_from_slice.new.self c.args.segment.now c.args.address c.max-begin.result c.min-end.result (c.max-begin.result - c.args.address) _ _ _
      c.requires.whole c.requires.in_file begins ends some refl (omega arith) (omega arith) (omega arith) c.copy_from_slice.ensures.after offset within;
}
