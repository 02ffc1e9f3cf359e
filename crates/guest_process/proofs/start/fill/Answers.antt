use Rattle.std.proofs.Common.{◌≡◌, length, true, None, subst, sym, arith}
use Rattle.guest_mem.specs.Memory.{Memory, write, read}
use Rattle.guest_mem.specs.declared.right.Right.TheVariants.{Write}
use Rattle.guest_mem.specs.Opening.{stack_base}
use Rattle.std.proofs.Common.{is_some}
use Rattle.std.proofs.lemmas.Grind.{common_steps}
use Rattle.guest_process.specs.Start.{filled}
use Rattle.guest_process.specs.Stack.{IsWritable}
use Rattle.guest_process.proofs.Stacks.{read_writable, write_filled, IsWritable_filled}
use Rattle.guest_process.proofs.start.fill.Goals as goal

pub unreachable-requires : goal.unreachable-requires
unreachable-requires c =
    let readable : is_some (read Write (length c.args.bytes.now) c.args.memory.now c.args.at) ≡ true =
    read_writable c.args.memory.now stack_base 0xC0000000 c.requires.stack _ _ c.requires.above c.requires.below in
    let bad : write c.args.memory.now c.args.at c.args.bytes.now ≡ None = c.in-Err.ensures.bad in
    grind (arith, common_steps)

pub returns-clause-stack : goal.returns-clause-stack
returns-clause-stack c =
    let readable : is_some (read Write (length c.args.bytes.now) c.args.memory.now c.args.at) ≡ true =
    read_writable c.args.memory.now stack_base 0xC0000000 c.requires.stack _ _ c.requires.above c.requires.below in
    let e : c.copy_in.new.self ≡ filled c.args.memory.now c.args.at c.args.bytes.now = write_filled _ _ _ _ readable c.in-Ok.ensures.ok in
    subst (λ (m : Memory). IsWritable m stack_base 0xC0000000) (sym e) (IsWritable_filled c.args.memory.now stack_base 0xC0000000 c.args.at c.args.bytes.now c.requires.stack)
