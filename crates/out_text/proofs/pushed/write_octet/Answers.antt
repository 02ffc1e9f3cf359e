use Rattle.std.proofs.Common.{◌-◌, ◌≤◌, length, arith}
use Rattle.std.proofs.lemmas.Fmt.{length-decimal-le}
use Rattle.std.proofs.lemmas.List.{length-set}
use Rattle.std.specs.Fmt.{decimal}
use Rattle.out_text.proofs.pushed.write_octet.Goals as goal

pub write_digits-requires : goal.write_digits-requires
write_digits-requires c =
    let short : length (decimal c.args.octet) ≤ 3 = length-decimal-le 3 c.args.octet (omega arith) (omega (arith, c.requires.octet)) (omega (arith, c.requires.octet)) in
    (omega (arith, short, c.requires.room), omega (arith, c.requires.within, length-set c.args.into.now (c.args.end - 1) c.args.separator))

pub returns-clause-start : goal.returns-clause-start
returns-clause-start c =
    let short : length (decimal c.args.octet) ≤ 3 = length-decimal-le 3 c.args.octet (omega arith) (omega (arith, c.requires.octet)) (omega (arith, c.requires.octet)) in
    omega (arith, short, c.write_digits.ensures.start)
