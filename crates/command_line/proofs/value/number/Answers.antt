use Rattle.std.proofs.Common.{rules, arith, ◌≡◌, ◌<◌, ◌^◌, sym, true}
use Rattle.command_line.specs.Asked.{is_decimal}
use Rattle.command_line.proofs.Numbers.{not_parsed}
use Rattle.command_line.proofs.value.number.Goals as goal

pub returns-in-Err : goal.returns-in-Err
returns-in-Err c =
    let small : c.args.most < 2 ^ 32 = omega arith in
    let decimal : is_decimal c.args.text.now ≡ true = search rules in
    sym (not_parsed c.args.least c.args.most c.args.text.now c.parse.result c.in-Err.field-0 small decimal c.parse.ensures.value.0 c.in-Err.is)
