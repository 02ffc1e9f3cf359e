use Rattle.std.proofs.Common.{◌≤◌, length, arith}
use Rattle.std.proofs.lemmas.Fmt.{length-decimal-le}
use Rattle.std.specs.Fmt.{decimal}
use Rattle.out_text.proofs.pushed.write_addr.Goals as goal

pub write_digits-port-requires : goal.write_digits-port-requires
write_digits-port-requires c =
    let short : length (decimal c.from.result) ≤ 5 = length-decimal-le 5 c.from.result (omega arith) (omega (arith, c.from.ensures)) c.from.type_inv in
    (omega (arith, short), omega (arith, c.told-into))

pub write_octet-fourth-requires-clause-room : goal.write_octet-fourth-requires-clause-room
write_octet-fourth-requires-clause-room c =
    let short : length (decimal c.from.result) ≤ 5 = length-decimal-le 5 c.from.result (omega arith) (omega (arith, c.from.ensures)) c.from.type_inv in
    omega (arith, short, c.write_digits-port.ensures.start)

pub write_octet-third-requires-clause-room : goal.write_octet-third-requires-clause-room
write_octet-third-requires-clause-room c =
    let short : length (decimal c.from.result) ≤ 5 = length-decimal-le 5 c.from.result (omega arith) (omega (arith, c.from.ensures)) c.from.type_inv in
    omega (arith, short, c.write_digits-port.ensures.start, c.write_octet-fourth.ensures.start)

pub write_octet-second-requires-clause-room : goal.write_octet-second-requires-clause-room
write_octet-second-requires-clause-room c =
    let short : length (decimal c.from.result) ≤ 5 = length-decimal-le 5 c.from.result (omega arith) (omega (arith, c.from.ensures)) c.from.type_inv in
    omega (arith, short, c.write_digits-port.ensures.start, c.write_octet-fourth.ensures.start, c.write_octet-third.ensures.start)

pub write_octet-requires-clause-room : goal.write_octet-requires-clause-room
write_octet-requires-clause-room c =
    let short : length (decimal c.from.result) ≤ 5 = length-decimal-le 5 c.from.result (omega arith) (omega (arith, c.from.ensures)) c.from.type_inv in
    omega (arith, short, c.write_digits-port.ensures.start, c.write_octet-fourth.ensures.start, c.write_octet-third.ensures.start, c.write_octet-second.ensures.start)
