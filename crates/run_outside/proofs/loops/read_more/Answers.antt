use Rattle.std.proofs.Common.{◌≤◌, length, arith}
use Rattle.run_outside.proofs.Reading.{HasRead_more, take_filled}
use Rattle.run_outside.proofs.loops.read_more.Goals as goal

pub returns-clause-more : goal.returns-clause-more
returns-clause-more g c =
    let within : c.in_ok-taken.taken ≤ length c.read.new.into = omega (arith, c.in_ok-taken.ensures.fits, c.read.auto.into) in
    HasRead_more _ _ _ _ _ _ _ c.requires within
    (take_filled c.args.filled c.in_ok-taken.taken c.args.buffer.now c.read.new.into _ c.requires within)
    c.in_ok-taken.ensures.told
