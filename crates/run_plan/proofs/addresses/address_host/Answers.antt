use Rattle.std.proofs.Common.{arith}
use Rattle.run_plan.proofs.AddressLemmas.{count_less}
use Rattle.run_plan.proofs.addresses.address_host.Goals as goal

pub returns-in-None-clause-room : goal.returns-in-None-clause-room
returns-in-None-clause-room c = omega (arith, count_less c.args.given.now c.least_open-bits.result)
