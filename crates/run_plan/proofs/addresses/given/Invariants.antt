use Rattle.std.proofs.Common.{◌≡◌, take}
use Rattle.run_plan.specs.Addresses.{given_addresses}
use Rattle.run_plan.proofs.addresses.given.Given as goal

abbrev pub invariant-loop-host : goal.invariant-loop-host
invariant-loop-host l = l.given.items ≡ given_addresses (take l.host-index l.hosts)
