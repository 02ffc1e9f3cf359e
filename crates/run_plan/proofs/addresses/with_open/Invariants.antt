use Rattle.std.proofs.Common.{◌+◌, ◌*◌, ◌≤◌, List, ◌++◌, drop}
use Rattle.sim_base.specs.declared.address.Ip.{Ip}
use Rattle.run_plan.specs.Addresses.{first_address, AreAddressesFrom}
use Rattle.run_plan.specs.inside.Room.{count_from}
use Rattle.run_plan.proofs.addresses.with_open.Given as goal

abbrev pub invariant-loop-host : goal.invariant-loop-host
invariant-loop-host l = record {
  room : l.next + 3 * count_from l.given l.next ≤ first_address + 3 * count_from l.given first_address + 3 * l.host-index;
  goes_on : (rest : List Ip) → AreAddressesFrom l.given l.next (drop l.host-index l.hosts) rest
      → AreAddressesFrom l.given first_address l.hosts (l.addresses.items ++ rest);
}
