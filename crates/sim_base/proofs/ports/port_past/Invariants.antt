use Rattle.std.proofs.Common.{◌≡◌, ◌-◌, ◌≤◌, false, take}
use Rattle.sim_base.specs.Addresses.{has_port, first_free_port}
use Rattle.sim_base.proofs.ports.port_past.Given as goal

abbrev pub invariant-loop-at : goal.invariant-loop-at
invariant-loop-at l = record {
  first_free : first_free_port l.bound l.past (65536 - l.past) ≡ first_free_port l.bound l.port (65536 - l.port);
  no_less : l.port ≤ l.past;
  within : l.past ≤ 65536;
  free : l.past ≡ l.port → has_port (take l.at-index l.bound) l.port ≡ false;
}
