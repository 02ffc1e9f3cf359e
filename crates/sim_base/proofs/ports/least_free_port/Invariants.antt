use Rattle.std.proofs.Common.{◌≡◌, ◌-◌, ◌≤◌}
use Rattle.sim_base.specs.Addresses.{first_free_port, first_given_port, given_ports}
use Rattle.sim_base.proofs.ports.least_free_port.Given as goal

abbrev pub invariant-loop-port : goal.invariant-loop-port
invariant-loop-port l = record {
  first_free : first_free_port l.bound l.port (65536 - l.port) ≡ first_free_port l.bound first_given_port given_ports;
  within : l.port ≤ 65536;
}

abbrev pub decreases-loop-port : goal.decreases-loop-port
decreases-loop-port l = 65536 - l.port
