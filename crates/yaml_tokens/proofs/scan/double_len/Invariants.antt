use Rattle.std.proofs.Common.{◌≡◌, drop, false}
use Rattle.yaml_tokens.specs.Scalars.{double_len}
use Rattle.yaml_tokens.proofs.ScanSteps.{places_on}
use Rattle.yaml_tokens.proofs.scan.double_len.Given as goal

abbrev pub invariant-loop-i : goal.invariant-loop-i
invariant-loop-i l = places_on l.i (double_len l.escaped (drop l.i l.bytes)) ≡ double_len false l.bytes
