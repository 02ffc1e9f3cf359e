use Rattle.std.proofs.Common.{◌≡◌, drop, false}
use Rattle.yaml_tokens.specs.Scalars.{single_quoted}
use Rattle.yaml_tokens.proofs.ScanSteps.{behind_front}
use Rattle.yaml_tokens.proofs.scan.single_quoted.Given as goal

abbrev pub invariant-loop-i : goal.invariant-loop-i
invariant-loop-i l = behind_front l.text.items l.i (single_quoted l.held (drop l.i l.bytes)) ≡ single_quoted false l.bytes
