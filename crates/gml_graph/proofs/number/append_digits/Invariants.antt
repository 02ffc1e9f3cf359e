use Rattle.std.proofs.Common.{◌≡◌, ◌+◌, ◌*◌, ◌^◌, ◌≤◌, ◌-◌, length, take}
use Rattle.gml_graph.specs.Number.{natural_after}
use Rattle.gml_graph.proofs.number.append_digits.Given as goal

abbrev pub invariant-loop-digit : goal.invariant-loop-digit
invariant-loop-digit l = (l.number ≡ natural_after l.start (take l.digit-index l.digits)) × ((l.number + 1) * 10 ^ (length l.digits - l.digit-index) ≤ (l.start + 1) * 10 ^ length l.digits)
