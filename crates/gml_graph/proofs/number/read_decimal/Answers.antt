use Rattle.std.proofs.Common.{ℕ, ◌+◌, ◌*◌, ◌^◌, ◌≤◌, length, arith}
use Rattle.std.proofs.lemmas.Nat.{pow-add}
use Rattle.std.proofs.Math.Nat.{mul-le-mul_right}
use Rattle.gml_graph.proofs.NumberLemmas.{ten_mono}
use Rattle.gml_graph.proofs.number.read_decimal.Goals as goal
use Rattle.gml_graph.specs.Limits.{most_digits}

pub append_digits-requires-clause-room : goal.append_digits-requires-clause-room
append_digits-requires-clause-room c = omega (arith, ten_mono (length c.split_digits.result.0.now) most_digits (omega arith))

room_after : (n i j : ℕ) → n + 1 ≤ 1 * 10 ^ i → i + j ≤ most_digits → (n + 1) * 10 ^ j ≤ 10 ^ most_digits
room_after n i j h le = omega (arith, mul-le-mul_right (10 ^ j) h, pow-add 10 i j, ten_mono (i + j) most_digits le)

pub append_digits-requires-2-clause-room : goal.append_digits-requires-2-clause-room
append_digits-requires-2-clause-room c = room_after c.append_digits.result (length c.split_digits.result.0.now) (length c.split_fraction.result.0.now) c.append_digits.ensures.below (omega arith)
