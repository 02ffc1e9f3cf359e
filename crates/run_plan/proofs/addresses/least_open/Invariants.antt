use Rattle.std.proofs.Common.{◌≡◌, ℕ, ◌+◌, ◌-◌, ◌*◌, ◌<◌, ◌≤◌, ◌^◌, false}
use Rattle.run_plan.specs.Addresses.{is_open}
use Rattle.run_plan.specs.inside.Room.{count_from}
use Rattle.run_plan.proofs.AddressLemmas.{passed_over}
use Rattle.run_plan.proofs.addresses.least_open.Given as goal

abbrev pub invariant-loop-at : goal.invariant-loop-at
invariant-loop-at l = record {
  within : l.from ≤ l.at;
  closed : (n : ℕ) → l.from ≤ n → n < l.at → is_open l.given n ≡ false;
  room : l.at + 3 * count_from l.given l.at + passed_over l.at ≤ l.from + 3 * count_from l.given l.from + 2;
}

abbrev pub decreases-loop-at : goal.decreases-loop-at
decreases-loop-at l = 2 ^ 32 - l.at
