use Rattle.std.proofs.Common.{◌≡◌, ℕ, ◌*◌, ◌<◌, true}
use Rattle.number_sets.specs.Sets.{has_in}
use Rattle.number_sets.proofs.set.NumberSet.least_absent.Given as goal

-- all numbers of the words that were looked at are there
abbrev pub invariant-loop-place : goal.invariant-loop-place
invariant-loop-place l = (n : ℕ) → n < l.place * 64 → has_in l.self.words.items n ≡ true
