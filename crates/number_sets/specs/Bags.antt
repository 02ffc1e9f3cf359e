-- bags of numbers: how many times each is there
use Rattle.std.specs.Prelude.{◌≡◌, ℕ, ◌==◌, Option, Some, None, nat_lt, if◌then◌else◌}
use Rattle.std.specs.HashMap.{get}
use Rattle.number_sets.specs.declared.bag.NumberBag.{NumberBag}
use Rattle.number_sets.specs.Sets.{has}

abbrev pub count_in : Option ℕ → ℕ
count_in None = 0
count_in (Some times) = times

abbrev pub count : NumberBag → ℕ → ℕ
count b n = count_in (get (λ k q. k == q) b.counts n)

-- once at a number
abbrev pub one : ℕ → ℕ → ℕ
one number n = if n == number then 1 else 0

-- each number is in the bag so many times, and is a member where that isn't 0
abbrev pub Holds : NumberBag → (ℕ → ℕ) → Type 0
Holds b times = (n : ℕ) → (count b n ≡ times n) × (has b.members n ≡ nat_lt 0 (times n))
