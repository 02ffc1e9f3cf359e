-- sets of numbers as the bits of words
use Rattle.std.specs.Prelude.{ℕ, ◌/◌, ◌%◌, ◌==◌, Bool, List, slice_index}
use Rattle.std.specs.Int.{bit_at}
use Rattle.number_sets.specs.declared.set.NumberSet.{NumberSet}

-- a number is there where its bit is set: 64 numbers have a word, and those behind the last word aren't there
abbrev pub has_in : List ℕ → ℕ → Bool
has_in words n = bit_at (slice_index words (n / 64)) (n % 64) == 1

abbrev pub has : NumberSet → ℕ → Bool
has s n = has_in s.words.items n
