-- the random words that hosts draw
use Rattle.std.specs.Prelude.{ℕ, zero, suc, List}
use Rattle.rand_xoshiro.specs.SplitMix64.{splitmix_seed}
use Rattle.rand_xoshiro.specs.Xoshiro256.{of_seed, plus_plus}

-- one step of xoshiro256++ (Blackman and Vigna, "Scrambled linear pseudorandom number generators"):
-- the word that a state gives, and the state after it
abbrev pub draw : List ℕ → ℕ × List ℕ
draw s = plus_plus s

-- the state that a number seeds, by SplitMix64
abbrev pub seeded : ℕ → List ℕ
seeded n = of_seed (splitmix_seed 32 n)

-- word n of those that a state gives, from 0
abbrev pub word_of : List ℕ → ℕ → ℕ
word_of s zero = (draw s).0
word_of s (suc n) = word_of (draw s).1 n

-- the generator of a host is seeded by the word with the host's number of the generator that the
-- experiment's seed seeds
abbrev pub host_generator : ℕ → ℕ → List ℕ
host_generator seed index = seeded (word_of (seeded seed) index)

-- word n that a host draws, from 0
abbrev pub host_word : ℕ → ℕ → ℕ → ℕ
host_word seed index n = word_of (host_generator seed index) n
