-- whole square roots
use Rattle.std.specs.Prelude.{ℕ, zero, suc, ◌*◌, nat_le, if◌then◌else◌}

-- the greatest number up to a bound whose square is at most n
unfoldable pub root_below : ℕ → ℕ → ℕ
root_below zero n = 0
root_below (suc k) n = if nat_le (suc k * suc k) n then suc k else root_below k n

-- the greatest number whose square is at most n
abbrev pub root : ℕ → ℕ
root n = root_below n n
