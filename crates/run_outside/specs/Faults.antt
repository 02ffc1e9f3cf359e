-- counts of the outside's faults
use Rattle.std.specs.Prelude.{ℕ, ◌+◌, ◌≤◌, min}
use Rattle.sim_base.specs.Units.{max_u64}

-- the count is greater than before, or stands at the end of a u64
abbrev pub Rose : ℕ → ℕ → Type 0
Rose before now = (before ≤ now) × (min (before + 1) max_u64 ≤ now)
