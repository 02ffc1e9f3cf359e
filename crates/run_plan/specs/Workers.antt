-- How many workers there are.
use Rattle.std.specs.Prelude.{ℕ, ◌==◌, if◌then◌else◌, min, max}
use Rattle.sim_base.specs.Limits.{most_workers}

-- as many as are asked for, or as there are cores where 0 are; at most most_workers and one for each host, and one at least
abbrev pub worker_count : ℕ → ℕ → ℕ → ℕ
worker_count parallelism cores hosts = max 1 (min hosts (min most_workers (if parallelism == 0 then cores else parallelism)))
