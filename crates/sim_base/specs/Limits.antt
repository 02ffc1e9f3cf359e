-- The limits of an experiment (this project's own profile).
use Rattle.std.specs.Prelude.{ℕ}

abbrev pub most_hosts : ℕ
most_hosts = 16384

-- of a self-load
abbrev pub most_ring_hosts : ℕ
most_ring_hosts = 4096

-- of one host
abbrev pub most_processes : ℕ
most_processes = 64

-- of the texts of one process, with a zero byte behind each
abbrev pub most_text_bytes : ℕ
most_text_bytes = 65536

-- threads that share the work of a run
abbrev pub most_workers : ℕ
most_workers = 64
