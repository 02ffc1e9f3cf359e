-- Spans of bytes in a guest's memory that a call is handed.
use Rattle.std.specs.Prelude.{ℕ, Bool, min, List, Option, is_some, unwrap_or}
use Rattle.guest_mem.specs.Memory.{Memory, read, write}
use Rattle.guest_mem.specs.declared.right.Right.TheVariants.{Read, Write}

-- a count of bytes above 65,536 counts as 65,536 (this project's own profile)
abbrev pub most : ℕ
most = 65536

abbrev pub counted : ℕ → ℕ
counted n = min n most

-- the bytes of an int of the guest, and of a socklen_t
abbrev pub int_size : ℕ
int_size = 4

-- the bytes of a span, where each may be read; a span of no bytes is always there
abbrev pub span : ℕ → ℕ → Memory → Option (List ℕ)
span size at memory = read Read size memory at

-- whether each byte of a span may be read, or written
abbrev pub can_read : ℕ → ℕ → Memory → Bool
can_read size at memory = is_some (read Read size memory at)

abbrev pub can_write : ℕ → ℕ → Memory → Bool
can_write size at memory = is_some (read Write size memory at)

-- the memory with some bytes from an address on; where they can't be written it is as it was
abbrev pub filled : ℕ → List ℕ → Memory → Memory
filled at bytes memory = unwrap_or (write memory at bytes) memory
