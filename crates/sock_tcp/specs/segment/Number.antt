-- sequence numbers (RFC 9293, section 3.4)
use Rattle.std.specs.Prelude.{ℕ, ◌+◌, ◌-◌, ◌%◌, ◌^◌, nat_lt, if◌then◌else◌}
use Rattle.sock_tcp.specs.declared.segment.number.Distance.{Distance}
use Rattle.sock_tcp.specs.declared.segment.number.Distance.TheVariants.{Ahead, Behind}

-- the number on the wire of an offset in a stream whose first number is start
unfoldable pub wire : ℕ → ℕ → ℕ
wire start offset = (start + offset) % 2 ^ 32

-- how far a number is from the expected one, by the signed difference of 32 bits
unfoldable pub distance : ℕ → ℕ → Distance
distance expected number =
    let ahead = (number + (2 ^ 32 - expected)) % 2 ^ 32 in
    if nat_lt ahead (2 ^ 31) then Ahead ahead else Behind (2 ^ 32 - ahead)
