-- buckets of tokens (this project's own profile)
use Rattle.std.specs.Prelude.{ℕ, zero, suc, ◌+◌, ◌-◌, ◌*◌, ◌/◌, ◌^◌, ◌<◌, ◌≤◌, min, max, Bool, true, false, nat_le, if◌then◌else◌}
use Rattle.sim_base.specs.Packet.{max_packet}
use Rattle.sim_base.specs.Units.{millisecond, second, max_u64}

-- the bytes that the bucket gets at each whole millisecond, its tokens, and the milliseconds that have come
pub record BucketState : Type 0 where
  pub rate : ℕ
  pub tokens : ℕ
  pub millis : ℕ

-- what a bucket keeps: beyond the rate of a millisecond there is room for one largest packet
pub record IsBucket (rate tokens : ℕ) : Type 0 where
  pub some : 1 ≤ rate
  pub small : rate < 2 ^ 62
  pub held : tokens ≤ rate + max_packet

-- the bits a second of a byte a millisecond
abbrev pub byte_a_millisecond : ℕ
byte_a_millisecond = 8 * (second / millisecond)

-- a full bucket at time 0, for a rate in bits a second
abbrev pub full_bucket : ℕ → BucketState
full_bucket bits = let rate = max 1 (bits / byte_a_millisecond) in record { rate = rate; tokens = rate + max_packet; millis = 0 }

-- the next whole millisecond comes: the bucket gets its rate, up to what it holds
abbrev pub ticked : BucketState → BucketState
ticked b = record { rate = b.rate; tokens = min (b.tokens + b.rate) (b.rate + max_packet); millis = b.millis + 1 }

-- some whole milliseconds come, one after another
unfoldable pub after_ticks : ℕ → BucketState → BucketState
after_ticks zero b = b
after_ticks (suc n) b = after_ticks n (ticked b)

-- the bucket at a time in nanoseconds
abbrev pub bucket_at : ℕ → BucketState → BucketState
bucket_at now b = after_ticks (now / millisecond - b.millis) b

abbrev pub spent : ℕ → BucketState → BucketState
spent n b = record b { tokens = b.tokens - n }

-- a packet that is dropped spends nothing
abbrev pub paid : Bool → ℕ → BucketState → BucketState
paid true n b = b
paid false n b = spent n b

-- how many whole milliseconds must come until there are n tokens, at least one, seen for as many as told
unfoldable pub ticks_until : ℕ → ℕ → BucketState → ℕ
ticks_until zero n b = 0
ticks_until (suc seen) n b = if nat_le n (ticked b).tokens then 1 else 1 + ticks_until seen n (ticked b)

-- the nanoseconds of the first whole millisecond to come at which there are n tokens, at most those that 64 bits hold; since
-- each brings a token at least, n of them are enough
abbrev pub due_with : ℕ → BucketState → ℕ
due_with n b = min ((b.millis + ticks_until (n + 1) n b) * millisecond) max_u64
