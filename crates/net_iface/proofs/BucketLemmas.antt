-- a bucket's milliseconds, walked and computed
use Rattle.std.proofs.Common.{◌≡◌, ℕ, zero, suc, ◌+◌, ◌-◌, ◌*◌, ◌^◌, ◌<◌, ◌≤◌, inl, inr, min, max, Bool, true, false, cond, refl, ap, ◌∙◌, arith}
use Rattle.std.proofs.lemmas.Bool.{cases_lt}
use Rattle.std.proofs.lemmas.Bool.Decides.{nat_tests}
use Rattle.std.proofs.lemmas.Grind.{div_ceil_times}
use Rattle.std.proofs.Math.Nat.{mul-le-mul_left}
use Rattle.std.specs.Prelude.{nat_le}
use Rattle.std.specs.Int.{div_ceil}
use Rattle.net_iface.specs.Bucket.{BucketState, ticked, after_ticks, ticks_until}
use Rattle.sim_base.specs.Packet.{max_packet}
use Rattle.sim_base.specs.Units.{max_u64}

abbrev pub bucket : ℕ → ℕ → ℕ → BucketState
bucket r t m = record { rate = r; tokens = t; millis = m }

pub same_bucket : (r s t m n : ℕ) → s ≡ t → m ≡ n → bucket r s m ≡ bucket r t n
same_bucket r s t m n p q = λ i. bucket r (p i) (q i)

-- after n milliseconds n rates came in, up to what the bucket holds
pub after_ticks_closed : (n r t m : ℕ) → t ≤ r + max_packet → after_ticks n (bucket r t m) ≡ bucket r (min (t + n * r) (r + max_packet)) (m + n)
unfolding after_ticks
after_ticks_closed zero r t m held = same_bucket r _ _ _ _ (omega arith) (omega arith)
after_ticks_closed (suc n) r t m held =
    after_ticks_closed n r (min (t + r) (r + max_packet)) (m + 1) (omega arith)
    ∙ same_bucket r _ _ _ _ (omega arith) (omega arith)

some_factor : (k r x : ℕ) → x ≤ k * r → 0 < x → 1 ≤ k
some_factor zero r x within some = omega arith
some_factor (suc k) r x within some = omega arith

not_less : (r k d x : ℕ) → x ≤ k * r → d * r < x + r → d ≤ k
not_less r k d x above below = elim (cases_lt k d) [
  | inl less ↦ absurd (omega (arith, mul-le-mul_left r less))
  | inr no_less ↦ no_less
]

same_multiple : (r k d x : ℕ) → x ≤ k * r → k * r < x + r → x ≤ d * r → d * r < x + r → k ≡ d
same_multiple r k d x a b c e = omega (arith, not_less r k d x a e, not_less r d k x c b)

ceil_some : (x r : ℕ) → 1 ≤ r → 0 < x → 1 ≤ div_ceil x r
ceil_some x r some more = some_factor (div_ceil x r) r x (div_ceil_times x r some).0 more

ceil_small : (x r : ℕ) → 1 ≤ r → x ≤ r → div_ceil x r ≤ 1
ceil_small x r some small = not_less r 1 (div_ceil x r) x (omega arith) (div_ceil_times x r some).1

ceil_more : (x r : ℕ) → 1 ≤ r → div_ceil (x + r) r ≡ 1 + div_ceil x r
ceil_more x r some =
    let here = div_ceil_times x r some in
    let there = div_ceil_times (x + r) r some in
    same_multiple r (div_ceil (x + r) r) (1 + div_ceil x r) (x + r) there.0 there.1 (omega (arith, here.0)) (omega (arith, here.1))

until_step : (seen n r t m : ℕ) → 1 ≤ r → n ≤ r + max_packet → n ≤ t + suc seen * r
    → ((u k : ℕ) → n ≤ u + seen * r → 1 ≤ seen → ticks_until seen n (bucket r u k) ≡ max 1 (div_ceil (n - u) r))
    → (enough : Bool) → nat_le n (min (t + r) (r + max_packet)) ≡ enough
    → cond enough 1 (1 + ticks_until seen n (ticked (bucket r t m))) ≡ max 1 (div_ceil (n - t) r)
until_step seen n r t m some fits within later true e =
    let reached : n ≤ min (t + r) (r + max_packet) = grind (arith, nat_tests) in
    let small = ceil_small (n - t) r some (omega arith) in
    omega (arith, small)
until_step seen n r t m some fits within later false e =
    let short : min (t + r) (r + max_packet) < n = grind (arith, nat_tests) in
    let left = some_factor seen r (n - (t + r)) (omega arith) (omega arith) in
    let rest = later (min (t + r) (r + max_packet)) (m + 1) (omega arith) left in
    let same : n - min (t + r) (r + max_packet) ≡ n - (t + r) = omega arith in
    let some_more = ceil_some (n - (t + r)) r some (omega arith) in
    let more = ceil_more (n - (t + r)) r some in
    let whole : n - (t + r) + r ≡ n - t = omega arith in
    omega (arith, rest, ap (λ x. div_ceil x r) same, some_more, more, ap (λ x. div_ceil x r) whole)

-- the milliseconds until there are n tokens, by one division
pub ticks_until_closed : (seen n r t m : ℕ) → 1 ≤ r → n ≤ r + max_packet → n ≤ t + seen * r → 1 ≤ seen
    → ticks_until seen n (bucket r t m) ≡ max 1 (div_ceil (n - t) r)
unfolding ticks_until
ticks_until_closed zero n r t m some fits within none = absurd (omega arith)
ticks_until_closed (suc seen) n r t m some fits within none =
    until_step seen n r t m some fits within (λ u k. ticks_until_closed seen n r u k some fits) (nat_le n (min (t + r) (r + max_packet))) refl

-- what comes in fits, though the product may not
pub gained : (e r t : ℕ) → t ≤ r + max_packet → r < 2 ^ 62 → t + min (min (e * r) max_u64) (r + max_packet - t) ≡ min (t + e * r) (r + max_packet)
gained e r t held small = omega arith
