-- numbers on the wire
use Rattle.std.proofs.Common.{◌≡◌, ℕ, ◌+◌, ◌*◌, ◌%◌, ◌^◌, ◌<◌, ◌≤◌, ap, ◌∙◌, arith}
use Rattle.std.proofs.Math.Pow.{pow_mono}
use Rattle.std.proofs.Math.Nat.{mod-add-mod, add-mod-mod}
use Rattle.sock_tcp.specs.segment.Number.{wire}

-- an offset from an offset
pub wire_wire : (start a b : ℕ) → wire (wire start a) b ≡ wire start (a + b)
unfolding wire
wire_wire start a b =
    let e : start + a + b ≡ start + (a + b) = omega arith in
    mod-add-mod (start + a) (2 ^ 32) b ∙ ap (λ n. n % 2 ^ 32) e

-- the sum that the code makes, as the definition has it
pub ruleset wires = (wire_wire)

-- a count that is cut before
pub ruleset sums = (add-mod-mod)

-- the doubled seconds of the first retries
pub seconds_within : (retries : ℕ) → retries < 6 → 1 * 2 ^ retries % 18446744073709551616 ≤ 60
seconds_within retries h =
    let b : 2 ^ retries ≤ 32 = pow_mono {i = retries} {j = 5} (omega arith) in
    omega (arith, b)
