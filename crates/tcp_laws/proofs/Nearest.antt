-- an arriving number names the nearest offset
use Rattle.std.proofs.Common.{◌≡◌, ℕ, ◌+◌, ◌-◌, ◌%◌, ◌^◌, ◌<◌, ◌≤◌, nat_lt, true, false, Bool, if◌then◌else◌, ap, ◌∙◌, arith}
use Rattle.std.proofs.lemmas.Bool.Decides.{nat_tests}
use Rattle.sock_tcp.specs.declared.segment.number.Distance.{Distance}
use Rattle.sock_tcp.specs.declared.segment.number.Distance.TheVariants.{Ahead, Behind}
use Rattle.sock_tcp.specs.segment.Number.{wire, distance}

ahead_by : (start e o : ℕ) → e ≤ o → o < e + 2 ^ 31 → ((start + o) % 2 ^ 32 + (2 ^ 32 - (start + e) % 2 ^ 32)) % 2 ^ 32 ≡ o - e
ahead_by start e o a b = omega arith

behind_by : (start e o : ℕ) → o < e → e ≤ o + 2 ^ 31 → ((start + o) % 2 ^ 32 + (2 ^ 32 - (start + e) % 2 ^ 32)) % 2 ^ 32 ≡ 2 ^ 32 - (e - o)
behind_by start e o a b = omega arith

below : (n m : ℕ) → n < m → nat_lt n m ≡ true
below n m h = grind (arith, nat_tests)

above : (n m : ℕ) → m ≤ n → nat_lt n m ≡ false
above n m h = grind (arith, nat_tests)

abbrev chosen : ℕ → Distance
chosen a = if nat_lt a (2 ^ 31) then Ahead a else Behind (2 ^ 32 - a)

pub distance_ahead : (start e o : ℕ) → e ≤ o → o < e + 2 ^ 31 → distance (wire start e) (wire start o) ≡ Ahead (o - e)
unfolding distance wire
distance_ahead start e o a b =
    ap chosen (ahead_by start e o a b)
    ∙ ap (λ (t : Bool). if t then Ahead (o - e) else Behind (2 ^ 32 - (o - e))) (below (o - e) (2 ^ 31) (omega arith))

pub distance_behind : (start e o : ℕ) → o < e → e ≤ o + 2 ^ 31 → distance (wire start e) (wire start o) ≡ Behind (e - o)
unfolding distance wire
distance_behind start e o a b =
    let far : ℕ = 2 ^ 32 - (e - o) in
    let back : 2 ^ 32 - far ≡ e - o = omega arith in
    ap chosen (behind_by start e o a b)
    ∙ (ap (λ (t : Bool). if t then Ahead far else Behind (2 ^ 32 - far)) (above far (2 ^ 31) (omega arith)) ∙ ap Behind back)
