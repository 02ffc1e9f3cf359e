-- digits and powers of ten
use Rattle.std.proofs.Common.{cond, one-add, ◌≢◌, ⊎_elim, leb, ◌≡◌, ℕ, zero, suc, ◌+◌, ◌-◌, ◌*◌, ◌/◌, ◌^◌, ◌<◌, ◌≤◌, Bool, true, false, List, [], ◌∷◌, length, take, get_or, refl, sym, ap, ◌∙◌, arith}
use Rattle.std.specs.List.{prefix_len, list_all}
use Rattle.std.specs.Char.{is_ascii_digit}
use Rattle.std.proofs.lemmas.Nat.{pow-add}
use Rattle.std.proofs.lemmas.Bool.Decides.{leb_tells}
use Rattle.std.proofs.lemmas.Bool.{le-leb}
use Rattle.std.specs.Prelude.{nat_le}
use Rattle.std.proofs.lemmas.Bool.Decides.{nat_tests}
use Rattle.gml_graph.specs.declared.number.Decimal.{Decimal}
use Rattle.gml_graph.specs.Number.{is_part, units}
use Rattle.std.proofs.lemmas.Grind.{pow_more, common_steps}
use Rattle.std.proofs.Math.Nat.{mul-div-mul_right, mul-div_cancel, mul-le-mul_left, mul-le-mul_right, div-eq_of_lt, div-le_of_le-mul, mul_assoc, pow-suc}
use Rattle.sim_base.specs.Ascii.{digit_0}

pub ten_pos : (k : ℕ) → 0 < 10 ^ k
ten_pos zero = omega arith
ten_pos (suc k) = omega (arith, ten_pos k, pow_more 10 k)

pub ten_mono : (i j : ℕ) → i ≤ j → 10 ^ i ≤ 10 ^ j
ten_mono i j h =
    let e : 10 ^ j ≡ 10 ^ i * 10 ^ (j - i) = ap (λ k. 10 ^ k) (let k : j ≡ i + (j - i) = omega arith in k) ∙ pow-add 10 i (j - i) in
    let p = ten_pos (j - i) in
    omega (arith, e, mul-le-mul_left (10 ^ i) (let q : 1 ≤ 10 ^ (j - i) = omega (arith, p) in q))

-- one more digit keeps the bound
pub room_more : (n d r most : ℕ) → d < 10 → (n + 1) * 10 ^ suc r ≤ most → (10 * n + d + 1) * 10 ^ r ≤ most
room_more n d r most small room =
    let e : (n + 1) * 10 ^ suc r ≡ (10 * n + 10) * 10 ^ r = rw pow-suc (grind arith) in
    let le : 10 * n + d + 1 ≤ 10 * n + 10 = omega arith in
    omega (arith, e, mul-le-mul_right (10 ^ r) le)

pub digit_fits : (n d r most : ℕ) → d < 10 → (n + 1) * 10 ^ suc r ≤ most → 10 * n + d + 1 ≤ most
digit_fits n d r most small room =
    let all = room_more n d r most small room in
    let p = ten_pos r in
    let le : (10 * n + d + 1) * 1 ≤ (10 * n + d + 1) * 10 ^ r = mul-le-mul_left (10 * n + d + 1) (let q : 1 ≤ 10 ^ r = omega (arith, p) in q) in
    omega (arith, all, le)

-- a digit of digits
pub digit_small : (ds : List ℕ) (i : ℕ) → list_all is_ascii_digit ds ≡ true → i < length ds → get_or ds i 0 - digit_0 < 10
digit_small [] i all h = absurd (omega arith)
digit_small (d ∷ ds) i all h = grind (arith, common_steps)

lt-leb : (a b : ℕ) → b < a → leb a b ≡ false
lt-leb a b h = ⊎_elim (λ (yes : (leb a b ≡ true) × (a ≤ b)). absurd (omega (arith, yes.1))) (λ (no : (leb a b ≡ false) × (b < a)). no.0) (leb_tells a b)

-- each of the digits at the front is one
all_from : (p : ℕ → Bool) (x : ℕ) (xs : List ℕ) (b : Bool) → b ≡ p x → list_all p (take (prefix_len p xs) xs) ≡ true → list_all p (take (cond b (1 + prefix_len p xs) 0) (x ∷ xs)) ≡ true
all_from p x xs false e rest = refl
all_from p x xs true e rest = rw one-add (rw (← e) rest)

pub all_at_front : (p : ℕ → Bool) (xs : List ℕ) → list_all p (take (prefix_len p xs) xs) ≡ true
all_at_front p [] = refl
all_at_front p (x ∷ xs) = all_from p x xs (p x) refl (all_at_front p xs)

-- a power of ten that fits
pub power_fits : (k : ℕ) → k ≤ 38 → 10 ^ k < 2 ^ 128
power_fits k h = omega (arith, ten_mono k 38 h)

pub greater_power : (n k : ℕ) → n < 2 ^ 128 → 38 < k → n < 10 ^ k
greater_power n k fits h = omega (arith, ten_mono 39 k (omega arith))

-- the units of n over a power of ten
pub units_up : (n places : ℕ) → places ≤ 9 → n * 10 ^ 9 / 10 ^ places ≡ n * 10 ^ (9 - places)
units_up n places h =
    let e : 10 ^ 9 ≡ 10 ^ (9 - places) * 10 ^ places = ap (λ k. 10 ^ k) (let k : 9 ≡ (9 - places) + places = omega arith in k) ∙ pow-add 10 (9 - places) places in
    let top : n * 10 ^ 9 ≡ (n * 10 ^ (9 - places)) * 10 ^ places = ap (λ t. n * t) e ∙ sym (mul_assoc n (10 ^ (9 - places)) (10 ^ places)) in
    ap (λ t. t / 10 ^ places) top ∙ mul-div_cancel (n * 10 ^ (9 - places)) (ten_pos places)

pub units_up_small : (n places : ℕ) → n ≤ 10 ^ places → places ≤ 9 → n * 10 ^ (9 - places) ≤ 10 ^ 9
units_up_small n places small h =
    let e : 10 ^ 9 ≡ 10 ^ places * 10 ^ (9 - places) = ap (λ k. 10 ^ k) (let k : 9 ≡ places + (9 - places) = omega arith in k) ∙ pow-add 10 places (9 - places) in
    omega (arith, e, mul-le-mul_right (10 ^ (9 - places)) small)

places_down : (places : ℕ) → 9 ≤ places → 10 ^ places ≡ 10 ^ (places - 9) * 10 ^ 9
places_down places h = ap (λ k. 10 ^ k) (let k : places ≡ (places - 9) + 9 = omega arith in k) ∙ pow-add 10 (places - 9) 9

pub units_down : (n places : ℕ) → 9 ≤ places → n * 10 ^ 9 / 10 ^ places ≡ n / 10 ^ (places - 9)
units_down n places h = ap (λ t. n * 10 ^ 9 / t) (places_down places h) ∙ mul-div-mul_right n (10 ^ (places - 9)) (ten_pos 9)

pub units_down_small : (n places : ℕ) → n ≤ 10 ^ places → 9 ≤ places → n / 10 ^ (places - 9) ≤ 10 ^ 9
units_down_small n places small h = div-le_of_le-mul (10 ^ (places - 9)) (omega (arith, places_down places h, small))

pub units_down_zero : (n places : ℕ) → n < 2 ^ 128 → 38 + 9 < places → n * 10 ^ 9 / 10 ^ places ≡ 0
units_down_zero n places fits h = units_down n places (omega arith) ∙ div-eq_of_lt (greater_power n (places - 9) fits (omega arith))

-- a number with both powers
both : (k up : ℕ) (down : ℕ) → down ≡ k + up → 10 ^ down ≡ 10 ^ k * 10 ^ up
both k up down h = ap (λ d. 10 ^ d) h ∙ pow-add 10 k up

pub part_same : (n up down : ℕ) → up ≤ down → nat_le (n * 10 ^ up) (10 ^ down) ≡ nat_le n (10 ^ (down - up))
part_same n up down h =
    let e = both (down - up) up down (omega arith) in
    let p = ten_pos up in
    ⊎_elim
    (λ (yes : (leb n (10 ^ (down - up)) ≡ true) × (n ≤ 10 ^ (down - up))).
    le-leb (n * 10 ^ up) (10 ^ down) (omega (arith, e, mul-le-mul_right (10 ^ up) yes.1)) ∙ sym yes.0)
    (λ (no : (leb n (10 ^ (down - up)) ≡ false) × (10 ^ (down - up) < n)).
    lt-leb (n * 10 ^ up) (10 ^ down) (omega (arith, e, p, mul-le-mul_right (10 ^ up) (let q : 10 ^ (down - up) + 1 ≤ n = omega (arith, no.1) in q))) ∙ sym no.0)
    (leb_tells n (10 ^ (down - up)))

pub no_part : (n up down : ℕ) → 0 < n → down < up → nat_le (n * 10 ^ up) (10 ^ down) ≡ false
no_part n up down some h =
    let e = both (up - down) down up (omega arith) in
    let p = ten_pos down in
    let more : 10 ^ 1 ≤ 10 ^ (up - down) = ten_mono 1 (up - down) (omega arith) in
    let wide : 10 * 10 ^ down ≤ 10 ^ (up - down) * 10 ^ down = mul-le-mul_right (10 ^ down) (let q : 10 ≤ 10 ^ (up - down) = omega (arith, more) in q) in
    let all : 1 * 10 ^ up ≤ n * 10 ^ up = mul-le-mul_right (10 ^ up) (let q : 1 ≤ n = omega arith in q) in
    lt-leb (n * 10 ^ up) (10 ^ down) (omega (arith, e, p, wide, all))

pub units_same : (n up down : ℕ) → up ≤ down → n * 10 ^ (up + 9) / 10 ^ down ≡ n * 10 ^ 9 / 10 ^ (down - up)
units_same n up down h =
    let below : 10 ^ down ≡ 10 ^ (down - up) * 10 ^ up = ap (λ k. 10 ^ k) (let k : down ≡ (down - up) + up = omega arith in k) ∙ pow-add 10 (down - up) up in
    let top : n * 10 ^ (up + 9) ≡ (n * 10 ^ 9) * 10 ^ up = ap (λ t. n * t) (ap (λ k. 10 ^ k) (let k : up + 9 ≡ 9 + up = omega arith in k) ∙ pow-add 10 9 up) ∙ sym (mul_assoc n (10 ^ 9) (10 ^ up)) in
    ap (λ t. t / 10 ^ down) top ∙ ap (λ t. (n * 10 ^ 9) * 10 ^ up / t) below ∙ mul-div-mul_right (n * 10 ^ 9) (10 ^ (down - up)) (ten_pos up)

-- the same of a whole record
pub great_part : (d : Decimal) → d.digits ≢ 0 → d.down < d.up → is_part d ≡ false
great_part d some h = let e = no_part d.digits d.up d.down (omega arith) h in grind (arith, nat_tests, e)

pub part_at : (d : Decimal) → d.digits ≢ 0 → d.negative ≡ false → d.up ≤ d.down → is_part d ≡ nat_le d.digits (10 ^ (d.down - d.up))
part_at d some sign h = let e = part_same d.digits d.up d.down h in grind (arith, nat_tests, e)

pub units_at : (d : Decimal) → d.up ≤ d.down → units d ≡ d.digits * 10 ^ 9 / 10 ^ (d.down - d.up)
units_at d h = units_same d.digits d.up d.down h

pub not_chosen : {A : Type 0} (b : Bool) (x y : A) → b ≡ false → y ≡ cond b x y
not_chosen b x y e = rw e refl

pub chosen : {A : Type 0} (b : Bool) (x y z : A) → b ≡ true → z ≡ x → z ≡ cond b x y
chosen b x y z e h = rw e h
