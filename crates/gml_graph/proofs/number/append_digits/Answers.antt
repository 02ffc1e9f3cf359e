use Rattle.std.proofs.Common.{ℕ, suc, ◌≡◌, ◌+◌, ◌-◌, ◌*◌, ◌^◌, ◌<◌, ◌≤◌, List, length, get_or, arith, true, subst}
use Rattle.std.specs.List.{list_all}
use Rattle.std.specs.Char.{is_ascii_digit}
use Rattle.std.proofs.lemmas.List.Sums.{fold_more}
use Rattle.sim_base.specs.Ascii.{digit_0}
use Rattle.gml_graph.proofs.NumberLemmas.{digit_fits, digit_small, room_more}
use Rattle.gml_graph.proofs.number.append_digits.Goals as goal

room_at : (n len i most : ℕ) → i < len → (n + 1) * 10 ^ (len - i) ≤ most → (n + 1) * 10 ^ suc (len - (i + 1)) ≤ most
room_at n len i most lt h = let P : ℕ → Type 0 = λ k. (n + 1) * 10 ^ k ≤ most in subst P (let e : len - i ≡ suc (len - (i + 1)) = omega arith in e) h

fits_at : (start n i : ℕ) (ds : List ℕ) → list_all is_ascii_digit ds ≡ true → (start + 1) * 10 ^ length ds ≤ 10 ^ 36 → i < length ds
    → (n + 1) * 10 ^ (length ds - i) ≤ (start + 1) * 10 ^ length ds → 10 * n + (get_or ds i 0 - digit_0) + 1 ≤ 10 ^ 36
fits_at start n i ds all room lt so_far =
    let one = digit_fits n (get_or ds i 0 - digit_0) (length ds - (i + 1)) _ (digit_small ds i all lt) (room_at n (length ds) i _ lt so_far) in
    omega (arith, one)

pub overflow_mul-number : goal.overflow_mul-number
overflow_mul-number c =
    let fits = fits_at c.args.start c.loop-digit.number c.loop-digit.digit-index c.args.digits.now c.requires.digits c.requires.room c.loop-digit-test.true c.loop-digit.invariant.1 in
    omega (arith, fits)

pub overflow_add-number : goal.overflow_add-number
overflow_add-number c =
    let fits = fits_at c.args.start c.loop-digit.number c.loop-digit.digit-index c.args.digits.now c.requires.digits c.requires.room c.loop-digit-test.true c.loop-digit.invariant.1 in
    omega (arith, fits, c.from.ensures)

pub loop-digit-preserved : goal.loop-digit-preserved
loop-digit-preserved c =
    let ds = c.args.digits.now in
    let i = c.loop-digit.digit-index in
    let n = c.loop-digit.number in
    let step = fold_more (λ m d. 10 * m + (d - digit_0)) c.args.start ds i 0 c.loop-digit-test.true in (
      grind (arith, step, c.from.ensures, c.loop-digit.invariant.0),
      grind (arith, c.from.ensures, room_more n (get_or ds i 0 - digit_0) (length ds - (i + 1)) _ (digit_small ds i c.requires.digits c.loop-digit-test.true) (room_at n (length ds) i _ c.loop-digit-test.true c.loop-digit.invariant.1)),
    )
