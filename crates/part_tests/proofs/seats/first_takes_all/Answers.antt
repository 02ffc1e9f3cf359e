use Rattle.std.proofs.Common.{◌≡◌, ℕ, List, ◌++◌, length, drop, take, set, vec_len, ap, sym, ◌∙◌, subst}
use Rattle.std.proofs.Math.ListN.{length-set}
use Rattle.std.proofs.Math.Seq.{take-append_seam}
use Rattle.steal_workers.specs.SeatViews.{SeatView}
use Rattle.steal_workers.specs.WholeDeals.{IsWholeDeal}
use Rattle.steal_workers.proofs.SameSeats.{same_seats_refl, same_seats_step, same_seats_whole}
use Rattle.part_tests.proofs.seats.first_takes_all.Goals as goal

front : {X : Type 0} (n : ℕ) (xs rest : List X) → length xs ≡ n → take n (xs ++ rest) ≡ xs
front n xs rest same = subst (λ (m : ℕ). take m (xs ++ rest) ≡ xs) same (take-append_seam xs rest)

pub left-requires : goal.left-requires
left-requires g c =
    let before = c.in_ok-seats.seats in
    let after = c.find_none.new.seats in
    let first = c.take_all.new.seat in
    let lent = c.as_mut_slice.ensures.value in
    let stepped = same_seats_step before.items before.items 0 c.index_mut.result.now first (same_seats_refl before.items) c.index_mut.ensures.value c.take_all.ensures in
    let whole = subst (λ (l : List (SeatView ℕ)). IsWholeDeal l) (sym lent) (same_seats_whole before.items (set before.items 0 first) stepped c.in_ok-seats.ensures.whole) in
    let long : length after ≡ vec_len before = c.find_none.ensures.0 ∙ ap length lent ∙ length-set before.items 0 first ∙ sym before.ok.0 in
    subst (λ (l : List (SeatView ℕ)). IsWholeDeal l) (sym (front (vec_len before) after (drop (length after) (set before.items 0 first)) long))
    (same_seats_whole c.as_mut_slice.result.now after c.find_none.ensures whole)
