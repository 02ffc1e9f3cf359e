use Rattle.std.proofs.Common.{◌≡◌, ℕ, List, length, vec_len, ap, sym, ◌∙◌, subst}
use Rattle.std.proofs.lemmas.List.{with_items_is}
use Rattle.steal_workers.specs.SeatViews.{SeatView}
use Rattle.steal_workers.specs.WholeDeals.{IsWholeDeal}
use Rattle.steal_workers.proofs.SameSeats.{same_seats_whole}
use Rattle.part_tests.proofs.seats.eight_seats_take_every_task_once.Goals as goal

pub left-requires : goal.left-requires
left-requires g c =
    let before = c.in_ok-seats.seats in
    let after = c.count_by_all.new.seats in
    let lent = c.as_mut_slice.ensures.value in
    let long : length after ≡ vec_len before = c.count_by_all.ensures.0 ∙ ap length lent ∙ sym before.ok.0 in
    subst (λ (l : List (SeatView ℕ)). IsWholeDeal l) (sym (with_items_is before after long))
    (same_seats_whole _ after c.count_by_all.ensures (subst (λ (l : List (SeatView ℕ)). IsWholeDeal l) (sym lent) c.in_ok-seats.ensures.whole))
