-- A seat taken apart.
use Rattle.std.proofs.Common.{◌≡◌, ◌≢◌, ℕ, ◌<◌, ◌==◌, true, false, true≢false, List, [], map, length, get_or, sym, refl, ap, ◌∙◌, subst, ne_eqb}
use mathlib.Core.Logic.{dite}
use native.Mathlib.Decide.{ℕ_discrete}
use Rattle.std.proofs.lemmas.List.{length-map, get_or-map}
use Rattle.steal_workers.specs.declared.share.Share.{Share}
use Rattle.steal_workers.specs.declared.seat.Seat.TheInside.{Inside}
use Rattle.list_weights.specs.Weights.{weigh}
use Rattle.steal_workers.specs.inside.Handles.{deque_of, is_own}
use Rattle.steal_workers.specs.inside.Shares.{dealt_to, is_own_share, is_marked, taken_weights}
use Rattle.steal_workers.specs.Deals.{IsDealt}
use Rattle.steal_workers.specs.SeatViews.{SeatView, seat_count, HasMark}
use Rattle.steal_workers.specs.Seats.{seat_view, IsSound}
use Rattle.steal_workers.specs.Gathers.{IsStack}

module _ {T : Type 0} where
  own_mark_at : (xs : List (Share T)) (place d : ℕ) (e : Share T) → d < length xs → get_or (map is_marked xs) place false ≡ true → is_own (get_or xs d e).handle ≡ (d == place) → is_own (get_or xs d e).handle ≡ true → (get_or xs d e).marked ≡ true
  own_mark_at xs place d e within marked is own = dite (ℕ_discrete d place)
      (λ (same : d ≡ place). sym (get_or-map is_marked xs d e false within) ∙ ap (λ n. get_or (map is_marked xs) n false) same ∙ marked)
      (λ (ne : d ≢ place). absurd (true≢false (sym own ∙ is ∙ ne_eqb d place ne)))

  stack_of_inside : (s : Inside T) → IsSound s → IsStack (HasMark (seat_view s) s.place) (seat_view s).deal (seat_count (seat_view s).deal) (record { place = s.place; shares = s.shares })
  stack_of_inside s sound = record {
    count = sym (length-map s.shares.items (λ (share : Share T). deque_of share.handle));
    each = λ d e w. (
      sound.shares d e w,
      (λ f. sym (get_or-map (λ (share : Share T). deque_of share.handle) s.shares.items d e f w)),
      sym (get_or-map dealt_to s.shares.items d e [] w),
      (sym (get_or-map is_own_share s.shares.items d e false w) ∙ sound.own d w),
      λ marked own. own_mark_at s.shares.items s.place d e w marked (sym (get_or-map is_own_share s.shares.items d e false w) ∙ sound.own d w) own,
    );
  }

  pub stack_of_seat : (s : Inside T) (v : SeatView T) → IsSound s → seat_view s ≡ v
      → (s.place ≡ v.place) × IsStack (HasMark v v.place) v.deal (seat_count v.deal) (record { place = s.place; shares = s.shares })
  stack_of_seat s v sound is =
      subst (λ (u : SeatView T). (s.place ≡ u.place) × IsStack (HasMark u u.place) u.deal (seat_count u.deal) (record { place = s.place; shares = s.shares })) is (refl, stack_of_inside s sound)

  pub numbers_of_seat : (s : Inside T) (v : SeatView T) → IsSound s → seat_view s ≡ v → (h : ℕ → ℕ) → weigh h v.numbers ≡ taken_weights h s.shares.items
  numbers_of_seat s v sound is h = subst (λ (u : SeatView T). weigh h u.numbers ≡ taken_weights h s.shares.items) is (sound.numbers h)

  pub dealt_of_seat : (s : Inside T) (v : SeatView T) → IsSound s → seat_view s ≡ v → IsDealt v.deal.queues v.deal.tasks × (length v.deal.queues ≡ seat_count v.deal)
  dealt_of_seat s v sound is =
      subst (λ (u : SeatView T). IsDealt u.deal.queues u.deal.tasks × (length u.deal.queues ≡ seat_count u.deal)) is
      (sound.dealt, length-map s.shares.items dealt_to ∙ sym (length-map s.shares.items (λ (share : Share T). deque_of share.handle)))
