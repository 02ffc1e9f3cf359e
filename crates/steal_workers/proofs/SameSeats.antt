-- The seats of a deal after steps of theirs.
use Rattle.std.proofs.Common.{◌≡◌, ℕ, zero, suc, ◌<◌, List, [], ◌∷◌, map, length, get_or, set, sym, refl, ◌∙◌, subst, arith}
use Rattle.std.proofs.Math.ListN.{length-set}
use Rattle.std.specs.List.Sorted.{IsPermutation}
use Rattle.list_weights.specs.Weights.{numbers_below}
use Rattle.steal_workers.specs.Deals.{Deal}
use Rattle.steal_workers.specs.SeatViews.{SeatView, IsSameSeat, AreSameSeats, seat_count}
use Rattle.steal_workers.specs.WholeDeals.{common_deal, IsWholeDeal}

module _ {T : Type 0} where
  pub same_seat_refl : (s : SeatView T) → IsSameSeat s s
  same_seat_refl s = record { deal = refl; place = refl; marks = λ d m. m }

  pub same_seat_trans : (r s t : SeatView T) → IsSameSeat r s → IsSameSeat s t → IsSameSeat r t
  same_seat_trans r s t p q = record { deal = q.deal ∙ p.deal; place = q.place ∙ p.place; marks = λ d m. q.marks d (p.marks d m) }

  pub same_seats_refl : (seats : List (SeatView T)) → AreSameSeats seats seats
  same_seats_refl seats = (refl, λ k e within. same_seat_refl (get_or seats k e))

  -- one seat makes a step
  pub same_seats_set : (seats : List (SeatView T)) (k : ℕ) (e s : SeatView T) → IsSameSeat (get_or seats k e) s → AreSameSeats seats (set seats k s)
  same_seats_set seats k e s same = (length-set seats k s, go seats k e s same)
    where
      go : (xs : List (SeatView T)) (k : ℕ) (e s : SeatView T) → IsSameSeat (get_or xs k e) s → (j : ℕ) (d : SeatView T) → j < length xs → IsSameSeat (get_or xs j d) (get_or (set xs k s) j d)
      go [] k e s same j d within = absurd (omega arith)
      go (x ∷ xs) zero e s same zero d within = same
      go (x ∷ xs) zero e s same (suc j) d within = same_seat_refl (get_or xs j d)
      go (x ∷ xs) (suc k) e s same zero d within = same_seat_refl x
      go (x ∷ xs) (suc k) e s same (suc j) d within = go xs k e s same j d (omega arith)

  pub same_seats_trans : (a b c : List (SeatView T)) → AreSameSeats a b → AreSameSeats b c → AreSameSeats a c
  same_seats_trans a b c p q = (q.0 ∙ p.0, λ k e within. same_seat_trans (get_or a k e) (get_or b k e) (get_or c k e) (p.1 k e within) (q.1 k e (let l = p.0 in omega arith)))

  -- so does one of them after others
  pub same_seats_step : (old seats : List (SeatView T)) (k : ℕ) (r s : SeatView T) → AreSameSeats old seats → r ≡ get_or seats k r → IsSameSeat r s → AreSameSeats old (set seats k s)
  same_seats_step old seats k r s before is same =
      same_seats_trans old seats (set seats k s) before (same_seats_set seats k r s (subst (λ (u : SeatView T). IsSameSeat u s) is same))

  -- places and the deal stay
  pub same_places : (old new : List (SeatView T)) → AreSameSeats old new → map (λ (s : SeatView T). s.place) new ≡ map (λ (s : SeatView T). s.place) old
  same_places [] [] same = refl
  same_places [] (y ∷ new) same = absurd (let l = same.0 in omega arith)
  same_places (x ∷ old) [] same = absurd (let l = same.0 in omega arith)
  same_places (x ∷ old) (y ∷ new) same = λ i. (same.1 0 x (omega arith)).place i ∷ same_places old new ((let l = same.0 in omega arith), λ k e within. same.1 (suc k) e (omega arith)) i

  pub same_deal : (old new : List (SeatView T)) → AreSameSeats old new → common_deal new ≡ common_deal old
  same_deal [] [] same = refl
  same_deal [] (y ∷ new) same = absurd (let l = same.0 in omega arith)
  same_deal (x ∷ old) [] same = absurd (let l = same.0 in omega arith)
  same_deal (x ∷ old) (y ∷ new) same = (same.1 0 x (omega arith)).deal

  -- the seats of a whole deal stay one
  pub same_seats_whole : (old new : List (SeatView T)) → AreSameSeats old new → IsWholeDeal old → IsWholeDeal new
  same_seats_whole old new same whole = record {
    one_deal = λ k e within. (
        let l = same.0 in
        let inside : k < length old = omega arith in
        (same.1 k e inside).deal ∙ whole.one_deal k e inside ∙ sym (same_deal old new same)
        );
    each_once = subst (λ (places : List ℕ). IsPermutation places (numbers_below (seat_count (common_deal new)))) (sym (same_places old new same))
        (subst (λ (deal : Deal T). IsPermutation (map (λ (s : SeatView T). s.place) old) (numbers_below (seat_count deal))) (sym (same_deal old new same)) whole.each_once);
  }
