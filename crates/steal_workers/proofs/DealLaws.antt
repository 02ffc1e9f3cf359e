-- What the clauses on the seats of a deal say together.
use Rattle.std.proofs.Common.{◌≡◌, ◌⊎◌, inl, inr, ℕ, zero, suc, ◌<◌, ◌≤◌, List, [], ◌∷◌, map, length, get_or, All, refl, ap, sym, subst, arith}
use Rattle.std.proofs.lemmas.List.{length-map, get_or-map}
use Rattle.std.proofs.lemmas.List.Elements.{All-append, All-nil, All-cons}
use Rattle.std.proofs.lemmas.List.Sorted.{All-permutation, IsPermutation-sym}
use Rattle.steal_workers.specs.declared.item.Numbered.{Numbered}
use Rattle.steal_workers.specs.declared.seat.Next.{Next}
use Rattle.steal_workers.specs.declared.seat.Next.TheVariants.{Task, Empty, Lost}
use Rattle.list_weights.specs.Weights.{weigh, numbers_below}
use Rattle.steal_workers.specs.SeatViews.{SeatView, seat_count, HasMark, HasEveryMark}
use Rattle.steal_workers.specs.Answers.{Answers, FoundNone}
use Rattle.steal_workers.specs.WholeDeals.{common_deal, IsWholeDeal}
use Rattle.steal_workers.specs.Gathers.{IsGathered}
use Rattle.list_weights.proofs.Weights.{weigh_ones, length_numbers_below}

numbers_below_within : (n : ℕ) → All (λ (k : ℕ). k < n) (numbers_below n)
numbers_below_within zero = All-nil (λ (k : ℕ). k < zero)
numbers_below_within (suc n) =
    All-append (λ (k : ℕ). k < suc n) (numbers_below n) (n ∷ []) (λ k e within. (let below = numbers_below_within n k e within in omega arith)) (All-cons (λ (k : ℕ). k < suc n) n [] (omega arith) (All-nil (λ (k : ℕ). k < suc n)))

module _ {T : Type 0} where
  -- a seat with every mark answers that no task is left, and nothing else
  pub empty_exact : (old new : SeatView T) (next : Next T) → Answers old next new → HasEveryMark new → next ≡ Empty
  empty_exact old new (Task task) answer every = absurd (answer.1 every)
  empty_exact old new Empty answer every = refl
  empty_exact old new (Lost deque) answer every = absurd (answer.5 (every deque answer.2))

  pub one_seat_never_lost : (old new : SeatView T) (deque : ℕ) → seat_count new.deal ≡ 1 → Answers old (Lost deque) new → ⊥
  one_seat_never_lost old new deque one answer = (let more = answer.4 in omega arith)

  -- a seat takes no more tasks than were dealt
  pub numbers_few : (seat : SeatView T) → ((h : ℕ → ℕ) → weigh h seat.numbers ≤ weigh h (numbers_below (length seat.deal.tasks))) → length seat.numbers ≤ length seat.deal.tasks
  numbers_few seat once =
      let all : List ℕ = numbers_below (length seat.deal.tasks) in
      let count = once (λ _. 1) in
      omega (arith, weigh_ones seat.numbers, weigh_ones all, length_numbers_below (length seat.deal.tasks))

  -- each seat's place is below the number of the seats
  pub place-within : (seats : List (SeatView T)) → IsWholeDeal seats → All (λ (seat : SeatView T). seat.place < seat_count seat.deal) seats
  place-within seats whole k e within =
      let n = seat_count (common_deal seats) in
      let places = map (λ (seat : SeatView T). seat.place) seats in
      let all = All-permutation (λ (place : ℕ). place < n) (numbers_below n) places (IsPermutation-sym places (numbers_below n) whole.each_once) (numbers_below_within n) in
      let here : (get_or seats k e).place < n = subst (λ (place : ℕ). place < n) (get_or-map (λ (seat : SeatView T). seat.place) seats k e 0 within)
      (all k 0 (omega (arith, length-map seats (λ (seat : SeatView T). seat.place)))) in
      subst (λ (count : ℕ). (get_or seats k e).place < count) (sym (ap seat_count (whole.one_deal k e within))) here

  own_mark : (seat old : SeatView T) → seat.place < seat_count seat.deal → (Answers old Empty seat ⊎ ((deque : ℕ) × Answers old (Lost deque) seat)) → HasMark seat seat.place
  own_mark seat old within (inl answer) = answer.1 seat.place within
  own_mark seat old within (inr lost) = lost.1.1

  -- where each seat's last answer was no task, nothing is left
  pub nothing_left : (seats : List (SeatView T)) (left : List (Numbered T)) → IsWholeDeal seats → IsGathered seats left → All FoundNone seats → left ≡ []
  nothing_left seats left whole gathered found =
      gathered.none_left (λ k e within. own_mark (get_or seats k e) (found k e within).0 (place-within seats whole k e within) (found k e within).1)
