-- All seats of a deal taken apart.
use Rattle.std.proofs.Common.{◌≡◌, ℕ, ◌<◌, List, [], ◌∷◌, ◌++◌, map, length, get_or, All, sym, refl, ap, ◌∙◌, subst, length-append, arith}
use Rattle.std.proofs.lemmas.List.{map_push, get_or_at}
use Rattle.std.proofs.lemmas.List.Elements.{All-nil, All-cons, All-append}
use Rattle.steal_workers.specs.declared.seat.Stack.{Stack}
use Rattle.list_weights.specs.Weights.{weigh}
use Rattle.steal_workers.specs.inside.Items.{number_weight}
use Rattle.steal_workers.specs.inside.Shares.{taken_weights}
use Rattle.steal_workers.specs.Deals.{Deal, IsDealt}
use Rattle.steal_workers.specs.SeatViews.{SeatView, seat_count, HasMark}
use Rattle.steal_workers.specs.WholeDeals.{common_deal, IsWholeDeal}
use Rattle.steal_workers.specs.Gathers.{IsStack, AreOwnMarked, places, all_taken, stack_taken}
use Rattle.steal_workers.specs.inside.Emptying.{seat_weights}
use Rattle.list_weights.proofs.Weights.{weigh_append}

module _ {T : Type 0} where
  stack_weaker : (P Q : Type 0) (deal : Deal T) (m : ℕ) (stack : Stack T) → (Q → P) → IsStack P deal m stack → IsStack Q deal m stack
  stack_weaker P Q deal m stack f h = record {
    count = h.count;
    each = λ d e w. (let s = h.each d e w in (s.0, s.1, s.2, s.3, λ q own. s.4 (f q) own));
  }

  -- what is known of the stacks of the first seats
  pub record AreStacked (seats done : List (SeatView T)) (stacks : List (Stack T)) : Type 0 where
    pub same_places : places stacks ≡ map (λ (s : SeatView T). s.place) done
    pub numbers : (h : ℕ → ℕ) → all_taken (number_weight h) stacks ≡ seat_weights h done
    pub each : All (IsStack (AreOwnMarked seats) (common_deal seats) (seat_count (common_deal seats))) stacks

  pub stacked_more : (seats done rest : List (SeatView T)) (seat : SeatView T) (stacks : List (Stack T)) (stack : Stack T) → IsWholeDeal seats → seats ≡ done ++ (seat ∷ rest) → AreStacked seats done stacks
      → (stack.place ≡ seat.place) × IsStack (HasMark seat seat.place) seat.deal (seat_count seat.deal) stack → ((h : ℕ → ℕ) → weigh h seat.numbers ≡ taken_weights h stack.shares.items)
      → AreStacked seats (done ++ seat ∷ []) (stacks ++ stack ∷ [])
  stacked_more seats done rest seat stacks stack whole is h made numbers =
      let long = ap length is in
      let within : length done < length seats = omega (arith, length-append done (seat ∷ rest)) in
      let here : get_or seats (length done) seat ≡ seat = ap (λ (l : List (SeatView T)). get_or l (length done) seat) is ∙ get_or_at done seat rest seat (length done) refl in
      let deal : seat.deal ≡ common_deal seats = ap (λ (s : SeatView T). s.deal) (sym here) ∙ whole.one_deal (length done) seat within in
      let mark : AreOwnMarked seats → HasMark seat seat.place = λ all. subst (λ (s : SeatView T). HasMark s s.place) here (all (length done) seat within) in
      let P : Stack T → Type 0 = IsStack (AreOwnMarked seats) (common_deal seats) (seat_count (common_deal seats)) in
      let one : P stack = subst (λ (d : Deal T). IsStack (AreOwnMarked seats) d (seat_count d) stack) deal (stack_weaker (HasMark seat seat.place) (AreOwnMarked seats) seat.deal (seat_count seat.deal) stack mark made.1) in
      record {
        same_places = map_push (λ (s : Stack T). s.place) stacks stack ∙ (λ i. h.same_places i ++ made.0 i ∷ []) ∙ sym (map_push (λ (s : SeatView T). s.place) done seat);
        numbers = λ f. (let b = h.numbers f in let n : weigh f seat.numbers ≡ stack_taken (number_weight f) stack = numbers f in omega (arith, weigh_append (stack_taken (number_weight f)) stacks (stack ∷ []), weigh_append (λ (s : SeatView T). weigh f s.numbers) done (seat ∷ [])));
        each = All-append P stacks (stack ∷ []) h.each (All-cons P stack [] one (All-nil P));
      }

  -- the deal of a seat is that of all
  pub dealt_by : (seats done rest : List (SeatView T)) (seat : SeatView T) → IsWholeDeal seats → seats ≡ done ++ (seat ∷ rest) → IsDealt seat.deal.queues seat.deal.tasks × (length seat.deal.queues ≡ seat_count seat.deal)
      → IsDealt (common_deal seats).queues (common_deal seats).tasks × (length (common_deal seats).queues ≡ seat_count (common_deal seats))
  dealt_by seats done rest seat whole is dealt =
      let long = ap length is in
      let within : length done < length seats = omega (arith, length-append done (seat ∷ rest)) in
      let here : get_or seats (length done) seat ≡ seat = ap (λ (l : List (SeatView T)). get_or l (length done) seat) is ∙ get_or_at done seat rest seat (length done) refl in
      subst (λ (d : Deal T). IsDealt d.queues d.tasks × (length d.queues ≡ seat_count d)) (ap (λ (s : SeatView T). s.deal) (sym here) ∙ whole.one_deal (length done) seat within) dealt
