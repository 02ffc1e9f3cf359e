-- A deal, from its parts.
use Rattle.std.proofs.Common.{◌≡◌, ℕ, zero, suc, ◌+◌, ◌/◌, ◌<◌, ◌≤◌, false, true≢false, List, [], ◌∷◌, ◌++◌, map, take, length, get_or, sym, refl, ap, ◌∙◌, subst, arith}
use mathlib.Core.Option.{some, some-injective, some-ne-none}
use lib.ListN.{get_elem?}
use Rattle.std.proofs.lemmas.List.{get_or_at, length-map, take_all}
use Rattle.std.proofs.lemmas.List.Sorted.{IsPermutation-refl}
use Rattle.std.specs.List.Sorted.{IsPermutation}
use Rattle.crossbeam_deque.specs.Handles.{worker_capacity, worker_index}
use Rattle.steal_workers.specs.declared.item.Item.{Item}
use Rattle.steal_workers.specs.declared.item.Item.TheVariants.{Task, Mark}
use Rattle.steal_workers.specs.declared.deck.Deck.{Deck}
use Rattle.steal_workers.specs.declared.share.Share.{Share}
use Rattle.list_weights.specs.Weights.{weigh, numbers_below}
use Rattle.steal_workers.specs.inside.Items.{marks, number_weight, Stands, IsAllMarks, MarksLast}
use Rattle.steal_workers.specs.inside.Shares.{is_marked, dealt_to}
use Rattle.steal_workers.specs.inside.Handles.{deque_of}
use Rattle.steal_workers.specs.Deals.{Deal, IsDealt}
use Rattle.steal_workers.specs.SeatViews.{SeatView, seat_count}
use Rattle.steal_workers.specs.WholeDeals.{common_deal, IsNewSeat, IsNewDeal}
use Rattle.steal_workers.specs.inside.Decks.{IsDeck, AreFilling, mark_list, queue_of}
use Rattle.steal_workers.specs.inside.Columns.{IsRow, closed, deck_deque}
use Rattle.steal_workers.specs.inside.Unused.{unused_view}
use Rattle.steal_workers.specs.inside.Layouts.{AreFresh, AreFilled, AreSeated, planned}
use Rattle.list_weights.proofs.Weights.{weigh_append}
use Rattle.steal_workers.proofs.DeckSteps.{done_less, last_turn}
use Rattle.steal_workers.proofs.ColumnSteps.{marks_closed}

marks_more : {T : Type 0} (xs : List (Item T)) → IsAllMarks xs → IsAllMarks (xs ++ Mark ∷ [])
marks_more [] h = (refl, tt)
marks_more (x ∷ xs) h = (h.0, marks_more xs h.1)

all_marks : (T : Type 0) (n : ℕ) → IsAllMarks (mark_list {T = T} n)
all_marks T zero = tt
all_marks T (suc n) = marks_more (mark_list n) (all_marks T n)

abbrev up_from : ℕ → ℕ → List ℕ
up_from a zero = []
up_from a (suc n) = a ∷ up_from (suc a) n

up_from_snoc : (a n : ℕ) → up_from a (suc n) ≡ up_from a n ++ (a + n) ∷ []
up_from_snoc a zero = ap (λ k. k ∷ []) (let e : a ≡ a + 0 = omega arith in e)
up_from_snoc a (suc n) = ap (λ l. a ∷ l) (up_from_snoc (suc a) n ∙ ap (λ k. up_from (suc a) n ++ k ∷ []) (let e : suc a + n ≡ a + suc n = omega arith in e))

up_from_below : (n : ℕ) → up_from 0 n ≡ numbers_below n
up_from_below zero = refl
up_from_below (suc n) = up_from_snoc 0 n ∙ (λ i. up_from_below n i ++ (let e : 0 + n ≡ n = omega arith in e i) ∷ [])

module _ {T : Type 0} where
  nothing_dealt : (h : ℕ → ℕ) (decks : List (Deck T)) → ((d : ℕ) (e : Deck T) → d < length decks → queue_of (get_or decks d e) ≡ []) → weigh (λ queue. weigh (number_weight h) queue) (map queue_of decks) ≡ 0
  nothing_dealt h [] each = refl
  nothing_dealt h (x ∷ xs) each =
      let here : weigh (number_weight h) (queue_of x) ≡ 0 = ap (weigh (number_weight h)) (each 0 x (omega arith)) in
      omega (arith, nothing_dealt h xs (λ d e w. each (suc d) e (omega arith)))

  nothing_stands : (decks : List (Deck T)) (d : ℕ) (item : Item T) → ((j : ℕ) (e : Deck T) → j < length decks → queue_of (get_or decks j e) ≡ []) → Stands (get_or (map queue_of decks) d []) item → ⊥
  nothing_stands [] d item each stands = some-ne-none item (sym stands.1)
  nothing_stands (x ∷ xs) zero item each stands = some-ne-none item (sym (subst (λ (l : List (Item T)). get_elem? l stands.0 ≡ some item) (each 0 x (omega arith)) stands.1))
  nothing_stands (x ∷ xs) (suc d) item each stands = nothing_stands xs d item (λ j e w. each (suc j) e (omega arith)) stands

  pub fresh_filling : (n room : ℕ) (tasks : List T) (decks : List (Deck T)) → AreFresh n room decks → AreFilling n room 0 tasks decks
  fresh_filling n room tasks decks f = record {
    count = f.0;
    each = λ d e w. (f.1 d e w).0;
    numbered = λ d number task stands. absurd (nothing_stands decks d (Task number task) (λ j e w. (f.1 j e w).1) stands);
    once = λ h. nothing_dealt h decks (λ j e w. (f.1 j e w).1);
  }

  pub filled_from_filling : (n all : ℕ) (tasks : List T) (decks : List (Deck T)) → 0 < n → AreFilling n (all / n + 1 + n) all tasks decks → AreFilled n decks
  filled_from_filling n all tasks decks some_seats f d e w =
      let here = f.each d e w in
      let last = last_turn (worker_index (get_or decks d e).deque) n all d some_seats here.level in
      (here.sound, here.unmarked, let c = here.capacity in omega arith)

  -- the next of the decks, of which some are done
  pub next_filled : (n : ℕ) (decks done rest after : List (Deck T)) (deck : Deck T) → AreFilled n decks → decks ≡ done ++ rest → rest ≡ deck ∷ after
      → IsDeck n deck × (marks (queue_of deck) ≡ 0) × (worker_index deck.deque + n ≤ worker_capacity deck.deque)
  next_filled n decks done rest after deck filled is next =
      let all : decks ≡ done ++ (deck ∷ after) = is ∙ ap (λ l. done ++ l) next in
      let here : get_or decks (length done) deck ≡ deck = ap (λ l. get_or l (length done) deck) all ∙ get_or_at done deck after deck (length done) refl in
      subst (λ (d : Deck T). IsDeck n d × (marks (queue_of d) ≡ 0) × (worker_index d.deque + n ≤ worker_capacity d.deque)) here (filled (length done) deck (done_less decks done rest after deck is next))

  not_mark : (number : ℕ) (task : T) → Task number task ≡ Mark → ⊥
  not_mark number task e = cc

  last_from_all : (xs : List (Item T)) → IsAllMarks xs → MarksLast xs
  last_from_all [] h = tt
  last_from_all (Task number task ∷ xs) h = absurd (not_mark number task h.0)
  last_from_all (Mark ∷ xs) h = h.1

  closed_last : (queue : List (Item T)) (n : ℕ) → marks queue ≡ 0 → MarksLast (queue ++ mark_list n)
  closed_last [] n none = last_from_all (mark_list n) (all_marks T n)
  closed_last (Task number task ∷ xs) n none = closed_last xs n (omega arith)
  closed_last (Mark ∷ xs) n none = absurd (omega arith)

  not_among_marks : (xs : List (Item T)) (i number : ℕ) (task : T) → IsAllMarks xs → get_elem? xs i ≡ some (Task number task) → ⊥
  not_among_marks [] i number task h e = some-ne-none (Task number task) (sym e)
  not_among_marks (x ∷ xs) zero number task h e = not_mark number task (sym (some-injective x (Task number task) e) ∙ h.0)
  not_among_marks (x ∷ xs) (suc i) number task h e = not_among_marks xs i number task h.1 e

  stands_before : (queue : List (Item T)) (n i number : ℕ) (task : T) → get_elem? (queue ++ mark_list n) i ≡ some (Task number task) → get_elem? queue i ≡ some (Task number task)
  stands_before [] n i number task e = absurd (not_among_marks (mark_list n) i number task (all_marks T n) e)
  stands_before (x ∷ xs) n zero number task e = e
  stands_before (x ∷ xs) n (suc i) number task e = stands_before xs n i number task e

  stands_in_deck : (n : ℕ) (decks : List (Deck T)) (d number : ℕ) (task : T) → Stands (get_or (map (closed n) decks) d []) (Task number task) → Stands (get_or (map queue_of decks) d []) (Task number task)
  stands_in_deck n [] d number task s = s
  stands_in_deck n (x ∷ xs) zero number task s = (s.0, stands_before (queue_of x) n s.0 number task s.1)
  stands_in_deck n (x ∷ xs) (suc d) number task s = stands_in_deck n xs d number task s

  all_last : (n : ℕ) (decks : List (Deck T)) (d : ℕ) → ((j : ℕ) (e : Deck T) → j < length decks → marks (queue_of (get_or decks j e)) ≡ 0) → MarksLast (get_or (map (closed n) decks) d [])
  all_last n [] d none = tt
  all_last n (x ∷ xs) zero none = closed_last (queue_of x) n (none 0 x (omega arith))
  all_last n (x ∷ xs) (suc d) none = all_last n xs d (λ j e w. none (suc j) e (omega arith))

  all_marked : (n : ℕ) (decks : List (Deck T)) (d : ℕ) → ((j : ℕ) (e : Deck T) → j < length decks → marks (queue_of (get_or decks j e)) ≡ 0) → d < length decks → marks (get_or (map (closed n) decks) d []) ≡ n
  all_marked n [] d none w = absurd (omega arith)
  all_marked n (x ∷ xs) zero none w = marks_closed (queue_of x) n (none 0 x (omega arith))
  all_marked n (x ∷ xs) (suc d) none w = all_marked n xs d (λ j e v. none (suc j) e (omega arith)) (omega arith)

  marks_weigh_nothing : (h : ℕ → ℕ) (xs : List (Item T)) → IsAllMarks xs → weigh (number_weight h) xs ≡ 0
  marks_weigh_nothing h [] a = refl
  marks_weigh_nothing h (x ∷ xs) a = let here : number_weight h x ≡ 0 = ap (number_weight h) a.0 in omega (arith, marks_weigh_nothing h xs a.1)

  closed_weight : (h : ℕ → ℕ) (n : ℕ) (decks : List (Deck T)) → weigh (λ queue. weigh (number_weight h) queue) (map (closed n) decks) ≡ weigh (λ queue. weigh (number_weight h) queue) (map queue_of decks)
  closed_weight h n [] = refl
  closed_weight h n (x ∷ xs) =
      let here = weigh_append (number_weight h) (queue_of x) (mark_list n) in
      let none = marks_weigh_nothing h (mark_list n) (all_marks T n) in
      omega (arith, closed_weight h n xs)

  pub dealt_from_filling : (n room : ℕ) (tasks : List T) (decks : List (Deck T)) → AreFilling n room (length tasks) tasks decks → IsDealt (map (closed n) decks) tasks
  dealt_from_filling n room tasks decks f =
      let none : (j : ℕ) (e : Deck T) → j < length decks → marks (queue_of (get_or decks j e)) ≡ 0 = λ j e w. (f.each j e w).unmarked in
      let long = length-map decks (closed {T = T} n) in
      record {
        marks_of_each = λ d w. all_marked n decks d none (omega arith) ∙ (let c = f.count in omega arith);
        marks_last = λ d. all_last n decks d none;
        numbered = λ d number task s. f.numbered d number task (stands_in_deck n decks d number task s);
        once = λ h. closed_weight h n decks ∙ f.once h;
      }

  -- ---- seats
  never_marked : (xs : List (Share T)) (d : ℕ) → ((j : ℕ) (e : Share T) → j < length xs → (get_or xs j e).marked ≡ false) → get_or (map is_marked xs) d false ≡ false
  never_marked [] d each = refl
  never_marked (x ∷ xs) zero each = each 0 x (omega arith)
  never_marked (x ∷ xs) (suc d) each = never_marked xs d (λ j e w. each (suc j) e (omega arith))

  pub row_queues : (decks : List (Deck T)) (n place : ℕ) (shares : List (Share T)) → length decks ≡ n → IsRow decks n n place shares → map dealt_to shares ≡ map (closed n) decks
  row_queues decks n place shares long row = row.queues ∙ ap (λ k. take k (map (closed n) decks)) (let l = length-map decks (closed {T = T} n) in let m : n ≡ length (map (closed n) decks) = omega arith in m) ∙ take_all (length (map (closed n) decks)) (map (closed n) decks) (omega arith)

  pub row_deques : (decks : List (Deck T)) (n place : ℕ) (shares : List (Share T)) → length decks ≡ n → IsRow decks n n place shares → map (λ (share : Share T). deque_of share.handle) shares ≡ map deck_deque decks
  row_deques decks n place shares long row = row.deques ∙ ap (λ k. take k (map deck_deque decks)) (let l = length-map decks (deck_deque {T = T}) in let m : n ≡ length (map deck_deque decks) = omega arith in m) ∙ take_all (length (map deck_deque decks)) (map deck_deque decks) (omega arith)

  -- a seat over a row
  pub seat_of_row : (decks : List (Deck T)) (n place : ℕ) (shares : List (Share T)) (tasks dealt : List T) (seat : SeatView T) → length decks ≡ n → IsRow decks n n place shares → dealt ≡ tasks
      → seat ≡ unused_view place shares dealt → (seat.deal ≡ planned n decks tasks) × (seat.place ≡ place) × IsNewSeat seat
  seat_of_row decks n place shares tasks dealt seat long row same is =
      let P : SeatView T → Type 0 = λ s. (s.deal ≡ planned n decks tasks) × (s.place ≡ place) × IsNewSeat s in
      subst P (sym is) (
        (λ i. record { deques = row_deques decks n place shares long row i; queues = row_queues decks n place shares long row i; tasks = same i }),
        refl,
        (refl, λ deque m. true≢false (sym m ∙ never_marked shares deque (λ j e w. (row.each j e w).2))),
      )

  places_up : (a : ℕ) (seats : List (SeatView T)) → ((d : ℕ) (e : SeatView T) → d < length seats → (get_or seats d e).place ≡ a + d) → map (λ (s : SeatView T). s.place) seats ≡ up_from a (length seats)
  places_up a [] each = refl
  places_up a (s ∷ seats) each = λ i. (each 0 s (omega arith) ∙ (let e : a + 0 ≡ a = omega arith in e)) i ∷ places_up (suc a) seats (λ d e w. each (suc d) e (omega arith) ∙ (let k : a + suc d ≡ suc a + d = omega arith in k)) i

  common_is : (deal : Deal T) (seats : List (SeatView T)) → 0 < length seats → AreSeated deal seats → common_deal seats ≡ deal
  common_is deal [] some_seats h = absurd (omega arith)
  common_is deal (s ∷ seats) some_seats h = (h 0 s (omega arith)).0

  pub new_deal : (deal : Deal T) (n : ℕ) (seats : List (SeatView T)) → 0 < n → length seats ≡ n → seat_count deal ≡ n → AreSeated deal seats → IsNewDeal deal.tasks n seats
  new_deal deal n seats some_seats long count h =
      let common = common_is deal seats (omega arith) h in
      let places = places_up 0 seats (λ d e w. (h d e w).1 ∙ (let k : d ≡ 0 + d = omega arith in k)) ∙ up_from_below (length seats) in
      let all : length seats ≡ seat_count (common_deal seats) = long ∙ sym (ap (λ (d : Deal T). seat_count d) common ∙ count) in
      record {
        count = long;
        deques = ap (λ (d : Deal T). seat_count d) common ∙ count;
        whole = record {
          one_deal = λ d e w. (h d e w).0 ∙ sym common;
          each_once = subst (λ (l : List ℕ). IsPermutation (map (λ (s : SeatView T). s.place) seats) l) (places ∙ ap numbers_below all) (IsPermutation-refl (map (λ (s : SeatView T). s.place) seats));
        };
        tasks_dealt = ap (λ (d : Deal T). d.tasks) common;
        fresh = λ d e w. (h d e w).2;
      }
