-- A seat after a step.
use Rattle.std.proofs.Common.{◌≡◌, ◌≢◌, ℕ, ◌+◌, ◌<◌, ◌≤◌, ◌==◌, Bool, true, false, true≢false, List, [], ◌∷◌, ◌++◌, map, length, get_or, All, sym, ap, ◌∙◌, subst, arith}
use Rattle.std.proofs.lemmas.List.{length-map}
use Rattle.std.proofs.lemmas.List.Elements.{All-tail}
use Rattle.steal_workers.specs.declared.share.Share.{Share}
use Rattle.steal_workers.specs.declared.seat.Seat.TheInside.{Inside}
use Rattle.steal_workers.specs.declared.seat.Next.TheVariants.{Task, Empty, Lost}
use Rattle.steal_workers.specs.declared.item.Item.{Item}
use Rattle.list_weights.specs.Weights.{weigh, numbers_below}
use Rattle.steal_workers.specs.inside.Items.{number_weight}
use Rattle.steal_workers.specs.inside.Handles.{deque_of}
use Rattle.steal_workers.specs.inside.Shares.{IsShare, dealt_to, is_own_share, is_marked, Moves, taken_weights, Found, AllMarked}
use Rattle.steal_workers.specs.Deals.{IsDealt}
use Rattle.steal_workers.specs.SeatViews.{IsSameSeat, seat_count}
use Rattle.steal_workers.specs.Seats.{seat_view, IsSound}
use Rattle.steal_workers.specs.Answers.{Answers}
use Rattle.list_weights.proofs.Weights.{weigh_append}
use Rattle.steal_workers.proofs.ShareLists.{moves_sound, moves_map, moves_length, moves_marked}

module _ {T : Type 0} where
  same_queues : (xs ys : List (Share T)) → Moves xs ys → map dealt_to ys ≡ map dealt_to xs
  same_queues xs ys p = moves_map dealt_to (λ r s f. f.same_items) xs ys p

  pub sound_after : (s t : Inside T) → IsSound s → Moves s.shares.items t.shares.items → t.place ≡ s.place → t.dealt ≡ s.dealt
      → t.tasks.value.items ≡ s.tasks.value.items → ((h : ℕ → ℕ) → weigh h t.trail ≡ taken_weights h t.shares.items) → IsSound t
  sound_after s t sound p place dealt tasks numbers =
      let long : length t.shares.items ≡ length s.shares.items = moves_length s.shares.items t.shares.items p in
      record {
        shares = moves_sound s.shares.items t.shares.items p;
        place = (let within = sound.place in omega arith);
        own = (λ d within. ap (λ (l : List Bool). get_or l d false) (moves_map is_own_share (λ r u f. f.same_owner) s.shares.items t.shares.items p)
            ∙ sound.own d (omega arith) ∙ ap (λ n. d == n) (sym place));
        dealt = subst (λ (l : List (List (Item T))). IsDealt l t.tasks.value.items) (sym (same_queues s.shares.items t.shares.items p))
            (subst (IsDealt (map dealt_to s.shares.items)) (sym tasks) sound.dealt);
        count = dealt ∙ sound.count ∙ ap length (sym tasks);
        numbers = numbers;
        few = (let few = sound.few in omega arith);
      }

  pub same_after : (s t : Inside T) → Moves s.shares.items t.shares.items → t.place ≡ s.place → t.tasks.value.items ≡ s.tasks.value.items → IsSameSeat (seat_view s) (seat_view t)
  same_after s t p place tasks =
      let deques = moves_map (λ (share : Share T). deque_of share.handle) (λ r u f. f.same_deque) s.shares.items t.shares.items p in
      let queues = same_queues s.shares.items t.shares.items p in
      record {
        deal = λ i. record { deques = deques i; queues = queues i; tasks = tasks i };
        place = place;
        marks = λ d m. moves_marked s.shares.items t.shares.items d p m;
      }

  pub numbers_after : (numbers trail : List ℕ) (number : ℕ) (xs ys : List (Share T)) → ((h : ℕ → ℕ) → weigh h numbers ≡ taken_weights h xs)
      → trail ≡ numbers ++ number ∷ [] → ((h : ℕ → ℕ) → taken_weights h ys ≡ taken_weights h xs + h number) → (h : ℕ → ℕ) → weigh h trail ≡ taken_weights h ys
  numbers_after numbers trail number xs ys before is taken h =
      let e = taken h in
      let b = before h in
      let now : weigh h trail ≡ weigh h (numbers ++ number ∷ []) = ap (weigh h) is in
      omega (arith, weigh_append h numbers (number ∷ []))

  pub place_within : (s : Inside T) → IsSound s → s.place < seat_count (seat_view s).deal
  place_within s sound = (let within = sound.place in omega (arith, length-map s.shares.items (λ (share : Share T). deque_of share.handle)))

  shares_once : (h : ℕ → ℕ) (xs : List (Share T)) → All IsShare xs → taken_weights h xs ≤ weigh (λ (queue : List (Item T)). weigh (number_weight h) queue) (map dealt_to xs)
  shares_once h [] each = omega arith
  shares_once h (x ∷ xs) each =
      let here = (each 0 x (omega arith)).3 (number_weight h) in
      omega (arith, shares_once h xs (All-tail IsShare x xs each))

  -- the seat's numbers are dealt ones, each once
  pub numbers_once : (s : Inside T) → IsSound s → (h : ℕ → ℕ) → weigh h s.trail ≤ weigh h (numbers_below (length s.tasks.value.items))
  numbers_once s sound h =
      let taken = sound.numbers h in
      let below = shares_once h s.shares.items sound.shares in
      let dealt = sound.dealt.once h in
      omega arith

  pub answers_task : (s t : Inside T) (number : ℕ) (task : T) → IsSound s → Found s.shares.items t.shares.items number task
      → t.trail ≡ s.trail ++ number ∷ [] → Answers (seat_view s) (Task task) (seat_view t)
  answers_task s t number task sound found trail = (
    (number, trail, sound.dealt.numbered found.dealt.0 number task found.dealt.2),
    λ every. true≢false (sym (every found.lacks.0 (let w = found.lacks.1 in omega (arith, length-map t.shares.items (λ (share : Share T). deque_of share.handle)))) ∙ found.lacks.2),
  )

  pub answers_empty : (s t : Inside T) → t.trail ≡ s.trail → AllMarked t.shares.items → Answers (seat_view s) Empty (seat_view t)
  answers_empty s t trail marked = (trail, λ d within. marked d (omega (arith, length-map t.shares.items (λ (share : Share T). deque_of share.handle))))

  pub answers_lost : (s t : Inside T) (deque : ℕ) → t.place < length t.shares.items → t.trail ≡ s.trail → get_or (map is_marked t.shares.items) t.place false ≡ true
      → (deque < length t.shares.items) × (get_or (map is_marked t.shares.items) deque false ≡ false) → Answers (seat_view s) (Lost deque) (seat_view t)
  answers_lost s t deque within trail own lacks =
      let another : deque ≢ t.place = λ is. true≢false (sym own ∙ ap (λ d. get_or (map is_marked t.shares.items) d false) (sym is) ∙ lacks.1) in
      let below = lacks.0 in (
        trail,
        own,
        omega (arith, length-map t.shares.items (λ (share : Share T). deque_of share.handle)),
        another,
        omega (arith, length-map t.shares.items (λ (share : Share T). deque_of share.handle)),
        λ m. true≢false (sym m ∙ lacks.1),
      )
