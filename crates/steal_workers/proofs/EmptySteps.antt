-- Emptying the deques of a deal.
use Rattle.std.proofs.Common.{◌≡◌, ℕ, zero, suc, ◌+◌, ◌<◌, ◌≤◌, ◌==◌, Bool, true, false, List, [], ◌∷◌, ◌++◌, map, take, length, get_or, slice_get, Some, All, sym, refl, ap, ◌∙◌, subst, length-append, arith}
use mathlib.Core.Option.{some, some-injective, some-ne-none}
use lib.ListN.{get_elem?}
use Rattle.std.proofs.lemmas.List.{length-map, take_more, map-append, take_all}
use Rattle.std.proofs.lemmas.List.Elements.{All-nil, All-append, All-head, All-tail}
use Rattle.std.proofs.lemmas.List.Sorted.{length_permutation}
use Rattle.std.specs.declared.alloc.Global.{Global}
use Rattle.atomic_blocks.specs.Lent.{RowsId}
use Rattle.steal_workers.specs.declared.item.Item.{Item}
use Rattle.steal_workers.specs.declared.item.Item.TheVariants.{Task}
use Rattle.steal_workers.specs.declared.item.Numbered.{Numbered}
use Rattle.steal_workers.specs.declared.hand.Hand.{Hand}
use Rattle.steal_workers.specs.declared.share.Share.{Share}
use Rattle.steal_workers.specs.declared.seat.Stack.{Stack}
use Rattle.list_weights.specs.Weights.{weigh, numbers_below, only}
use Rattle.steal_workers.specs.inside.Items.{marks, mark_weight, number_weight, Stands}
use Rattle.steal_workers.specs.inside.Handles.{deque_of, is_own}
use Rattle.steal_workers.specs.inside.Shares.{dealt_to, taken_from}
use Rattle.steal_workers.specs.Deals.{Deal, IsDealt}
use Rattle.steal_workers.specs.SeatViews.{SeatView, seat_count}
use Rattle.steal_workers.specs.WholeDeals.{common_deal, IsWholeDeal}
use Rattle.steal_workers.specs.inside.Backs.{own_weight, IsWholeColumn, IsBack}
use Rattle.steal_workers.specs.inside.TookBack.{numbers_of, Drains}
use Rattle.steal_workers.specs.Gathers.{joined, IsShareAt, IsStack, PopsEach, IsGathered, AreOwnMarked, share_taken, stack_taken, all_taken, places}
use Rattle.steal_workers.specs.inside.Emptying.{IsEmptying, queue_weights, seat_weights}
use Rattle.list_weights.proofs.Weights.{weigh_append, weigh_part, weigh_ones, weigh_once, length_numbers_below}
use Rattle.list_weights.proofs.Permutations.{weigh_permutation, same_weights}
use Rattle.steal_workers.proofs.GatherSteps.{weigh_joined, weigh_map}

get_of_at : {X : Type 0} (xs : List X) (i : ℕ) (x e : X) → get_elem? xs i ≡ some x → (get_or xs i e ≡ x) × (i < length xs)
get_of_at [] i x e at = absurd (some-ne-none x (sym at))
get_of_at (y ∷ ys) zero x e at = (some-injective y x at, omega arith)
get_of_at (y ∷ ys) (suc i) x e at = let r = get_of_at ys i x e at in (r.0, let w = r.1 in omega arith)

first_of_list : {X : Type 0} (xs : List X) → 0 < length xs → X
first_of_list [] w = absurd (omega arith)
first_of_list (x ∷ xs) w = x

module _ {T : Type 0} where
  abbrev FindsOwn : List (Share T) → Type 0
  FindsOwn column = (i : ℕ) × (x : Share T) × (get_elem? column i ≡ some x) × (is_own x.handle ≡ true)

  by_own : (x : Share T) (xs : List (Share T)) (b : Bool) → is_own x.handle ≡ b → 0 < weigh own_weight (x ∷ xs) → (0 < weigh own_weight xs → FindsOwn xs) → FindsOwn (x ∷ xs)
  by_own x xs true own there rest = (0, x, refl, own)
  by_own x xs false own there rest =
      let none : own_weight x ≡ 0 = ap (λ b. only b 1) own in
      let r = rest (omega arith) in
      (suc r.0, r.1, r.2, r.3)

  find_own : (column : List (Share T)) → 0 < weigh own_weight column → FindsOwn column
  find_own [] there = absurd (omega arith)
  find_own (x ∷ xs) there = by_own x xs (is_own x.handle) refl there (λ more. find_own xs more)

  own_mark : (P : Type 0) (deal : Deal T) (d : ℕ) (old new : List (Stack T)) (column : List (Share T)) → PopsEach P deal d old new column → P → weigh own_weight column ≡ 1 → 0 < weigh (share_taken mark_weight) column
  own_mark P deal d old new column popped p one =
      let r = find_own column (omega arith) in
      let at = get_of_at column r.0 r.1 r.1 r.2 in
      let top = subst (λ (s : Share T). IsShareAt P deal d (get_or (places old) r.0 0) s) at.0 (popped.tops r.0 r.1 at.1) in
      let marked : r.1.marked ≡ true = top.4 p r.3 in
      let count : marks (taken_from r.1) ≡ only r.1.marked 1 = top.0.2 in
      let one_mark : only r.1.marked 1 ≡ 1 = ap (λ b. only b 1) marked in
      let part = weigh_part (share_taken mark_weight) column r.0 r.1 r.2 in
      omega arith

  -- what a column is of
  pub column_dealt : (P : Type 0) (deal : Deal T) (d : ℕ) (old new : List (Stack T)) (column : List (Share T)) → PopsEach P deal d old new column → All (λ (share : Share T). dealt_to share ≡ get_or deal.queues d []) column
  column_dealt P deal d old new column popped k e w = (popped.tops k e w).2

  pub whole_column : (P : Type 0) (deal : Deal T) (d : ℕ) (old new : List (Stack T)) (column : List (Share T)) → 0 < length column → PopsEach P deal d old new column → IsWholeColumn column
  whole_column P deal d old new column there popped =
      let e0 : RowsId × Global = deque_of (first_of_list column there).handle in
      (get_or deal.deques d e0, get_or deal.queues d [], λ k e w. let t = popped.tops k e w in (t.0, t.1 e0, t.2))

  pub popped_length : (P : Type 0) (deal : Deal T) (d : ℕ) (old new : List (Stack T)) (column : List (Share T)) → PopsEach P deal d old new column → length new ≡ length old
  popped_length P deal d old new column popped =
      sym (length-map new (λ (stack : Stack T). stack.place)) ∙ ap length popped.same_places ∙ length-map old (λ (stack : Stack T). stack.place)

  -- the deque has a mark for each of its shares
  pub share_is_marks : (seats : List (SeatView T)) (d : ℕ) (old new : List (Stack T)) (left : List (Numbered T)) (column : List (Share T)) (v : Hand T) → IsEmptying seats (d + 1) old left
      → IsDealt (common_deal seats).queues (common_deal seats).tasks → d < length old → PopsEach (AreOwnMarked seats) (common_deal seats) d old new column → IsBack column v → v.share ≡ marks v.dealt
  share_is_marks seats d old new left column v e dealt within popped back =
      let same : v.dealt ≡ get_or (common_deal seats).queues d [] = back.dealt (get_or (common_deal seats).queues d []) (column_dealt (AreOwnMarked seats) (common_deal seats) d old new column popped) in
      let all : marks v.dealt ≡ marks (get_or (common_deal seats).queues d []) = ap marks same in
      let counts = e.counts.0 in
      let queues = e.counts.1 in
      let each = dealt.marks_of_each d (omega arith) in
      let share = back.share in
      let column_count = popped.count in
      omega arith

  queue_weights_more : (h : ℕ → ℕ) (queues : List (List (Item T))) (d : ℕ) → d < length queues → queue_weights h (take (d + 1) queues) ≡ queue_weights h (take d queues) + weigh (number_weight h) (get_or queues d [])
  queue_weights_more h queues d within =
      let e : queue_weights h (take (d + 1) queues) ≡ queue_weights h (take d queues ++ get_or queues d [] ∷ []) = ap (queue_weights h) (take_more queues d [] within) in
      omega (arith, weigh_append (λ queue. weigh (number_weight h) queue) (take d queues) (get_or queues d [] ∷ []))

  pub drain_room : (seats : List (SeatView T)) (d : ℕ) (old new : List (Stack T)) (left : List (Numbered T)) (column : List (Share T)) (v : Hand T) → IsEmptying seats (d + 1) old left
      → d < length old → PopsEach (AreOwnMarked seats) (common_deal seats) d old new column → IsBack column v → length left + weigh (number_weight (λ _. 1)) v.dealt ≤ length (common_deal seats).tasks
  drain_room seats d old new left column v e within popped back =
      let queues = (common_deal seats).queues in
      let same : v.dealt ≡ get_or queues d [] = back.dealt (get_or queues d []) (column_dealt (AreOwnMarked seats) (common_deal seats) d old new column popped) in
      let all : weigh (number_weight (λ _. 1)) v.dealt ≡ weigh (number_weight (λ _. 1)) (get_or queues d []) = ap (weigh (number_weight (λ _. 1))) same in
      let counts = e.counts.0 in
      let count = e.counts.1 in
      let more = queue_weights_more (λ _. 1) queues d (omega arith) in
      let room = e.room in
      omega arith

  -- one deque is emptied
  pub emptied_one : (seats : List (SeatView T)) (d : ℕ) (old new : List (Stack T)) (left after : List (Numbered T)) (column : List (Share T)) (v : Hand T) → IsEmptying seats (d + 1) old left
      → IsDealt (common_deal seats).queues (common_deal seats).tasks → d < length old → PopsEach (AreOwnMarked seats) (common_deal seats) d old new column → weigh own_weight column ≡ 1 → IsBack column v → Drains v left after
      → IsEmptying seats d new after
  emptied_one seats d old new left after column v e dealt within popped one back drains =
      let P : Type 0 = AreOwnMarked seats in
      let deal : Deal T = common_deal seats in
      let queue : List (Item T) = get_or deal.queues d [] in
      let same : v.dealt ≡ queue = back.dealt queue (column_dealt P deal d old new column popped) in
      let long = popped_length P deal d old new column popped in
      let counts = e.counts.0 in
      let count = e.counts.1 in
      let inside : d < length deal.queues = omega arith in
      record {
        once = λ j w. ap (weigh (λ p. only (j == p) 1)) popped.same_places ∙ e.once j (omega arith);
        stacks_left = popped.stacks;
        counts = (long ∙ counts, count);
        taken = λ h.
            let before = e.taken h in
            let column_taken = popped.taken (number_weight h) in
            let hand_taken : weigh (number_weight h) v.taken ≡ weigh (share_taken (number_weight h)) column = back.taken (number_weight h) in
            let rest = drains.all h in
            let queue_taken : weigh (number_weight h) v.dealt ≡ weigh (number_weight h) queue = ap (weigh (number_weight h)) same in
            let more = queue_weights_more h deal.queues d inside in
            let joins : weigh h (numbers_of after) ≡ weigh h (numbers_of left ++ numbers_of drains.more) = ap (weigh h) (ap numbers_of drains.joins ∙ map-append (λ (entry : Numbered T). entry.number) left drains.more) in
            omega (arith, weigh_append h (numbers_of left) (numbers_of drains.more));
        numbered = subst (All (λ (entry : Numbered T). slice_get deal.tasks entry.number ≡ Some entry.task)) (sym drains.joins)
            (All-append (λ (entry : Numbered T). slice_get deal.tasks entry.number ≡ Some entry.task) left drains.more e.numbered
            (λ k x w. dealt.numbered d (get_or drains.more k x).number (get_or drains.more k x).task
            (subst (λ (l : List (Item T)). Stands l (Task (get_or drains.more k x).number (get_or drains.more k x).task)) same (drains.dealt k x w))));
        none_left = λ p.
            let mark = own_mark P deal d old new column popped p one in
            let hand_marks : marks v.taken ≡ weigh (share_taken mark_weight) column = back.taken mark_weight in
            let nothing = drains.none (omega arith) in
            drains.joins ∙ (λ i. e.none_left p i ++ nothing i);
        room =
            let before = e.room in
            let more = queue_weights_more (λ _. 1) deal.queues d inside in
            let rest = drains.all (λ _. 1) in
            let queue_taken : weigh (number_weight (λ _. 1)) v.dealt ≡ weigh (number_weight (λ _. 1)) queue = ap (weigh (number_weight (λ _. 1))) same in
            let ones : weigh (λ (n : ℕ). 1) (numbers_of drains.more) ≡ length (numbers_of drains.more) = weigh_ones (numbers_of drains.more) in
            let joins : length after ≡ length (left ++ drains.more) = ap length drains.joins in
            omega (arith, length-append left drains.more, length-map drains.more (λ (entry : Numbered T). entry.number));
      }

  -- the start
  start_counts : (seats : List (SeatView T)) → IsWholeDeal seats → length seats ≡ seat_count (common_deal seats)
  start_counts seats whole =
      sym (length-map seats (λ (s : SeatView T). s.place)) ∙ sym (length_permutation (map (λ (s : SeatView T). s.place) seats) (numbers_below (seat_count (common_deal seats))) whole.each_once)
      ∙ length_numbers_below (seat_count (common_deal seats))

  pub start : (seats : List (SeatView T)) (stacks : List (Stack T)) → IsWholeDeal seats → All (IsStack (AreOwnMarked seats) (common_deal seats) (seat_count (common_deal seats))) stacks
      → places stacks ≡ map (λ (s : SeatView T). s.place) seats → ((h : ℕ → ℕ) → all_taken (number_weight h) stacks ≡ seat_weights h seats)
      → (0 < length seats → IsDealt (common_deal seats).queues (common_deal seats).tasks × (length (common_deal seats).queues ≡ seat_count (common_deal seats)))
      → IsEmptying seats (length stacks) stacks []
  start seats stacks whole each place numbers dealt =
      let deal : Deal T = common_deal seats in
      let long : length stacks ≡ length seats = sym (length-map stacks (λ (s : Stack T). s.place)) ∙ ap length place ∙ length-map seats (λ (s : SeatView T). s.place) in
      let count : length seats ≡ seat_count deal = start_counts seats whole in
      let all : length stacks ≡ seat_count deal = long ∙ count in
      let facts = go seats dealt in
      let whole_queues : take (length stacks) deal.queues ≡ deal.queues = ap (λ n. take n deal.queues) (all ∙ sym facts.1) ∙ take_all (length deal.queues) deal.queues (omega arith) in
      record {
        once = λ d w. ap (weigh (λ p. only (d == p) 1)) place
            ∙ sym (weigh_permutation (λ p. only (d == p) 1) (map (λ (s : SeatView T). s.place) seats) (numbers_below (seat_count deal)) whole.each_once)
            ∙ weigh_once d 1 (seat_count deal) (omega arith);
        stacks_left = subst (λ n. All (IsStack (AreOwnMarked seats) deal n) stacks) (sym all) each;
        counts = (all, facts.1);
        taken = λ h. (let n = numbers h in let q : queue_weights h (take (length stacks) deal.queues) ≡ queue_weights h deal.queues = ap (queue_weights h) whole_queues in let o = facts.0 h in omega arith);
        numbered = All-nil (λ (entry : Numbered T). slice_get deal.tasks entry.number ≡ Some entry.task);
        none_left = λ p. refl;
        room = (let q : queue_weights (λ _. 1) (take (length stacks) deal.queues) ≡ queue_weights (λ _. 1) deal.queues = ap (queue_weights (λ _. 1)) whole_queues in let o = facts.0 (λ _. 1) in omega (arith, weigh_ones (numbers_below (length deal.tasks)), length_numbers_below (length deal.tasks)));
      }
    where
      go : (xs : List (SeatView T)) → (0 < length xs → IsDealt (common_deal xs).queues (common_deal xs).tasks × (length (common_deal xs).queues ≡ seat_count (common_deal xs)))
          → ((h : ℕ → ℕ) → queue_weights h (common_deal xs).queues ≡ weigh h (numbers_below (length (common_deal xs).tasks))) × (length (common_deal xs).queues ≡ seat_count (common_deal xs))
      go [] d = ((λ h. refl), refl)
      go (x ∷ xs) d = let f = d (omega arith) in (f.0.once, f.1)

  -- the end
  nothing_held : (P : Type 0) (deal : Deal T) (h : Item T → ℕ) (stacks : List (Stack T)) → All (IsStack P deal 0) stacks → all_taken h stacks ≡ 0
  nothing_held P deal h [] each = refl
  nothing_held P deal h (s ∷ stacks) each =
      let here : stack_taken h s ≡ 0 = empty s.shares.items (All-head (IsStack P deal 0) s stacks each).count in
      omega (arith, nothing_held P deal h stacks (All-tail (IsStack P deal 0) s stacks each))
    where
      empty : (xs : List (Share T)) → length xs ≡ 0 → weigh (share_taken h) xs ≡ 0
      empty [] e = refl
      empty (x ∷ xs) e = absurd (omega arith)

  pub ends : (seats : List (SeatView T)) (stacks : List (Stack T)) (left : List (Numbered T)) → IsEmptying seats 0 stacks left → IsGathered seats left
  ends seats stacks left e = record {
    each_once = same_weights (joined (map (λ (s : SeatView T). s.numbers) seats) ++ numbers_of left) (numbers_below (length (common_deal seats).tasks))
        (λ h.
        let all = e.taken h in
        let none = nothing_held (AreOwnMarked seats) (common_deal seats) (number_weight h) stacks e.stacks_left in
        omega (
          arith,
          weigh_append h (joined (map (λ (s : SeatView T). s.numbers) seats)) (numbers_of left),
          weigh_joined h (map (λ (s : SeatView T). s.numbers) seats),
          weigh_map (λ (s : SeatView T). s.numbers) (weigh h) seats,
        ));
    numbered = e.numbered;
    none_left = e.none_left;
  }
