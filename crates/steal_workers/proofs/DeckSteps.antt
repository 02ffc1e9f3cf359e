-- Dealing over decks, step by step.
use Rattle.std.proofs.Common.{◌≡◌, ◌≢◌, ℕ, suc, ◌+◌, ◌*◌, ◌/◌, ◌%◌, ◌<◌, ◌≤◌, List, [], ◌∷◌, ◌++◌, map, length, get_or, set, slice_get, Some, All, length-append, sym, refl, ap, ◌∙◌, subst, ⊎_elim, mul-le-mul_right, div-add-mod', add-one, append_assoc, Vec, vec_len, vec_capacity, arith}
use mathlib.Core.Option.{some}
use mathlib.Core.Logic.{dite}
use native.Mathlib.Decide.{ℕ_discrete, dec_le}
use lib.ListN.{get_elem?}
use Rattle.std.proofs.lemmas.List.{get_or-set_other, get_or-set_same, map-set, length-map, get_or-map}
use Rattle.std.proofs.Math.ListN.{length-set}
use Rattle.std.proofs.Math.Nat.{mod-lt, div-mul-le_self}
use Rattle.std.proofs.lemmas.Nat.{le-div}
use Rattle.crossbeam_deque.specs.Handles.{worker_deque, worker_view, worker_index}
use Rattle.crossbeam_deque.proofs.Lists.{at_index, at_snoc}
use Rattle.steal_workers.specs.declared.item.Item.{Item}
use Rattle.steal_workers.specs.declared.item.Item.TheVariants.{Task, Mark}
use Rattle.steal_workers.specs.declared.hand.Hand.{Hand}
use Rattle.std.specs.declared.alloc.Global.{Global}
use Rattle.crossbeam_deque.specs.declared.handles.Stealer.{Stealer}
use Rattle.steal_workers.specs.declared.hand.OneDeque.{OneDeque}
use Rattle.steal_workers.specs.declared.share.Share.{Share}
use Rattle.steal_workers.specs.declared.deck.Deck.{Deck}
use Rattle.list_weights.specs.Places.{EachAt}
use Rattle.list_weights.specs.Weights.{weigh, numbers_below}
use Rattle.steal_workers.specs.inside.Items.{marks, number_weight}
use Rattle.steal_workers.specs.OneDeque.{after_push}
use Rattle.steal_workers.specs.inside.Decks.{IsThiefOf, queue_of, IsFilling, AreFilling, HasMore}
use Rattle.list_weights.proofs.Weights.{weigh_append, weigh_set}
use Rattle.steal_workers.proofs.Steps.{marks_append}

module _ {X : Type 0} where
  pub each_at_set : (F : ℕ → X → Type 0) (xs : List X) (d : ℕ) (y : X) → F d y → ((j : ℕ) (e : X) → j ≢ d → j < length xs → F j (get_or xs j e)) → EachAt F (set xs d y)
  each_at_set F xs d y here others j e within =
      let inside : j < length xs = (let l = length-set xs d y in omega arith) in
      dite (ℕ_discrete j d)
      (λ (is : j ≡ d). subst (F j) (sym (ap (λ n. get_or (set xs d y) n e) is ∙ get_or-set_same xs d y e (let w : d < length xs = omega arith in w)))
      (subst (λ n. F n y) (sym is) here))
      (λ (ne : j ≢ d). subst (F j) (sym (get_or-set_other xs d j y e ne)) (others j e ne inside))

above : (i n k q r : ℕ) → q * n + r ≡ k → i * n + r + 1 ≤ k + n → Dec (q + 1 ≤ i) → i ≤ q
above i n k q r whole level (yes more) = let m : (q + 1) * n ≤ i * n = mul-le-mul_right n more in absurd (omega arith)
above i n k q r whole level (no less) = omega arith

-- how far a deck is filled, where it is its turn
pub turn : (i n k : ℕ) → i * n + k % n + 1 ≤ k + n → i ≤ k / n
turn i n k level = above i n k (k / n) (k % n) (div-add-mod' k n) level (dec_le (k / n + 1) i)

pub less_done : (n k all : ℕ) → 0 < n → k ≤ all → k / n ≤ all / n
less_done n k all some_seats le = le-div (k / n) all n some_seats (let m = div-mul-le_self k n in omega arith)

-- at the end each deck has room for its marks
pub last_turn : (i n all d : ℕ) → 0 < n → i * n + d + 1 ≤ all + n → i ≤ all / n + 1
last_turn i n all d some_seats level = go (dec_le (all / n + 2) i)
  where
    go : Dec (all / n + 2 ≤ i) → i ≤ all / n + 1
    go (yes more) =
        let q : ℕ = all / n in
        let r : ℕ = all % n in
        let whole : q * n + r ≡ all = div-add-mod' all n in
        let small : r < n = mod-lt all some_seats in
        let m : (q + 2) * n ≤ i * n = mul-le-mul_right n more in absurd (omega arith)
    go (no less) = omega arith

slice_get_seam : {X : Type 0} (xs : List X) (y : X) (ys : List X) → slice_get (xs ++ (y ∷ ys)) (length xs) ≡ Some y
slice_get_seam [] y ys = refl
slice_get_seam (z ∷ xs) y ys = slice_get_seam xs y ys

-- some that are done are fewer than all, where one is left
pub done_less : {X : Type 0} (items done rest after : List X) (x : X) → items ≡ done ++ rest → rest ≡ x ∷ after → length done < length items
done_less items done rest after x is next =
    let all : length items ≡ length (done ++ (x ∷ after)) = ap length is ∙ ap (λ l. length (done ++ l)) next in omega (arith, length-append done (x ∷ after))

-- the next of a list's members, of which some are done
pub taken_next : {X : Type 0} (items done rest after : List X) (x : X) (k : ℕ) → length done ≡ k → items ≡ done ++ rest → rest ≡ x ∷ after
    → (slice_get items k ≡ Some x) × ((more : List X) × (length more ≡ k + 1) × (items ≡ more ++ after))
taken_next items done rest after x k count is next =
    let all : items ≡ done ++ (x ∷ after) = is ∙ ap (λ l. done ++ l) next in (
      subst (λ n. slice_get items n ≡ Some x) count (ap (λ l. slice_get l (length done)) all ∙ slice_get_seam done x after),
      (done ++ x ∷ [], (omega (arith, length-append done (x ∷ []))), all ∙ sym (append_assoc done (x ∷ []) after)),
    )

module _ {T : Type 0} where
  abbrev IsNumbered : List T → Item T → Type 0
  IsNumbered tasks (Task number task) = slice_get tasks number ≡ Some task
  IsNumbered tasks Mark = Unit {0}

  -- a deck that isn't dealt to at this turn
  waits : (n room k d : ℕ) (deck : Deck T) → IsFilling n room k d deck → IsFilling n room (suc k) d deck
  waits n room k d deck f = record { sound = f.sound; capacity = f.capacity; level = (let l = f.level in omega arith); unmarked = f.unmarked }

  -- the deck that is dealt to
  grows : (n room k : ℕ) (old new : Deck T) (task : T) → IsFilling n room k (k % n) old → HasMore old new (Task k task) → IsFilling n room (suc k) (k % n) new
  grows n room k old new task f more =
      let view : worker_view new.deque ≡ after_push (worker_view old.deque) (Task k task ∷ []) = more.view in
      let queue : queue_of new ≡ queue_of old ++ Task k task ∷ [] = ap (λ (v : Hand T). v.dealt) view in
      let same = marks_append (queue_of old) (Task k task ∷ []) in
      let all : marks (queue_of new) ≡ marks (queue_of old ++ Task k task ∷ []) = ap marks queue in
      let share : (worker_view new.deque).share ≡ (worker_view old.deque).share + (0 + 0) = ap (λ (v : Hand T). v.share) view in
      record {
        sound = record {
          fifo = more.fifo ∙ f.sound.fifo;
          deals = ap (λ (v : Hand T). v.deals) view ∙ f.sound.deals;
          share = (let s = f.sound.share in omega arith);
          taken = ap (λ (v : Hand T). v.taken) view ∙ f.sound.taken;
          thieves = subst (λ (v : Vec (Stealer (Item T) Global (Hand T) OneDeque) Global). All (IsThiefOf (worker_deque new.deque)) v.items) (sym more.thieves) (subst (λ d. All (IsThiefOf d) old.thieves.items) (sym more.same) f.sound.thieves);
          count = ap (λ (v : Vec (Stealer (Item T) Global (Hand T) OneDeque) Global). vec_len v + 1) more.thieves ∙ f.sound.count;
          empty = ap (λ (v : Vec (Share T) Global). v.items) more.shares ∙ f.sound.empty;
          room = (let r = f.sound.room in let s : vec_capacity new.shares ≡ vec_capacity old.shares = ap (λ (v : Vec (Share T) Global). vec_capacity v) more.shares in omega arith);
        };
        capacity = (let c = f.capacity in let d = more.capacity in omega arith);
        level = (
            let index : worker_index new.deque ≡ worker_index old.deque + 1 = more.index in
            let here = turn (worker_index old.deque) n k f.level in
            let m : worker_index old.deque * n ≤ k / n * n = mul-le-mul_right n here in
            let w = div-add-mod' k n in
            let same_level : worker_index new.deque * n ≡ (worker_index old.deque + 1) * n = ap (λ i. i * n) index in
            omega arith
            );
        unmarked = (let u = f.unmarked in omega arith);
      }

  pub filling_more : (n room k : ℕ) (tasks : List T) (decks : List (Deck T)) (e new : Deck T) (task : T) → 0 < n → AreFilling n room k tasks decks
      → HasMore (get_or decks (k % n) e) new (Task k task) → slice_get tasks k ≡ Some task → AreFilling n room (suc k) tasks (set decks (k % n) new)
  filling_more n room k tasks decks e new task some_seats f more is =
      let d : ℕ = k % n in
      let within : d < length decks = (let c = f.count in let l = mod-lt k some_seats in omega arith) in
      let old : Deck T = get_or decks d e in
      let queue : queue_of new ≡ queue_of old ++ Task k task ∷ [] = ap (λ (v : Hand T). v.dealt) more.view in
      let qs : List (List (Item T)) = map queue_of decks in
      let inside : d < length qs = (let l = length-map decks queue_of in omega arith) in
      let here : get_or qs d [] ≡ queue_of old = get_or-map queue_of decks d e [] within in
      let split : map queue_of (set decks d new) ≡ set qs d (queue_of new) = map-set queue_of decks d new in
      record {
        count = length-set decks d new ∙ f.count;
        each = each_at_set (IsFilling n room (suc k)) decks d new (grows n room k old new task (f.each d e within) more) (λ j x ne w. waits n room k j (get_or decks j x) (f.each j x w));
        numbered = λ j number t stands. dite (ℕ_discrete j d)
            (λ (same : j ≡ d).
            let item = subst (λ (l : List (Item T)). get_elem? l stands.0 ≡ some (Task number t))
            (ap (λ (l : List (List (Item T))). get_or l j []) split ∙ ap (λ i. get_or (set qs d (queue_of new)) i []) same ∙ get_or-set_same qs d (queue_of new) [] inside ∙ queue) stands.1 in
            ⊎_elim
            (λ (x : get_elem? (queue_of old) stands.0 ≡ some (Task number t)). f.numbered d number t (stands.0, subst (λ (l : List (Item T)). get_elem? l stands.0 ≡ some (Task number t)) (sym here) x))
            (λ (x : Task k task ≡ Task number t). subst (IsNumbered tasks) x is)
            (at_snoc (queue_of old) (Task k task) (Task number t) stands.0 item))
            (λ (ne : j ≢ d). f.numbered j number t (
              stands.0,
              subst (λ (l : List (Item T)). get_elem? l stands.0 ≡ some (Task number t))
                  (ap (λ (l : List (List (Item T))). get_or l j []) split ∙ get_or-set_other qs d j (queue_of new) [] ne) stands.1,
            ));
        once = λ h.
            let w : List (Item T) → ℕ = λ q. weigh (number_weight h) q in
            let before : weigh w qs ≡ weigh h (numbers_below k) = f.once h in
            let now : weigh w (map queue_of (set decks d new)) ≡ weigh w (set qs d (queue_of new)) = ap (weigh w) split in
            let there : get_elem? qs d ≡ some (queue_of old) = at_index qs d (queue_of old) inside (sym (get_or-map queue_of decks d e (queue_of old) within)) in
            let change = weigh_set w qs d (queue_of old) (queue_of new) there in
            let one : w (queue_of new) ≡ w (queue_of old) + (h k + 0) = ap w queue ∙ weigh_append (number_weight h) (queue_of old) (Task k task ∷ []) in
            let last = weigh_append h (numbers_below k) (k ∷ []) in
            omega arith;
      }

  pub filling_next : (n room k : ℕ) (tasks : List T) (decks : List (Deck T)) (e new : Deck T) (task : T) → 0 < n → AreFilling n room k tasks decks
      → HasMore (get_or decks (k % n) e) new (Task k task) → slice_get tasks k ≡ Some task → AreFilling n room (k + 1) tasks (set decks (k % n) new)
  filling_next n room k tasks decks e new task some_seats f more is =
      subst (λ m. AreFilling n room m tasks (set decks (k % n) new)) (sym (add-one k)) (filling_more n room k tasks decks e new task some_seats f more is)
