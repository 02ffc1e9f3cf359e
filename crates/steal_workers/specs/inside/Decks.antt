-- The deques of a deal while it is made.
use Rattle.std.specs.Prelude.{◌≡◌, ℕ, zero, suc, ◌+◌, ◌*◌, ◌≤◌, true, List, [], ◌∷◌, ◌++◌, map, length, slice_get, slice_index_or, Some, All, vec_len, vec_capacity}
use Rattle.atomic_blocks.specs.Lent.{RowsId}
use Rattle.crossbeam_deque.specs.Handles.{worker_deque, worker_flavor, worker_view, worker_capacity, worker_index, stealer_deque, stealer_flavor}
use Rattle.steal_workers.specs.declared.item.Item.{Item}
use Rattle.steal_workers.specs.declared.item.Item.TheVariants.{Task, Mark}
use Rattle.steal_workers.specs.declared.deck.Deck.{Deck}
use Rattle.crossbeam_deque.specs.declared.handles.Stealer.{Stealer}
use Rattle.list_weights.specs.Places.{EachAt}
use Rattle.list_weights.specs.Weights.{weigh, numbers_below}
use Rattle.steal_workers.specs.inside.Items.{marks, number_weight, Stands}
use Rattle.steal_workers.specs.OneDeque.{after_push}

-- it steals from that deque, which is first in first out
abbrev pub IsThiefOf : {X A V P : Type 0} → RowsId × A → Stealer X A V P → Type 0
IsThiefOf deque thief = (stealer_deque thief ≡ deque) × (stealer_flavor thief ≡ 0)

module _ {T : Type 0} where
  -- n end marks
  abbrev pub mark_list : ℕ → List (Item T)
  mark_list zero = []
  mark_list (suc n) = mark_list n ++ Mark ∷ []

  abbrev pub queue_of : Deck T → List (Item T)
  queue_of deck = (worker_view deck.deque).dealt

  -- a deck for n seats, of which nothing is taken
  pub record IsDeck (n : ℕ) (deck : Deck T) : Type 0 where
    pub fifo : worker_flavor deck.deque ≡ 0
    pub deals : (worker_view deck.deque).deals ≡ true
    pub share : (worker_view deck.deque).share ≡ marks (queue_of deck)
    pub taken : (worker_view deck.deque).taken ≡ []
    pub thieves : All (IsThiefOf (worker_deque deck.deque)) deck.thieves.items
    pub count : vec_len deck.thieves + 1 ≡ n
    pub empty : deck.shares.items ≡ []
    pub room : n ≤ vec_capacity deck.shares

  -- The deck at the place d while k tasks are dealt in turn over n decks.
  pub record IsFilling (n room k d : ℕ) (deck : Deck T) : Type 0 where
    pub sound : IsDeck n deck
    pub capacity : room ≤ worker_capacity deck.deque
    pub level : worker_index deck.deque * n + d + 1 ≤ k + n
    pub unmarked : marks (queue_of deck) ≡ 0

  -- the first k tasks are dealt, each once, with its number
  pub record AreFilling (n room k : ℕ) (tasks : List T) (decks : List (Deck T)) : Type 0 where
    pub count : length decks ≡ n
    pub each : EachAt (IsFilling n room k) decks
    pub numbered : (d number : ℕ) (task : T) → Stands (slice_index_or (map queue_of decks) d []) (Task number task) → slice_get tasks number ≡ Some task
    pub once : (h : ℕ → ℕ) → weigh (λ queue. weigh (number_weight h) queue) (map queue_of decks) ≡ weigh h (numbers_below k)

  -- the same deck with one item more
  pub record HasMore (old new : Deck T) (item : Item T) : Type 0 where
    pub fifo : worker_flavor new.deque ≡ worker_flavor old.deque
    pub same : worker_deque new.deque ≡ worker_deque old.deque
    pub capacity : worker_capacity old.deque ≤ worker_capacity new.deque
    pub index : worker_index new.deque ≡ worker_index old.deque + 1
    pub view : worker_view new.deque ≡ after_push (worker_view old.deque) (item ∷ [])
    pub thieves : new.thieves ≡ old.thieves
    pub shares : new.shares ≡ old.shares
