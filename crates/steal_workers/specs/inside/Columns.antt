-- The shares of a deal's deques while seats are made.
use Rattle.std.specs.Prelude.{◌≡◌, ℕ, ◌+◌, ◌<◌, ◌==◌, false, List, [], ◌++◌, map, take, length, slice_index_or, Vec}
use Rattle.std.specs.declared.alloc.Global.{Global}
use Rattle.atomic_blocks.specs.Lent.{RowsId}
use Rattle.crossbeam_deque.specs.Handles.{worker_deque}
use Rattle.list_weights.specs.Places.{EachAt}
use Rattle.steal_workers.specs.declared.item.Item.{Item}
use Rattle.steal_workers.specs.declared.deck.Deck.{Deck}
use Rattle.steal_workers.specs.declared.share.Share.{Share}
use Rattle.steal_workers.specs.inside.Handles.{deque_of, is_own}
use Rattle.steal_workers.specs.inside.Shares.{IsShare, dealt_to, taken_from}
use Rattle.steal_workers.specs.inside.Decks.{mark_list, queue_of}

module _ {T : Type 0} where
  -- what is dealt to a deck once the end marks of n seats stand behind its tasks
  abbrev pub closed : ℕ → Deck T → List (Item T)
  closed n deck = queue_of deck ++ mark_list n

  abbrev pub deck_deque : Deck T → RowsId × Global
  deck_deque deck = worker_deque deck.deque

  -- a share that no seat has used, of that deque, to which those items were dealt
  pub record IsFresh (deque : RowsId × Global) (items : List (Item T)) (share : Share T) : Type 0 where
    pub sound : IsShare share
    pub same_deque : deque_of share.handle ≡ deque
    pub dealt : dealt_to share ≡ items
    pub taken : taken_from share ≡ []
    pub unmarked : share.marked ≡ false

  -- Shares of the deque at the place d, those of the last seats first: its owner's is its own.
  abbrev pub IsColumn : RowsId × Global → List (Item T) → ℕ → ℕ → List (Share T) → Type 0
  IsColumn deque items n d shares = (i j : ℕ) (e : Share T) → i < length shares → i + j + 1 ≡ n
      → IsFresh deque items (slice_index_or shares i e) × (is_own (slice_index_or shares i e).handle ≡ (j == d))

  -- the columns of all decks
  pub record AreColumns (decks : List (Deck T)) (n : ℕ) (columns : List (Vec (Share T) Global)) : Type 0 where
    pub count : length columns ≡ n
    pub same_count : length decks ≡ n
    pub each : EachAt (λ d column. (e : Deck T) → IsColumn (deck_deque (slice_index_or decks d e)) (closed n (slice_index_or decks d e)) n d column.items) columns

  -- the shares of the seat at that place in the first d deques
  pub record IsRow (decks : List (Deck T)) (n d place : ℕ) (shares : List (Share T)) : Type 0 where
    pub count : length shares ≡ d
    pub deques : map (λ (share : Share T). deque_of share.handle) shares ≡ take d (map deck_deque decks)
    pub queues : map dealt_to shares ≡ take d (map (closed n) decks)
    pub each : EachAt (λ j share. IsShare share × (taken_from share ≡ []) × (share.marked ≡ false) × (is_own share.handle ≡ (j == place))) shares
