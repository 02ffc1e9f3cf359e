-- What a deal needs memory for, and what is made of it.
use Rattle.std.specs.Prelude.{◌≡◌, ℕ, ◌+◌, ◌≤◌, List, [], map, length, All, vec_capacity}
use Rattle.crossbeam_deque.specs.Handles.{worker_capacity, worker_index}
use Rattle.list_weights.specs.Places.{EachAt}
use Rattle.steal_workers.specs.declared.deck.Deck.{Deck}
use Rattle.steal_workers.specs.declared.dealing.SeatRow.{SeatRow}
use Rattle.steal_workers.specs.inside.Items.{marks}
use Rattle.steal_workers.specs.Deals.{Deal}
use Rattle.steal_workers.specs.SeatViews.{SeatView}
use Rattle.steal_workers.specs.WholeDeals.{IsNewSeat}
use Rattle.steal_workers.specs.inside.Decks.{IsDeck, IsFilling, queue_of}
use Rattle.steal_workers.specs.inside.Columns.{closed, deck_deque}

module _ {T : Type 0} where
  abbrev pub AreFresh : ℕ → ℕ → List (Deck T) → Type 0
  AreFresh n room decks = (length decks ≡ n) × EachAt (λ d deck. IsFilling n room 0 d deck × (queue_of deck ≡ [])) decks

  abbrev pub IsEmptyRow : ℕ → List T → SeatRow T → Type 0
  IsEmptyRow n tasks row = (row.shares.items ≡ []) × (n ≤ vec_capacity row.shares) × (row.tasks.value.items ≡ tasks)

  abbrev pub AreEmptyRows : ℕ → List T → List (SeatRow T) → Type 0
  AreEmptyRows n tasks rows = (length rows ≡ n) × All (IsEmptyRow n tasks) rows

  -- all tasks are dealt to the decks, which have room for the end marks
  abbrev pub AreFilled : ℕ → List (Deck T) → Type 0
  AreFilled n decks = EachAt (λ d deck. IsDeck n deck × (marks (queue_of deck) ≡ 0) × (worker_index deck.deque + n ≤ worker_capacity deck.deque)) decks

  abbrev pub planned : ℕ → List (Deck T) → List T → Deal T
  planned n decks tasks = record { deques = map deck_deque decks; queues = map (closed n) decks; tasks = tasks }

  abbrev pub AreSeated : Deal T → List (SeatView T) → Type 0
  AreSeated deal seats = EachAt (λ d seat. (seat.deal ≡ deal) × (seat.place ≡ d) × IsNewSeat seat) seats
