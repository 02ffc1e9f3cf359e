-- What `Seat::next` answers.
use Rattle.std.specs.Prelude.{◌≡◌, ◌≢◌, ◌⊎◌, ℕ, ◌<◌, [], ◌∷◌, ◌++◌, slice_get, Some}
use Rattle.steal_workers.specs.declared.seat.Next.{Next}
use Rattle.steal_workers.specs.declared.seat.Next.TheVariants.{Task, Empty, Lost}
use Rattle.steal_workers.specs.SeatViews.{SeatView, seat_count, HasMark, HasEveryMark}

module _ {T : Type 0} where
  -- Task: one number more, that of the task, and some mark lacks. Empty: no number more, and every mark.
  -- Lost: no number more, the mark of the seat's own deque, and not that of the named one, another's; so there is another seat.
  abbrev pub Answers : SeatView T → Next T → SeatView T → Type 0
  Answers old (Task task) new =
      ((number : ℕ) × (new.numbers ≡ old.numbers ++ number ∷ []) × (slice_get old.deal.tasks number ≡ Some task)) × (¬ HasEveryMark new)
  Answers old Empty new = (new.numbers ≡ old.numbers) × HasEveryMark new
  Answers old (Lost deque) new =
      (new.numbers ≡ old.numbers) × HasMark new new.place × (deque < seat_count new.deal) × (deque ≢ new.place) × (1 < seat_count new.deal) × (¬ HasMark new deque)

  -- the seat as it is after an answer that is no task
  abbrev pub FoundNone : SeatView T → Type 0
  FoundNone seat = (old : SeatView T) × (Answers old Empty seat ⊎ ((deque : ℕ) × Answers old (Lost deque) seat))
