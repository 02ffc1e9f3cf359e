-- The next expiry, case by case.
use Rattle.std.proofs.Common.{◌≡◌, ◌≤◌, ℕ, Option, Some, None, subst}
use Rattle.std.specs.Prelude.{MatchOption}
use Rattle.host_timers.specs.Timer.{Expires, TimerState, expiry, next_due}
use Rattle.host_timers.proofs.TimerLaws.{IsFirstAfter, next_due_is_first}

abbrev Answers : TimerState → ℕ → Option ℕ → Type 0
Answers t now answer = MatchOption answer ((k : ℕ) → Expires t k → expiry t k ≤ now) (IsFirstAfter t now)

pub first_after : (t : TimerState) (now due : ℕ) → next_due t now ≡ Some due → IsFirstAfter t now due
first_after t now due is = subst (Answers t now) is (next_due_is_first t now)

pub none_after : (t : TimerState) (now k : ℕ) → next_due t now ≡ None → Expires t k → expiry t k ≤ now
none_after t now k is = (let all : Answers t now None = subst (Answers t now) is (next_due_is_first t now) in all k)
