-- No parcel is lost, and none stands twice.
use Rattle.std.specs.Prelude.{◌≡◌, ℕ, ◌+◌, List, nat_le, Vec}
use Rattle.std.specs.declared.alloc.Global.{Global}
use Rattle.host_inbox.specs.declared.entry.Entry.{Entry}
use Rattle.list_weights.specs.Weights.{weigh, only}
use Rattle.host_inbox.specs.Entries.{inbox_places}

module _ {T : Type 0} where
  -- a parcel that was given back, because its number has no place, weighs what it does, and another nothing
  abbrev pub back_weight : (T → ℕ) → Entry T → ℕ
  back_weight h e = only (nat_le inbox_places e.number) (h e.parcel)

  -- However parcels are weighed, those that are drained and those that were given back weigh what was put.
  abbrev pub AreKept : List (Entry T) → List (Vec T Global) → Type 0
  AreKept entries rows = (h : T → ℕ) → weigh (λ row. weigh h row.items) rows + weigh (back_weight h) entries ≡ weigh (λ e. h e.parcel) entries
